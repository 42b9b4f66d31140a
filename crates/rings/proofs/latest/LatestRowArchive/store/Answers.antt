use Rattle.std.proofs.Common.{◌≡◌, [], ◌∷◌, ◌++◌, Some, None, Option, option_to_list, sym, refl, ap, ◌∙◌}
use Rattle.archive.specs.Entries.{empty_item}
use Rattle.consolidation.specs.ItemsLemmas.{item_lawful}
use Rattle.archive.specs.Meanings.{newest, ending}
use Rattle.archive.proofs.Ending.{stored-ending}
use Rattle.rings.proofs.latest.LatestRowArchive.store.Goals as goal

one_row : {X : Type 0} (row : Option X) (x : X) → newest 1 (option_to_list row ++ x ∷ []) ≡ x ∷ []
one_row None x = refl
one_row (Some y) x = refl

pub returns : goal.returns
returns g c =
    let row = c.args.self.now.row in
    let empty = empty_item g.E.Monoid.empty in
    record { kept = λ w. w; value = λ w. sym (stored-ending (item_lawful g.met.E.Monoid.lawful) 1 (option_to_list row) c.args.item ∙ ap (ending empty 1) (one_row row c.args.item)) }
