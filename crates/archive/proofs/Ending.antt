-- Archives that keep each item as a row of its own. Assumes nothing.
use Rattle.std.proofs.Common.{◌≡◌, ℕ, ◌-◌, ◌<◌, List, [], ◌∷◌, ◌++◌, length, get_or, Some, None, ap, ◌∙◌}
use Rattle.std.proofs.lemmas.Bool.{lt-ltb, cond-true}
use Rattle.consolidation.specs.Laws.{Lawful}
use Rattle.archive.specs.Entries.{Counted}
use Rattle.archive.specs.Meanings.{newest, stored, asked, ending}
use Rattle.archive.proofs.Showing.{shown_whole}

-- they show each row as it is held
pub asked-ending : {M : Type 0} (empty : M) (counts : Counted M) (span : ℕ) (rows : List M) (age : ℕ) → age < length rows
    → asked empty counts (ending empty span rows) age ≡ Some (get_or rows (length rows - 1 - age) empty)
asked-ending empty counts span rows age young =
    cond-true _ _ None (lt-ltb age (length rows) young) ∙ ap Some (shown_whole counts (get_or rows (length rows - 1 - age) empty))

module _ {M : Type 0} {empty : M} {joined : M → M → M} (laws : Lawful empty joined) where
  pub stored-ending : (span : ℕ) (rows : List M) (x : M) → stored empty joined (ending empty span rows) x ≡ ending empty span (newest span (rows ++ x ∷ []))
  stored-ending span rows x = ap (λ y. ending empty span (newest span (rows ++ y ∷ []))) (laws.left_unit x)
