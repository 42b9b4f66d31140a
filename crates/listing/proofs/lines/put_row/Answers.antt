use Rattle.std.proofs.Common.{◌≡◌, ◌^◌, ◌<◌, [], ◌∷◌, pos, ap, ◌∙◌, w64, SFits, to_z, of_z, rules}
use Rattle.std.proofs.lemmas.Int.{to_z-of_z}
use Rattle.listing.proofs.Texts.{extends_line, widened}
use Rattle.listing.proofs.lines.put_row.Goals as goal

pub returns : goal.returns
returns g c =
    let fits : SFits w64 c.amount.result = search rules in
    let weight_fits : c.weight.result < 2 ^ 32 = search rules in
    let known_fits : c.args.row.known < 2 ^ 32 = search rules in
    let of_fits : c.args.row.of < 2 ^ 32 = search rules in
    let told : to_z w64 (of_z w64 c.amount.result) ≡ g.E.Consolidation.amount c.args.row.element = to_z-of_z w64 c.amount.result fits ∙ c.amount.ensures in
    extends_line c.put_ending.new.text _ _ c.put_ending.result
    (λ i. (widened c.weight.result weight_fits ∙ ap pos c.weight.ensures) i ∷ widened c.args.row.known known_fits i ∷ widened c.args.row.of of_fits i ∷ [])
    (rw told at c.in_ok-add.ensures)
    c.put_ending.ensures
