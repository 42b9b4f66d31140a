use Rattle.std.proofs.Common.{ℕ, List, [], ◌∷◌, get_or, ℤ, pos, w64, SFits, rules}
use Rattle.std.specs.Fmt.{signed_decimal}
use Rattle.std.proofs.lemmas.Int.{to_z-of_z}
use Rattle.listing.proofs.Texts.{extends_adds, extends_not, grown_next, grown_stop, grown_all}
use Rattle.listing.proofs.text.put_ending.Goals as goal

abbrev spaced : ℤ → List ℕ
spaced z = 32 ∷ signed_decimal z

pub loop-number-preserved : goal.loop-number-preserved
loop-number-preserved c =
    let fits : SFits w64 (get_or c.args.numbers.now c.loop-number.number-index (pos 0)) = search rules in
    grown_next spaced c.args.numbers.now (pos 0) c.loop-number.number-index c.loop-number-test.true c.loop-number.invariant (simp to_z-of_z at c.in_ok-put_spaced.ensures)

pub returns-in_err-put_spaced : goal.returns-in_err-put_spaced
returns-in_err-put_spaced c =
    let fits : SFits w64 (get_or c.args.numbers.now c.loop-number.number-index (pos 0)) = search rules in
    extends_not c.args.text.now c.put_spaced.new.text _ c.from_residual.result c.from_residual.ensures.0
    (grown_stop spaced c.args.numbers.now (pos 0) c.loop-number.number-index (10 ∷ []) c.loop-number-test.true c.loop-number.invariant (simp to_z-of_z at c.in_err-put_spaced.ensures))

pub returns : goal.returns
returns c =
    extends_adds c.put.new.self (10 ∷ []) c.put.result
    (grown_all spaced c.args.numbers.now (pos 0) c.loop-number.number-index c.loop-number-test.false c.loop-number.invariant)
    c.put.ensures
