use Rattle.std.proofs.Common.{◌∷◌, pos, nat_abs, ◌<ℤ◌, ap, ◌∙◌, arith, w64}
use Rattle.std.proofs.lemmas.List.{length-set}
use Rattle.std.proofs.lemmas.Int.{ints, to_z-of_z}
use Rattle.decimal.proofs.Spelling.{put_before, fills, room, minus}
use Rattle.decimal.proofs.spell.Goals as goal

pub overflow_sub-start : goal.overflow_sub-start
overflow_sub-start c = room _ _ c.unsigned_abs.ensures.bound c.spell_digits-digits.ensures.start

pub returns : goal.returns
returns c =
    let below : c.args.value <ℤ pos 0 = grind (arith, ints) in
    let some = room _ _ c.unsigned_abs.ensures.bound c.spell_digits-digits.ensures.start in
    let size = c.unsigned_abs.ensures.value ∙ ap nat_abs (to_z-of_z w64 c.args.value c.ranges.value) in
    let spelled =
    put_before c.spell_digits-digits.new.scratch _ 45 some (omega arith)
    ∙ ap (λ l. 45 ∷ l) c.spell_digits-digits.ensures.text
    ∙ minus c.args.value _ below size in
    record { text = spelled; start = fills _ _ _ (simp length-set (omega arith)) (omega arith) spelled }
