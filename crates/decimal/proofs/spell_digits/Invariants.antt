use Rattle.std.proofs.Common.{◌≡◌, ◌≤◌, ◌++◌, length, drop, decimal}
use Rattle.decimal.proofs.spell_digits.Given as goal

abbrev pub invariant-loop-rest : goal.invariant-loop-rest
invariant-loop-rest l =
    (length l.scratch ≡ 20)
    × (l.start ≤ 20)
    × (l.rest ≤ l.value)
    × (decimal l.value ≡ decimal l.rest ++ drop l.start l.scratch)

abbrev pub decreases-loop-rest : goal.decreases-loop-rest
decreases-loop-rest l = l.rest
