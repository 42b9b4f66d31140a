-- The laws of sums that wrap. Assumes nothing.
use Rattle.std.specs.Prelude.{◌≡◌, ℕ, ◌+◌, ◌%◌, ◌^◌, ◌<◌, ℤ, pos, ◌+ℤ◌, FitsSigned}
use Rattle.std.proofs.Common.{rules}
use Rattle.std.proofs.Math.IntN.{+ℤ_assoc, +ℤ_idl, +ℤ_idr}
use Rattle.std.specs.Int.{int_wrap, w64}
use Rattle.std.proofs.lemmas.Int.{wraps}
use Rattle.std.proofs.lemmas.Bool.Decides.{nat_tests}
use Rattle.consolidation.specs.Laws.{Lawful}
use Rattle.consolidation.specs.Sums.{sum32, sum64}

pub sum32_lawful : Lawful 0 sum32
unfolding sum32
sum32_lawful = search (rules, nat_tests)

-- of numbers that fit, it is the sum that wraps
pub sum32_fits : (a b : ℕ) → a < 2 ^ 32 → b < 2 ^ 32 → sum32 a b ≡ (a + b) % 2 ^ 32
unfolding sum32
sum32_fits a b p q = search (rules, nat_tests)

pub sum64_lawful : Lawful (pos 0) sum64
unfolding sum64
sum64_lawful = search (rules, nat_tests, wraps, +ℤ_assoc, +ℤ_idl, +ℤ_idr)

pub sum64_fits : (a b : ℤ) → FitsSigned w64 a → FitsSigned w64 b → sum64 a b ≡ int_wrap w64 (a +ℤ b)
unfolding sum64
sum64_fits a b p q = search (rules, nat_tests)
