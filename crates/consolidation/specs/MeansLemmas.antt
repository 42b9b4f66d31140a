-- The laws of the mean. Assumes nothing.
use Rattle.std.specs.Prelude.{◌≡◌, ℕ, ◌+◌, ◌-◌, ◌^◌, ◌<◌, ◌≤◌, ℤ, pos, ◌+ℤ◌, ◌*ℤ◌, FitsSigned}
use Rattle.std.proofs.Common.{arith, rules, to_z, of_z}
use Rattle.std.proofs.Math.IntN.{*ℤ-zero}
use Rattle.std.specs.Int.{w32, w64}
use Rattle.std.proofs.lemmas.Int.{ints, to_z-of_z, to_z_pos, int_wrap_fits, fits_signed_mul}
use Rattle.consolidation.specs.Laws.{Lawful}
use Rattle.consolidation.specs.Means.{mean, mean_joined, mean_held}
use Rattle.consolidation.specs.SumsLemmas.{sum32_lawful, sum32_fits, sum64_lawful, sum64_fits}

pub mean_lawful : Lawful (mean (pos 0) 0) mean_joined
mean_lawful = search (rules, sum32_lawful, sum64_lawful)

pub mean_instant : (v : ℤ) → FitsSigned w32 v → mean_held v 0 ≡ mean (pos 0) 0
mean_instant v f = rw *ℤ-zero

-- a reading times seconds fits 64 bits
pub product_fits : (v : ℤ) (n : ℕ) → FitsSigned w32 v → n < 2 ^ 32 → FitsSigned w64 (v *ℤ pos n)
product_fits v n f p = fits_signed_mul w64 v (pos n) (2 ^ 31) (2 ^ 32 - 1) (omega (arith, ints)) (omega (arith, ints)) (omega arith)

-- it is what `v as i64 * n as i64` is
pub product_is : (v : ℤ) (n : ℕ) → FitsSigned w32 v → n < 2 ^ 32 → to_z w64 (of_z w64 (to_z w32 (of_z w32 v))) *ℤ to_z w64 n ≡ v *ℤ pos n
product_is v n f p =
    let reading : to_z w64 (of_z w64 (to_z w32 (of_z w32 v))) ≡ v = omega (arith, ints) in
    let seconds : to_z w64 n ≡ pos n = omega (arith, ints) in
    λ i. reading i *ℤ seconds i

-- for the code that multiplies
pub ruleset products = (product_fits, product_is, to_z-of_z, to_z_pos)

-- a product with a sum
pub spread : (v : ℤ) (a b : ℕ) → v *ℤ pos (a + b) ≡ v *ℤ pos a +ℤ v *ℤ pos b
spread v a b = omega (arith, ints)

pub mean_cut : (v : ℤ) (a b : ℕ) → FitsSigned w32 v → a + b ≤ 4294967295 → mean_held v (a + b) ≡ mean_joined (mean_held v a) (mean_held v b)
mean_cut v a b f h = search (rules, spread v a b, product_fits, int_wrap_fits, sum32_fits, sum64_fits)
