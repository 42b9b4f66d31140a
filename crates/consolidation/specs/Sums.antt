-- Sums that wrap at the width of their type. Assumes nothing.
use Rattle.std.specs.Prelude.{ℕ, ◌+◌, ◌%◌, ◌^◌, Bool, cond, ℤ, ◌+ℤ◌, nat_lt}
use Rattle.std.specs.Int.Signed.{mag}
use Rattle.std.specs.Int.{int_wrap, w64}

-- Here a number has no width. Of two numbers that fit, the sum that wraps; where one does not fit, which no value of the type is, the first such one.
-- So the laws of joining hold of all numbers, with no premise.
abbrev pub sum_within : {A : Type 0} → (A → Bool) → (A → A → A) → A → A → A
sum_within fits sum a b = cond (fits a) (cond (fits b) (sum a b) b) a

abbrev pub fits32 : ℕ → Bool
fits32 n = nat_lt n (2 ^ 32)

-- modulo 2 ^ 32
unfoldable pub sum32 : ℕ → ℕ → ℕ
sum32 = sum_within fits32 (λ a b. (a + b) % 2 ^ 32)

abbrev pub fits64 : ℤ → Bool
fits64 z = nat_lt (mag z) (2 ^ 63)

-- modulo 2 ^ 64, taken as signed
unfoldable pub sum64 : ℤ → ℤ → ℤ
sum64 = sum_within fits64 (λ a b. int_wrap w64 (a +ℤ b))
