-- Numbered values, joined in their order. Assumes nothing.
use Rattle.std.specs.Prelude.{ℕ, zero, suc, ◌+◌}

module _ {M : Type 0} (empty : M) (joined : M → M → M) where
  -- f from, f (from + 1), and so on, n of them
  abbrev pub gather : (ℕ → M) → (from n : ℕ) → M
  gather f from zero = empty
  gather f from (suc n) = joined (gather f from n) (f (from + n))
