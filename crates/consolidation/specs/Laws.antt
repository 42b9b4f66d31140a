-- What is asked of a joining. Assumes nothing.
use Rattle.std.specs.Prelude.{◌≡◌}

pub record Lawful {M : Type 0} (empty : M) (joined : M → M → M) : Type 0 where
  pub left_unit : (x : M) → joined empty x ≡ x
  pub right_unit : (x : M) → joined x empty ≡ x
  pub associative : (x y z : M) → joined (joined x y) z ≡ joined x (joined y z)
