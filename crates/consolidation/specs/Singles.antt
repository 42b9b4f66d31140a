-- One reading or none. Assumes nothing.
use Rattle.std.specs.Prelude.{ℕ, zero, suc, ℤ, pos, Some, None, Option}
use Rattle.consolidation.specs.declared.single.Single.{Single}

abbrev pub single : {P : Type 0} → Option ℤ → Single P
single r = record { reading = r; pick = record {} }

-- of two readings the one that is picked; of one and none the one
abbrev pub either : (ℤ → ℤ → ℤ) → Option ℤ → Option ℤ → Option ℤ
either pick None y = y
either pick (Some a) None = Some a
either pick (Some a) (Some b) = Some (pick a b)

abbrev pub single_joined : {P : Type 0} → (ℤ → ℤ → ℤ) → Single P → Single P → Single P
single_joined pick x y = single (either pick x.reading y.reading)

-- the later of two readings
abbrev pub later_of : ℤ → ℤ → ℤ
later_of earlier later = later

-- a reading over some seconds: none where there is no second
abbrev pub reading_over : ℤ → ℕ → Option ℤ
reading_over v zero = None
reading_over v (suc n) = Some v

abbrev pub amount_of : Option ℤ → ℤ
amount_of None = pos 0
amount_of (Some v) = v

abbrev pub weight_of : Option ℤ → ℕ
weight_of None = 0
weight_of (Some v) = 1
