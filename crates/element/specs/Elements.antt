-- When an amount and a weight are no element. Assumes nothing.
use Rattle.std.specs.Prelude.{ℕ, ◌^◌, not, ◌&&◌, ℤ, Option, ◌==◌, nat_lt, unsigned_abs}
use Rattle.std.specs.Int.Signed.{mag}
use Rattle.std.specs.Bool.{then_some}
use Rattle.element.specs.declared.fault.ElementFault.{ElementFault}
use Rattle.element.specs.declared.fault.ElementFault.TheVariants.{WeightAboveOne, AmountWithoutWeight, AmountTooWide}
use Rattle.element.specs.Faults.{◌or◌}

-- one reading or none: the lowest fault that applies
abbrev pub single_fault : ℤ → ℕ → Option ElementFault
single_fault amount weight =
    then_some (nat_lt 1 weight) WeightAboveOne
    or then_some (weight == 0 && not (unsigned_abs amount == 0)) AmountWithoutWeight
    or then_some (not (nat_lt (mag amount) (2 ^ 31))) AmountTooWide
