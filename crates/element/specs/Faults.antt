-- The numbers of an element's faults, and which of several faults answers. Assumes nothing.
use Rattle.std.specs.Prelude.{ℕ, Some, None, Ok, Err, Option, Result}
use Rattle.std.specs.Option.{option_or}
use Rattle.element.specs.declared.fault.ElementFault.{ElementFault}
use Rattle.element.specs.declared.fault.ElementFault.TheVariants.{WeightAboveOne, AmountWithoutWeight, AmountTooWide}

abbrev pub number_of_element_fault : ElementFault → ℕ
number_of_element_fault WeightAboveOne = 1
number_of_element_fault AmountWithoutWeight = 2
number_of_element_fault AmountTooWide = 3

-- the first of two faults that is there
infixl 20 ◌or◌
abbrev pub ◌or◌ : {F : Type 0} → Option F → Option F → Option F
◌or◌ = option_or

-- a value, unless there is a fault
abbrev pub unless : {F X : Type 0} → Option F → X → Result X F
unless (Some f) x = Err f
unless None x = Ok x
