-- The numbers and the bytes of an image's faults. Assumes nothing.
use Rattle.std.specs.Prelude.{ℕ, zero, suc, None, Option}
use Rattle.element.specs.Faults.{◌or◌}
use Rattle.image.specs.declared.fault.ImageFault.{ImageFault}
use Rattle.image.specs.declared.fault.ImageFault.TheVariants.{Length, Kind, Span, Held, Head, Offset, Total, Element}

abbrev pub number_of_fault : ImageFault → ℕ
number_of_fault Length = 14
number_of_fault Kind = 15
number_of_fault Span = 16
number_of_fault Held = 17
number_of_fault Head = 17
number_of_fault Offset = 18
number_of_fault Total = 18
number_of_fault (Element bad) = 19

abbrev pub byte_of_fault : ImageFault → ℕ
byte_of_fault Length = 0
byte_of_fault Kind = 0
byte_of_fault Span = 4
byte_of_fault Held = 8
byte_of_fault Head = 12
byte_of_fault Offset = 16
byte_of_fault Total = 20
byte_of_fault (Element bad) = bad.byte

-- of the places 0 to n - 1, the fault of the earliest that has one
abbrev pub earliest : {F : Type 0} → (ℕ → Option F) → ℕ → Option F
earliest fault zero = None
earliest fault (suc n) = earliest fault n or fault n
