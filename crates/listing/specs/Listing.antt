-- The listing of an image, as text. Assumes nothing.
use Rattle.std.specs.Prelude.{ℕ, List, [], ◌∷◌, ◌++◌, ℤ, pos, Some, None, Ok, Err, codes, Option, Result}
use Rattle.std.specs.List.{flat_map}
use Rattle.std.specs.Fmt.{signed_decimal}
use Rattle.consolidation.specs.declared.item.Item.{Item}
use Rattle.element.specs.declared.fault.ElementFault.{ElementFault}
use Rattle.image.specs.declared.fault.ImageFault.{ImageFault}
use Rattle.image.specs.declared.fault.ImageFault.TheVariants.{Length, Kind as KindFault, Span, Held, Head, Offset, Total, Element}
use Rattle.element.specs.declared.kind.Kind.{Kind}
use Rattle.element.specs.declared.kind.Kind.TheVariants.{Min, Max, Last, Mean}
use Rattle.element.specs.Elements.{single_fault}
use Rattle.element.specs.Faults.{number_of_element_fault}
use Rattle.image.specs.Faults.{number_of_fault, byte_of_fault}
use Rattle.image.specs.Headers.{header_in, kind_read}
use Rattle.image.specs.Images.{image_fault, places}
use Rattle.element.specs.Kinds.{number_of_kind}
use Rattle.image.specs.Rows.{amount_at, weight_at, known_at, of_at}
use Rattle.listing.specs.Lines.{line}

-- `image KIND N HELD`
abbrev pub header_line : List ℕ → List ℕ
header_line s = line (codes "image") (pos (header_in s).kind ∷ pos (header_in s).span ∷ pos (header_in s).held ∷ [])

-- amount, weight, known and of, as an item tells them
abbrev pub item_line : {E : Type 0} → (E → ℤ) → (E → ℕ) → Item E → List ℕ
item_line amount weight x = line (signed_decimal (amount x.element)) (pos (weight x.element) ∷ pos x.known ∷ pos x.of ∷ [])

-- the same, as the row at a place has them
abbrev pub row_line : List ℕ → ℕ → List ℕ
row_line s place = line (signed_decimal (amount_at s place)) (pos (weight_at s place) ∷ pos (known_at s place) ∷ pos (of_at s place) ∷ [])

-- the header, and then the rows that are held, the oldest first
abbrev pub shown : List ℕ → List ℕ
shown s = header_line s ++ flat_map (row_line s) (places (header_in s))

-- of a bad element, its place and what is wrong with it
abbrev pub details : ImageFault → List ℤ
details (Element bad) = pos bad.place ∷ pos (number_of_element_fault bad.fault) ∷ []
details Length = []
details KindFault = []
details Span = []
details Held = []
details Head = []
details Offset = []
details Total = []

abbrev pub refusal : ImageFault → List ℕ
refusal f = line (codes "refused") (pos (number_of_fault f) ∷ pos (byte_of_fault f) ∷ details f)

-- what is wrong with an element of a kind
abbrev pub element_fault : Kind → ℤ → ℕ → Option ElementFault
element_fault Min = single_fault
element_fault Max = single_fault
element_fault Last = single_fault
element_fault Mean = λ _ _. None

abbrev pub shown_unless : Option ImageFault → List ℕ → List ℕ
shown_unless None s = shown s
shown_unless (Some f) s = refusal f

abbrev pub listing_of : Result Kind ImageFault → List ℕ → List ℕ
listing_of (Ok kind) s = shown_unless (image_fault (number_of_kind kind) (element_fault kind) s) s
listing_of (Err f) s = refusal f

-- what is printed of these bytes
abbrev pub listing : List ℕ → List ℕ
listing s = listing_of (kind_read s) s
