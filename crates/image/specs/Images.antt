-- What is wrong with an image, and what rows it holds. Assumes nothing.
use Rattle.std.specs.Prelude.{ℕ, zero, suc, ◌+◌, ◌-◌, cond, ◌||◌, List, [], ◌∷◌, map, ℤ, Some, None, Option, nat_lt, nat_le}
use Rattle.std.specs.List.{range_with_len}
use Rattle.std.specs.Option.{option_map}
use Rattle.archive.specs.Rings.{from_place}
use Rattle.consolidation.specs.declared.item.Item.{Item}
use Rattle.image.specs.declared.fault.BadElement.{BadElement}
use Rattle.element.specs.declared.fault.ElementFault.{ElementFault}
use Rattle.image.specs.declared.fault.ImageFault.{ImageFault}
use Rattle.image.specs.declared.fault.ImageFault.TheVariants.{Element}
use Rattle.image.specs.declared.header.Header.{Header}
use Rattle.element.specs.Faults.{◌or◌}
use Rattle.image.specs.Faults.{earliest}
use Rattle.image.specs.Headers.{header_in, front_fault}
use Rattle.image.specs.Rows.{row_start, fault_at, item_at, row_in}

-- the fault of the element at a place, carried whole, with the place and the row's first byte
abbrev pub bad_element : (ℤ → ℕ → Option ElementFault) → List ℕ → ℕ → Option BadElement
bad_element fault s place = option_map (λ f. record { place = place; byte = row_start place; fault = f }) (fault_at fault s place)

-- the first fault of an image: of its length, of its header, and then of the rows that are held, the earliest place
abbrev pub image_fault : (kind : ℕ) → (ℤ → ℕ → Option ElementFault) → List ℕ → Option ImageFault
image_fault kind fault s = front_fault kind s or option_map Element (earliest (bad_element fault s) (header_in s).held)

-- The places of the rows that are held, the oldest first: from the head on, and then from place 0. Until the ring is full the head is past them all.
abbrev pub places : Header → List ℕ
places h = from_place h.head (range_with_len 0 h.held)

-- the rows of an image, the oldest first
abbrev pub rows_in : {E : Type 0} → (ℤ → ℕ → E) → List ℕ → List (Item E)
rows_in decoded s = map (item_at decoded s) (places (header_in s))

-- where the row of an index stands among them
abbrev pub place_of : (head held index : ℕ) → ℕ
place_of head held index = cond (nat_lt index (held - head)) (head + index) (index - (held - head))

-- the row that a header gives an index: none past the newest, nor by a head past the rows held, nor where it cannot be read
abbrev pub row_of : {E : Type 0} → (ℤ → ℕ → Option ElementFault) → (ℤ → ℕ → E) → Header → List ℕ → ℕ → Option (Item E)
row_of fault decoded h s index = cond (nat_le h.held index || nat_lt h.held h.head) None (row_in fault decoded s (place_of h.head h.held index))

-- a value before others; with none, nothing more
abbrev pub before : {X : Type 0} → Option X → List X → List X
before None xs = []
before (Some x) xs = x ∷ xs

-- the values of f from a number on, n of them, or up to the first that is none
abbrev pub run : {X : Type 0} → (ℕ → Option X) → (from n : ℕ) → List X
run f from zero = []
run f from (suc n) = before (f from) (run f (from + 1) n)
