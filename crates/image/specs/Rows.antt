-- How an item lies in a row of 20 bytes. Assumes nothing.
use Rattle.std.specs.Prelude.{◌≡◌, ℕ, ◌+◌, ◌*◌, ◌<◌, ◌≤◌, cond, nat_lt, List, ◌++◌, length, ℤ, None, Ok, Err, Option, Result}
use Rattle.std.specs.Int.{w64}
use Rattle.std.specs.Result.{result_ok}
use Rattle.std.proofs.Common.{to_z, of_z}
use Rattle.lent_bytes.specs.Placed.{placed}
use Rattle.consolidation.specs.Items.{item}
use Rattle.consolidation.specs.declared.item.Item.{Item}
use Rattle.element.specs.declared.fault.ElementFault.{ElementFault}
use Rattle.element.specs.Faults.{unless}
use Rattle.image.specs.declared.row.NoRow.{NoRow}
use Rattle.image.specs.Numbers.{le32, le64, bytes32, bytes64}

-- the first byte of the row at a place
abbrev pub row_start : ℕ → ℕ
row_start place = 24 + 20 * place

-- the four numbers of that row
abbrev pub amount_at : List ℕ → ℕ → ℤ
amount_at s place = to_z w64 (le64 s (row_start place))

abbrev pub weight_at : List ℕ → ℕ → ℕ
weight_at s place = le32 s (row_start place + 8)

abbrev pub known_at : List ℕ → ℕ → ℕ
known_at s place = le32 s (row_start place + 12)

abbrev pub of_at : List ℕ → ℕ → ℕ
of_at s place = le32 s (row_start place + 16)

-- what is wrong with its element
abbrev pub fault_at : (ℤ → ℕ → Option ElementFault) → List ℕ → ℕ → Option ElementFault
fault_at fault s place = fault (amount_at s place) (weight_at s place)

-- the item that it holds
abbrev pub item_at : {E : Type 0} → (ℤ → ℕ → E) → List ℕ → ℕ → Item E
item_at decoded s place = item (decoded (amount_at s place) (weight_at s place)) (known_at s place) (of_at s place)

-- that item; none where the bytes end before the row does, or its element has a fault
abbrev pub row_in : {E : Type 0} → (ℤ → ℕ → Option ElementFault) → (ℤ → ℕ → E) → List ℕ → ℕ → Option (Item E)
row_in fault decoded s place = cond (nat_lt (length s) (row_start place + 20)) None (result_ok (unless (fault_at fault s place) (item_at decoded s place)))

-- the bytes of a row
abbrev pub row_bytes : (amount : ℤ) (weight known all : ℕ) → List ℕ
row_bytes amount weight known all = bytes64 (of_z w64 amount) ++ bytes32 weight ++ bytes32 known ++ bytes32 all

module _ {E : Type 0} (amount : E → ℤ) (weight : E → ℕ) (fault : ℤ → ℕ → Option ElementFault) (decoded : ℤ → ℕ → E) where
  -- the row is written, every other byte is as it was, and the item is read back to the last unit
  pub record RowWritten (before : List ℕ) (place : ℕ) (x : Item E) (after : List ℕ) : Type 0 where
    pub room : row_start place + 20 ≤ length before
    pub bytes : after ≡ placed before (row_start place) (row_bytes (amount x.element) (weight x.element) x.known x.of)
    pub sound : fault_at fault after place ≡ None
    pub back : item_at decoded after place ≡ x

  -- or there is no such row, and nothing is changed
  pub record Unwritten (before : List ℕ) (place : ℕ) (after : List ℕ) : Type 0 where
    pub short : length before < row_start place + 20
    pub same : after ≡ before

  abbrev pub WritesRow : List ℕ → ℕ → Item E → Result (Unit {0}) NoRow → List ℕ → Type 0
  WritesRow before place x (Ok _) after = RowWritten before place x after
  WritesRow before place x (Err _) after = Unwritten before place after
