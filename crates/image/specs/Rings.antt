-- A ring of rows that lies in bytes as an image. Assumes nothing.
use Rattle.std.specs.Prelude.{◌≡◌, ℕ, ◌+◌, ◌-◌, ◌*◌, ◌/◌, ◌<◌, cond, List, ◌++◌, map, length, replicate, ℤ, None, Option, ◌==◌}
use Rattle.std.specs.List.{range_with_len}
use Rattle.archive.specs.Entries.{empty_item}
use Rattle.archive.specs.Meanings.{Meaning}
use Rattle.archive.specs.Rings.{Turning, cursor, ring_meaning, ring_span, turned_on}
use Rattle.archive.specs.declared.cursor.Cursor.{Cursor}
use Rattle.lent_bytes.specs.Placed.{placed}
use Rattle.consolidation.specs.declared.item.Item.{Item}
use Rattle.element.specs.declared.fault.ElementFault.{ElementFault}
use Rattle.image.specs.declared.header.Header.{Header}
use Rattle.image.specs.Headers.{header_in}
use Rattle.image.specs.Images.{image_fault, rows_in}
use Rattle.image.specs.Numbers.{bytes32}
use Rattle.image.specs.Rows.{row_start, fault_at, item_at, row_bytes}

-- how many rows take so many bytes with the header, and 0 where no number of rows does
abbrev pub rows_for : ℕ → ℕ
rows_for len =
    let n = (len - 24) / 20 in
    cond (len == 24 + 20 * n) n 0

-- N, if the bytes are 24 + 20 × N for an N from 1 to 3,000; if not, 0
abbrev pub image_span : ℕ → ℕ
image_span len = ring_span (rows_for len)

-- the header of a ring
abbrev pub header_of : (kind : ℕ) → Cursor → Header
header_of kind c = record { kind = kind; span = c.span; held = c.held; head = c.head; offset = 24; total = 24 + 20 * c.span }

-- its six numbers, one after the other
abbrev pub header_bytes : Header → List ℕ
header_bytes h = bytes32 h.kind ++ bytes32 h.span ++ bytes32 h.held ++ bytes32 h.head ++ bytes32 h.offset ++ bytes32 h.total

-- a ring that holds no row: its header, and zeroes; bytes that are no ring stay as they are
abbrev pub laid_out : (kind : ℕ) → List ℕ → List ℕ
laid_out kind s =
    let span = image_span (length s) in
    cond (span == 0) s (header_bytes (header_of kind (cursor span 0 0)) ++ replicate (20 * span) 0)

-- the numbers of rows held and of the place that is written next, in the header
abbrev pub turn_bytes : Cursor → List ℕ
turn_bytes c = bytes32 c.held ++ bytes32 c.head

-- one row more: it is written at the head, and then the two numbers are; every other byte is as it was
abbrev pub recorded : Cursor → List ℕ → List ℕ → List ℕ
recorded c row s = placed (placed s (row_start c.head) row) 8 (turn_bytes (turned_on c))

-- the bytes of an item's row
abbrev pub item_bytes : {E : Type 0} → (E → ℤ) → (E → ℕ) → Item E → List ℕ
item_bytes amount weight x = row_bytes (amount x.element) (weight x.element) x.known x.of

-- what all places hold, from place 0 on
abbrev pub slots : {E : Type 0} → (ℤ → ℕ → E) → ℕ → List ℕ → List (Item E)
slots decoded span s = map (item_at decoded s) (range_with_len 0 span)

-- what a ring means
abbrev pub meaning_of : {E : Type 0} → E → (ℤ → ℕ → E) → Cursor → List ℕ → Meaning (Item E)
meaning_of empty decoded c s = ring_meaning (empty_item empty) c (slots decoded c.span s)

module _ (kind : ℕ) (fault : ℤ → ℕ → Option ElementFault) where
  -- what a ring keeps to: its header is in the bytes, and no row that is held has a bad element
  pub record Kept (c : Cursor) (s : List ℕ) : Type 0 where
    pub turning : Turning c
    pub span_is : c.span ≡ image_span (length s)
    pub header_is : 0 < c.span → header_in s ≡ header_of kind c
    pub elements : (place : ℕ) → place < c.held → fault_at fault s place ≡ None

  -- the bytes of a ring are an image without fault, and show just its rows
  pub record Shows {E : Type 0} (decoded : ℤ → ℕ → E) (m : Meaning (Item E)) (s : List ℕ) : Type 0 where
    pub no_fault : image_fault kind fault s ≡ None
    pub span_shown : (header_in s).span ≡ m.span
    pub rows_shown : rows_in decoded s ≡ m.rows
