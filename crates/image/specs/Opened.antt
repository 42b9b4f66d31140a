-- What an opened image keeps to, and what it means. Assumes nothing.
use Rattle.std.specs.Prelude.{◌≡◌, ℕ, ◌<◌, List, length, ℤ, None, Option}
use Rattle.archive.specs.Entries.{empty_item}
use Rattle.archive.specs.Meanings.{Meaning, ending}
use Rattle.consolidation.specs.declared.item.Item.{Item}
use Rattle.element.specs.declared.fault.ElementFault.{ElementFault}
use Rattle.image.specs.declared.header.Header.{Header}
use Rattle.image.specs.Headers.{header_in, Sound}
use Rattle.image.specs.Images.{image_fault, rows_in}
use Rattle.image.specs.Rows.{fault_at}

-- the bytes of an image as an archive: each item is a row of its own, and all that is held is shown
abbrev pub image_meaning : {E : Type 0} → E → (ℤ → ℕ → E) → List ℕ → Meaning (Item E)
image_meaning empty decoded s = ending (empty_item empty) (header_in s).span (rows_in decoded s)

module _ (kind : ℕ) (fault : ℤ → ℕ → Option ElementFault) where
  -- the bytes have no fault, and the header is theirs
  pub record Opened (header : Header) (s : List ℕ) : Type 0 where
    pub sound : image_fault kind fault s ≡ None
    pub header_is : header ≡ header_in s

  -- so the header keeps to its rules, and no row that is held has a bad element
  pub record Ruled (s : List ℕ) : Type 0 where
    pub header : Sound kind (length s) (header_in s)
    pub elements : (place : ℕ) → place < (header_in s).held → fault_at fault s place ≡ None
