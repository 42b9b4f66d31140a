-- What an image ring tells. Assumes nothing.
use Rattle.std.specs.Prelude.{◌≡◌, ℕ, ◌<◌, ◌≤◌, List, length, ℤ, Option}
use Rattle.std.proofs.Common.{arith}
use Rattle.std.proofs.lemmas.List.FromFn.{length-map-range_with_len}
use Rattle.archive.specs.Entries.{empty_item}
use Rattle.archive.specs.Meanings.{Sound}
use Rattle.archive.specs.Rings.{Turning}
use Rattle.archive.specs.declared.cursor.Cursor.{Cursor}
use Rattle.archive.specs.RingsLemmas.{ring_length, ring_sound}
use Rattle.element.specs.declared.fault.ElementFault.{ElementFault}
use Rattle.image.specs.declared.header.Header.{Header}
use Rattle.image.specs.Opened.{Opened, image_meaning}
use Rattle.image.specs.Rings.{meaning_of, slots}
use Rattle.image.specs.Rows.{item_at}

module _ {E : Type 0} (empty : E) (decoded : ℤ → ℕ → E) (c : Cursor) (s : List ℕ) where
  room : Turning c → c.held ≤ length (slots decoded c.span s)
  room turning =
      let all : length (slots decoded c.span s) ≡ c.span = length-map-range_with_len (item_at decoded s) 0 c.span in
      let within = turning.within in
      omega arith

  -- a ring holds as many rows as its cursor says
  pub ring_held : Turning c → length (meaning_of empty decoded c s).rows ≡ c.held
  ring_held turning = ring_length c (slots decoded c.span s) (room turning)

  -- and keeps to the ranges
  pub image_ring_sound : Turning c → Sound (meaning_of empty decoded c s)
  image_ring_sound turning = ring_sound c (slots decoded c.span s) (empty_item empty) turning (room turning)

-- an image of the ring's bytes, by its header and the bytes that it reads: it was opened, and means what the ring does
pub record ImageOfRing (kind : ℕ) (fault : ℤ → ℕ → Option ElementFault) {E : Type 0} (empty : E) (decoded : ℤ → ℕ → E) (c : Cursor) (s : List ℕ) (h : Header) (t : List ℕ) : Type 0 where
  pub some_rows : 0 < c.span
  pub of_bytes : t ≡ s
  pub opened : Opened kind fault h t
  pub same_meaning : image_meaning empty decoded t ≡ meaning_of empty decoded c s
