-- The row of an age, in the bytes of a ring and in an image. Assumes nothing.
use Rattle.std.proofs.Common.{◌≡◌, ℕ, ◌+◌, ◌-◌, ◌<◌, ◌≤◌, List, length, get_or, ℤ, Some, None, Option, sym, ap, ◌∙◌, arith}
use Rattle.std.specs.List.{slice_get}
use Rattle.std.proofs.lemmas.Option.{slice_get-get_or}
use Rattle.std.specs.Result.{result_ok}
use Rattle.std.proofs.lemmas.Bool.{le-ltb, cond-false}
use Rattle.std.proofs.lemmas.List.FromFn.{length-map-range_with_len, get_or-map-range_with_len}
use Rattle.archive.specs.Entries.{Counted, empty_item, item_counts}
use Rattle.archive.specs.Meanings.{asked, ending}
use Rattle.archive.specs.Rings.{age_place}
use Rattle.archive.specs.declared.cursor.Cursor.{Cursor}
use Rattle.archive.proofs.Ending.{asked-ending}
use Rattle.archive.proofs.Ringing.{place_held}
use Rattle.archive.proofs.Turned.{ring_found, ring_missing}
use Rattle.consolidation.specs.declared.item.Item.{Item}
use Rattle.element.specs.declared.fault.ElementFault.{ElementFault}
use Rattle.element.specs.Faults.{unless}
use Rattle.image.specs.Rings.{slots, meaning_of, Kept}
use Rattle.image.specs.Rows.{row_start, fault_at, item_at, row_in}
use Rattle.image.proofs.Shown.{kept_long}

-- in a list of rows
pub asked_index : {M : Type 0} (empty : M) (counts : Counted M) (span : ℕ) (rows : List M) (held age : ℕ) → held ≡ length rows → age < held → slice_get rows (held - 1 - age) ≡ asked empty counts (ending empty span rows) age
asked_index empty counts span rows held age is young =
    let within : held - 1 - age < length rows = omega arith in
    slice_get-get_or rows (held - 1 - age) empty within
    ∙ ap (λ n. Some (get_or rows (n - 1 - age) empty)) is
    ∙ sym (asked-ending empty counts span rows age (omega arith))

module _ (kind : ℕ) (fault : ℤ → ℕ → Option ElementFault) (c : Cursor) (s : List ℕ) (w : Kept kind fault c s) {E : Type 0} (empty : E) (decoded : ℤ → ℕ → E) (age : ℕ) where
  abbrev places : List (Item E)
  places = slots decoded c.span s

  all : length places ≡ c.span
  all = length-map-range_with_len (item_at decoded s) 0 c.span

  room : c.held ≤ length places
  room =
      let within = w.turning.within in
      let size = all in
      omega arith

  pub asked_none : age_place c age ≡ None → None ≡ asked (empty_item empty) (item_counts empty) (meaning_of empty decoded c s) age
  asked_none = ring_missing c places w.turning (empty_item empty) (item_counts empty) age room

  module _ (place : ℕ) (there : age_place c age ≡ Some place) where
    held : place < c.held
    held = place_held c age place w.turning there

    pub asked_row : result_ok (unless (fault_at fault s place) (item_at decoded s place)) ≡ asked (empty_item empty) (item_counts empty) (meaning_of empty decoded c s) age
    asked_row =
        let below = held in
        let within = w.turning.within in
        ap (λ o. result_ok (unless o (item_at decoded s place))) (w.elements place held)
        ∙ ap Some (sym (get_or-map-range_with_len (item_at decoded s) 0 c.span place place (empty_item empty) (omega arith) (omega arith)))
        ∙ ring_found c places w.turning (empty_item empty) (item_counts empty) age place (empty_item empty) room there

    pub asked_found : row_in fault decoded s place ≡ asked (empty_item empty) (item_counts empty) (meaning_of empty decoded c s) age
    asked_found =
        let below = held in
        let within = w.turning.within in
        let long = kept_long kind fault c s w (omega arith) in
        cond-false _ None _ (le-ltb (length s) (row_start place + 20) (omega arith)) ∙ asked_row
