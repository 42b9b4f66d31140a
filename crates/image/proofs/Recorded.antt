-- One row more in the bytes of a ring. Assumes nothing.
use Rattle.std.proofs.Common.{◌≡◌, ℕ, ◌+◌, ◌<◌, ◌≤◌, Ok, Err, Result, List, length, get_or, set, ℤ, None, Option, sym, refl, ap, ◌∙◌, subst, inl, inr, arith}
use Rattle.std.proofs.lemmas.List.FromFn.{fill_by_all, length-map-range_with_len, get_or-map-range_with_len}
use Rattle.std.proofs.lemmas.List.{length-set, get_or-set_same, get_or-set_other}
use Rattle.std.proofs.lemmas.Bool.{cases_lt, cases_eq}
use Rattle.std.proofs.lemmas.Bool.Decides.{nat_tests}
use Rattle.archive.specs.Entries.{empty_item}
use Rattle.archive.specs.Meanings.{ending, stored}
use Rattle.archive.specs.Rings.{ring_rows, turned_on}
use Rattle.archive.specs.declared.cursor.Cursor.{Cursor}
use Rattle.archive.proofs.Ringing.{turning_on, head_inside}
use Rattle.archive.proofs.Turned.{ring_recorded}
use Rattle.lent_bytes.specs.Placed.{placed}
use Rattle.lent_bytes.proofs.Placing.{length-placed}
use Rattle.consolidation.specs.Laws.{Lawful}
use Rattle.consolidation.specs.declared.item.Item.{Item}
use Rattle.element.specs.declared.fault.ElementFault.{ElementFault}
use Rattle.image.specs.declared.row.NoRow.{NoRow}
use Rattle.image.specs.Headers.{header_in}
use Rattle.image.specs.Rings.{image_span, header_of, turn_bytes, item_bytes, recorded, slots, meaning_of, Kept}
use Rattle.image.specs.Rows.{row_start, fault_at, item_at, RowWritten, WritesRow}
use Rattle.image.proofs.Elsewhere.{Alike, alike_before, alike_after, header_alike, fault_alike, item_alike}
use Rattle.image.proofs.Headed.{turn_back}
use Rattle.image.proofs.Shown.{kept_long}

-- a row at the head that is read back as x
module _ (kind : ℕ) (fault : ℤ → ℕ → Option ElementFault) (c : Cursor) (s row : List ℕ) (long : length row ≡ 20) (w : Kept kind fault c s) (some : 0 < c.span) where
  abbrev written : List ℕ
  written = placed s (row_start c.head) row

  abbrev after : List ℕ
  after = recorded c row s

  room : row_start c.head + length row ≤ length s
  room =
      let size = kept_long kind fault c s w some in
      let inside = head_inside c w.turning some in
      omega arith

  length_written : length written ≡ length s
  length_written = length-placed s (row_start c.head) row room

  room_turn : 8 + length (turn_bytes (turned_on c)) ≤ length written
  room_turn =
      let size = kept_long kind fault c s w some in
      let same = length_written in
      omega arith

  length_after : length after ≡ length s
  length_after = length-placed written 8 (turn_bytes (turned_on c)) room_turn ∙ length_written

  -- the header's numbers stand before every row
  beside : (place : ℕ) → Alike written after (row_start place) (row_start place + 20)
  beside place = alike_after written 8 (turn_bytes (turned_on c)) (row_start place) (row_start place + 20) room_turn (omega arith)

  other : (place : ℕ) → (place ≡ c.head → ⊥) → Alike s written (row_start place) (row_start place + 20)
  other place apart =
      let size = room in
      elim (cases_lt place c.head) [
        | inl below ↦ alike_before s (row_start c.head) row (row_start place) (row_start place + 20) (omega arith) (omega arith)
        | inr above ↦ let past : c.head < place = omega arith in alike_after s (row_start c.head) row (row_start place) (row_start place + 20) size (omega arith)
      ]

  header_after : header_in after ≡ header_of kind (turned_on c)
  header_after =
      let size = room in
      let whole = kept_long kind fault c s w some in
      let same_length = length_written in
      let turning = turning_on c some w.turning in
      let few = turning.few in
      let within = turning.within in
      let inside = head_inside (turned_on c) turning some in
      let same = header_alike s written (alike_before s (row_start c.head) row 0 24 (omega arith) (omega arith)) in
      turn_back kind c (turned_on c) written (omega arith) (same ∙ w.header_is some) refl (omega arith) (omega arith)

  held_before : (place : ℕ) → place < (turned_on c).held → (place ≡ c.head → ⊥) → place < c.held
  held_before place held apart =
      let within = w.turning.within in
      elim (cases_lt c.held c.span) [
        | inl below ↦ let head = w.turning.next_free below in grind (arith, nat_tests)
        | inr full ↦ grind (arith, nat_tests)
      ]

  pub kept_after : fault_at fault written c.head ≡ None → Kept kind fault (turned_on c) after
  kept_after sound = record {
    turning = turning_on c some w.turning;
    span_is = w.span_is ∙ ap image_span (sym length_after);
    header_is = λ more. header_after;
    elements = λ place held.
        fault_alike written after place (beside place) fault
        ∙ elim (cases_eq place c.head) [
          | inl here ↦ ap (fault_at fault written) here ∙ sound
          | inr apart ↦ fault_alike s written place (other place apart) fault ∙ w.elements place (held_before place held apart)
        ];
  }

  module _ {E : Type 0} (decoded : ℤ → ℕ → E) (x : Item E) (back : item_at decoded written c.head ≡ x) where
    slots_after : slots decoded c.span after ≡ set (slots decoded c.span s) c.head x
    slots_after =
        let before = slots decoded c.span s in
        let size : length before ≡ c.span = length-map-range_with_len (item_at decoded s) 0 c.span in
        let inside = head_inside c w.turning some in
        sym (fill_by_all (item_at decoded after) (set before c.head x) c.span x (length-set before c.head x ∙ size)
        (λ place below. elim (cases_eq place c.head) [
          | inl here ↦
              ap (λ k. get_or (set before c.head x) k x) here
              ∙ get_or-set_same before c.head x x (omega arith)
              ∙ sym back
              ∙ ap (item_at decoded written) (sym here)
              ∙ sym (item_alike written after place (beside place) decoded)
          | inr apart ↦
              get_or-set_other before c.head place x x apart
              ∙ get_or-map-range_with_len (item_at decoded s) 0 c.span place place x below (omega arith)
              ∙ sym (item_alike s written place (other place apart) decoded)
              ∙ sym (item_alike written after place (beside place) decoded)
        ]))

    pub value_after : (empty : E) (joined : Item E → Item E → Item E) → Lawful (empty_item empty) joined → meaning_of empty decoded (turned_on c) after ≡ stored (empty_item empty) joined (meaning_of empty decoded c s) x
    value_after empty joined laws =
        let before = slots decoded c.span s in
        ap (λ xs. ending (empty_item empty) c.span (ring_rows (turned_on c) xs)) slots_after
        ∙ ring_recorded c before w.turning laws x some (length-map-range_with_len (item_at decoded s) 0 c.span)

-- the same of what `store` leaves: the row, which is always written, then the next cursor and its two numbers
module _ {E : Type 0} (amount : E → ℤ) (weight : E → ℕ) (fault : ℤ → ℕ → Option ElementFault) (decoded : ℤ → ℕ → E) (kind : ℕ) (c : Cursor) (s : List ℕ) (x : Item E) (t : List ℕ) (some : 0 < c.span) (w : Kept kind fault c s) where
  written_row : (r : Result (Unit {0}) NoRow) → WritesRow amount weight fault decoded s c.head x r t → RowWritten amount weight fault decoded s c.head x t
  written_row (Ok _) row = row
  written_row (Err _) none =
      let size = kept_long kind fault c s w some in
      let inside = head_inside c w.turning some in
      let past = none.short in
      absurd (omega arith)

  module _ (r : Result (Unit {0}) NoRow) (wrote : WritesRow amount weight fault decoded s c.head x r t) where
    abbrev row : RowWritten amount weight fault decoded s c.head x t
    row = written_row r wrote

    abbrev bytes : List ℕ
    bytes = item_bytes amount weight x

    sound : fault_at fault (placed s (row_start c.head) bytes) c.head ≡ None
    sound = sym (ap (λ l. fault_at fault l c.head) row.bytes) ∙ row.sound

    module _ (d : Cursor) (u : List ℕ) (next : d ≡ turned_on c) (turn : u ≡ placed t 8 (turn_bytes d)) where
      turned : u ≡ recorded c bytes s
      turned = turn ∙ (λ i. placed (row.bytes i) 8 (turn_bytes (next i)))

      pub store_kept : Kept kind fault d u
      store_kept = subst (λ e. Kept kind fault e u) (sym next) (subst (Kept kind fault (turned_on c)) (sym turned) (kept_after kind fault c s bytes refl w some sound))

      pub store_value : (empty : E) (joined : Item E → Item E → Item E) → Lawful (empty_item empty) joined → meaning_of empty decoded d u ≡ stored (empty_item empty) joined (meaning_of empty decoded c s) x
      store_value empty joined laws =
          let back = sym (ap (λ l. item_at decoded l c.head) row.bytes) ∙ row.back in
          (λ i. meaning_of empty decoded (next i) (turned i)) ∙ value_after kind fault c s bytes refl w some decoded x back empty joined laws
