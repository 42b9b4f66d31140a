-- What the bytes of a ring show. Assumes nothing.
use Rattle.std.proofs.Common.{◌≡◌, ℕ, ◌+◌, ◌-◌, ◌*◌, ◌/◌, ◌<◌, ◌≤◌, true, not, ◌||◌, eqb, ltb, List, ◌++◌, map, length, take, drop, ℤ, None, Option, sym, refl, ap, ◌∙◌, inl, inr, arith}
use Rattle.std.specs.List.{range_with_len}
use Rattle.std.specs.Option.{option_map}
use Rattle.std.proofs.lemmas.List.FromFn.{take-map-range_with_len}
use Rattle.std.proofs.lemmas.List.{map-append, drop-map, take-map}
use Rattle.std.proofs.lemmas.Bool.{cases_lt, cases_Bool, cond-true, cond-false, lt-ltb, le-ltb, eq-eqb, eqb-true, or_from, not_from_true}
use Rattle.archive.specs.Entries.{empty_item}
use Rattle.archive.specs.Meanings.{ending}
use Rattle.archive.specs.Rings.{Turning, ring_rows}
use Rattle.archive.specs.declared.cursor.Cursor.{Cursor}
use Rattle.archive.proofs.Ringing.{span_whole}
use Rattle.element.specs.declared.fault.ElementFault.{ElementFault}
use Rattle.element.specs.Faults.{◌or◌}
use Rattle.image.specs.declared.fault.ImageFault.TheVariants.{Length, Kind, Span, Held, Head, Total, Element}
use Rattle.image.specs.declared.header.Header.{Header}
use Rattle.image.specs.Faults.{earliest}
use Rattle.image.specs.Headers.{header_in, length_fault, head_kept, header_fault, front_fault}
use Rattle.image.specs.Images.{bad_element, image_fault, places, rows_in}
use Rattle.image.specs.RingImages.{ImageOfRing}
use Rattle.image.specs.Rings.{rows_for, image_span, header_of, meaning_of, Kept, Shows}
use Rattle.image.specs.Rows.{item_at}
use Rattle.image.proofs.Faults.{when_false, or_second, earliest_all}

-- how many bytes a ring has
pub span_long : (len : ℕ) → 0 < image_span len → len ≡ 24 + 20 * image_span len
span_long len some =
    let n = (len - 24) / 20 in
    let whole = span_whole (rows_for len) some in
    elim (cases_Bool (eqb len (24 + 20 * n))) [
      | inl is ↦ eqb-true len (24 + 20 * n) is ∙ ap (λ k. 24 + 20 * k) (sym (cond-true _ n 0 is) ∙ whole)
      | inr other ↦ let none : rows_for len ≡ 0 = cond-false _ n 0 other in absurd (omega arith)
    ]

module _ (kind : ℕ) (c : Cursor) (t : Turning c) (some : 0 < c.span) where
  head_right : head_kept (header_of kind c) ≡ true
  head_right =
      let within = t.within in
      elim (cases_lt c.held c.span) [
        | inl below ↦ cond-true _ _ _ (lt-ltb c.held c.span below) ∙ eq-eqb c.head c.held (t.next_free below)
        | inr full ↦ cond-false _ _ _ (le-ltb c.held c.span full) ∙ lt-ltb c.head c.span (t.round (omega arith) some)
      ]

  pub header_right : (len : ℕ) → len ≡ 24 + 20 * c.span → length_fault len or header_fault kind len (header_of kind c) ≡ None
  header_right len long =
      let few = t.few in
      let h = header_of kind c in
      let on_length = when_false (ltb len 24 || ltb 60024 len) Length (or_from _ _ (le-ltb len 24 (omega arith)) (le-ltb 60024 len (omega arith))) in
      let on_kind = when_false (not (eqb kind kind)) Kind (not_from_true _ (eq-eqb kind kind refl)) in
      let on_span = when_false (ltb c.span 1 || ltb 3000 c.span) Span (or_from _ _ (le-ltb c.span 1 (omega arith)) (le-ltb 3000 c.span few)) in
      let on_held = when_false (ltb c.span c.held) Held (le-ltb c.span c.held t.within) in
      let on_head = when_false (not (head_kept h)) Head (not_from_true _ head_right) in
      let on_total = when_false (not (eqb h.total (24 + 20 * c.span)) || not (eqb h.total len)) Total
      (or_from _ _ (not_from_true _ (eq-eqb h.total (24 + 20 * c.span) refl)) (not_from_true _ (eq-eqb h.total len (sym long)))) in
      λ i. on_length i or (on_kind i or on_span i or on_held i or on_head i or None or on_total i)

-- the rows of the places that are held, the oldest first
pub rows_same : {X : Type 0} (row : ℕ → X) (kind : ℕ) (c : Cursor) → c.held ≤ c.span → map row (places (header_of kind c)) ≡ ring_rows c (map row (range_with_len 0 c.span))
rows_same row kind c within =
    let all = range_with_len 0 c.held in
    let held : map row all ≡ take c.held (map row (range_with_len 0 c.span)) = sym (take-map-range_with_len row 0 c.span c.held within) in
    map-append row (drop c.head all) (take c.head all)
    ∙ (λ i. sym (drop-map row c.head all) i ++ sym (take-map row c.head all) i)
    ∙ (λ i. drop c.head (held i) ++ take c.head (held i))

module _ (kind : ℕ) (fault : ℤ → ℕ → Option ElementFault) (c : Cursor) (s : List ℕ) (w : Kept kind fault c s) where
  pub kept_long : 0 < c.span → length s ≡ 24 + 20 * c.span
  kept_long some =
      let same = w.span_is in
      let here : 0 < image_span (length s) = omega arith in
      span_long (length s) here ∙ ap (λ n. 24 + 20 * n) (sym same)

  pub shows : {E : Type 0} (empty : E) (decoded : ℤ → ℕ → E) → 0 < c.span → Shows kind fault decoded (meaning_of empty decoded c s) s
  shows empty decoded some =
      let is = w.header_is some in
      let front : front_fault kind s ≡ None = ap (λ h. length_fault (length s) or header_fault kind (length s) h) is ∙ header_right kind c w.turning some (length s) (kept_long some) in
      let rows : earliest (bad_element fault s) c.held ≡ None =
      earliest_all (bad_element fault s) c.held (λ place held. ap (option_map (λ f. record { place = place; byte = 24 + 20 * place; fault = f })) (w.elements place held)) in
      record {
        no_fault = or_second (front_fault kind s) _ front ∙ ap (λ h. option_map Element (earliest (bad_element fault s) h.held)) is ∙ ap (option_map Element) rows;
        span_shown = ap (λ h. h.span) is;
        rows_shown = ap (λ h. map (item_at decoded s) (places h)) is ∙ rows_same (item_at decoded s) kind c w.turning.within;
      }

-- so it is an opened image, without a check
pub image_of_ring : (kind : ℕ) (fault : ℤ → ℕ → Option ElementFault) {E : Type 0} (empty : E) (decoded : ℤ → ℕ → E) (c : Cursor) (s : List ℕ) → Kept kind fault c s → 0 < c.span
    → (h : Header) (t : List ℕ) → h ≡ header_of kind c → t ≡ s → ImageOfRing kind fault empty decoded c s h t
image_of_ring kind fault empty decoded c s w some h t is of_bytes =
    let shown = shows kind fault c s w empty decoded some in
    record {
      some_rows = some;
      of_bytes = of_bytes;
      opened = record { sound = ap (image_fault kind fault) of_bytes ∙ shown.no_fault; header_is = is ∙ sym (w.header_is some) ∙ sym (ap header_in of_bytes) };
      same_meaning =
          ap (λ s. ending (empty_item empty) (header_in s).span (rows_in decoded s)) of_bytes
          ∙ (λ i. ending (empty_item empty) (shown.span_shown i) (shown.rows_shown i));
    }
