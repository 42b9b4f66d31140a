-- Where the rows of an image stand. Assumes nothing.
use Rattle.std.proofs.Common.{◌≡◌, ℕ, ◌+◌, ◌-◌, ◌<◌, ◌≤◌, ltb, List, map, length, get_or, drop, Some, sym, ap, ◌∙◌, ⊎_elim, arith}
use Rattle.std.specs.List.{range_with_len, slice_get}
use Rattle.std.proofs.lemmas.Option.{slice_get-get_or}
use Rattle.std.proofs.lemmas.List.FromFn.{length-range_with_len, get_or-range_with_len}
use Rattle.std.proofs.lemmas.List.{length-append, length-drop, length-take, length-map, get_or_append_left, get_or-append_right, get_or-drop, get_or-take, get_or-map}
use Rattle.std.proofs.lemmas.Bool.{cases_lt, cond-true, cond-false, lt-ltb, le-ltb}
use Rattle.image.specs.declared.header.Header.{Header}
use Rattle.image.specs.Images.{places, place_of}

module _ (h : Header) where
  abbrev all : List ℕ
  all = range_with_len 0 h.held

  pub length-places : length (places h) ≡ h.held
  length-places = simp (length-append, length-drop, length-take, length-range_with_len) (omega arith)

  pub get_or-places : (i : ℕ) → h.head ≤ h.held → i < h.held → get_or (places h) i 0 ≡ place_of h.head h.held i
  get_or-places i within held =
      let front : length (drop h.head all) ≡ h.held - h.head = length-drop h.head all ∙ ap (λ n. n - h.head) (length-range_with_len 0 h.held) in
      ⊎_elim
      (λ before.
      let first : i < length (drop h.head all) = omega arith in
      get_or_append_left (drop h.head all) _ 0 i first
      ∙ get_or-drop h.head all i 0
      ∙ get_or-range_with_len 0 h.held (h.head + i) 0 (omega arith)
      ∙ sym (cond-true (ltb i (h.held - h.head)) (h.head + i) _ (lt-ltb i (h.held - h.head) before) ∙ omega arith))
      (λ after.
      let j = i - (h.held - h.head) in
      get_or-append_right (drop h.head all) _ (h.held - h.head) i 0 front after
      ∙ get_or-take h.head all j 0 (omega arith)
      ∙ get_or-range_with_len 0 h.held j 0 (omega arith)
      ∙ sym (cond-false (ltb i (h.held - h.head)) _ j (le-ltb i (h.held - h.head) after) ∙ omega arith))
      (cases_lt i (h.held - h.head))

  module _ {X : Type 0} (row : ℕ → X) where
    pub length-rows : h.held ≡ length (map row (places h))
    length-rows = sym (length-map (places h) row ∙ length-places)

    -- the row of an index
    pub row_of_index : (i : ℕ) → h.head ≤ h.held → i < h.held → Some (row (place_of h.head h.held i)) ≡ slice_get (map row (places h)) i
    row_of_index i within held =
        let inside : i < length (places h) = omega (arith, length-places) in
        ap (λ p. Some (row p)) (sym (get_or-places i within held))
        ∙ ap Some (sym (get_or-map row (places h) i 0 (row 0) inside))
        ∙ sym (slice_get-get_or (map row (places h)) i (row 0) (omega (arith, length-map (places h) row)))
