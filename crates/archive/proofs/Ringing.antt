-- One store into a ring of places, and one row out of it. Assumes nothing.
use Rattle.std.proofs.Common.{◌≡◌, ℕ, ◌+◌, ◌-◌, ◌<◌, ◌≤◌, cond, ltb, List, [], ◌∷◌, ◌++◌, length, get_or, take, drop, set, Some, None, Option, sym, refl, ap, ◌∙◌, inl, inr, arith}
use Rattle.std.proofs.lemmas.List.{append-nil, append_assoc, length-append, length-take, length-drop, length-set, length_push, take_all, take_more_set, drop_all, drop-drop, drop-set-lt, drop-append-le, get_or_append_left, get_or-append_right, get_or-drop, get_or-take}
use Rattle.std.proofs.lemmas.Bool.{cases_lt, lt-ltb, le-ltb, cond-true, cond-false}
use Rattle.std.proofs.lemmas.Bool.Decides.{nat_tests}
use Rattle.archive.specs.declared.cursor.Cursor.{Cursor}
use Rattle.archive.specs.Meanings.{newest}
use Rattle.archive.specs.Rings.{ring_span, cursor, Turning, next_place, turned_on, from_place, ring_rows, age_place}
use Rattle.archive.specs.RingsLemmas.{ring_length}
use Rattle.archive.proofs.Newest.{newest_all}

some_same : {X : Type 0} (a b : X) → Some a ≡ Some b → a ≡ b
some_same a b e = cc

none_some : {X : Type 0} (b : X) → ◌≡◌ {A = Option X} None (Some b) → ⊥
none_some b e = let z : ◌≡◌ {A = ℕ} 0 1 = cc in omega arith

-- a cursor that holds no row is in turn
pub turning_new : (places : ℕ) → Turning (cursor (ring_span places) 0 0)
turning_new places = record { few = grind (arith, nat_tests); within = omega arith; next_free = λ h. refl; round = λ e h. h }

-- a ring that has places has all that there are
pub span_whole : (places : ℕ) → 0 < ring_span places → places ≡ ring_span places
span_whole places some = grind (arith, nat_tests)

pub turning_on : (c : Cursor) → 0 < c.span → Turning c → Turning (turned_on c)
turning_on c some t =
    let few = t.few in
    let within = t.within in
    elim (cases_lt c.held c.span) [
      | inl below ↦ let head = t.next_free below in record { few = few; within = grind (arith, nat_tests); next_free = λ h. grind (arith, nat_tests); round = λ e h. grind (arith, nat_tests) }
      | inr full ↦ let head = t.round (omega arith) some in record { few = few; within = grind (arith, nat_tests); next_free = λ h. grind (arith, nat_tests); round = λ e h. grind (arith, nat_tests) }
    ]

pub head_inside : (c : Cursor) → Turning c → 0 < c.span → c.head < c.span
head_inside c t some =
    let within = t.within in
    elim (cases_lt c.held c.span) [
      | inl below ↦ let head = t.next_free below in omega arith
      | inr full ↦ t.round (omega arith) some
    ]

-- the head is no further than the rows held
pub head_within : (c : Cursor) → Turning c → 0 < c.held → c.head ≤ c.held
head_within c t some =
    let within = t.within in
    elim (cases_lt c.held c.span) [
      | inl below ↦ let head = t.next_free below in omega arith
      | inr full ↦ let head = t.round (omega arith) (omega arith) in omega arith
    ]

-- the place of an age, by whether it comes after the last place
pub record Aged (c : Cursor) (age place : ℕ) : Type 0 where
  pub young : age < c.held
  pub near : age < c.head → c.head - 1 - age ≡ place
  pub far : c.head ≤ age → c.head + c.held - 1 - age ≡ place

aged : (c : Cursor) (age place : ℕ) → age_place c age ≡ Some place → Aged c age place
aged c age place is =
    elim (cases_lt age c.held) [
      | inl young ↦
          let at : cond (ltb age c.head) (c.head - 1 - age) (c.head + c.held - 1 - age) ≡ place = some_same _ place (sym (cond-true _ (Some _) None (lt-ltb age c.held young)) ∙ is) in
          record {
            young = young;
            near = λ h. sym (cond-true _ (c.head - 1 - age) (c.head + c.held - 1 - age) (lt-ltb age c.head h)) ∙ at;
            far = λ h. sym (cond-false _ (c.head - 1 - age) (c.head + c.held - 1 - age) (le-ltb age c.head h)) ∙ at;
          }
      | inr old ↦ absurd (none_some place (sym (cond-false _ (Some _) None (le-ltb age c.held old)) ∙ is))
    ]

-- that place holds a row
pub place_held : (c : Cursor) (age place : ℕ) → Turning c → age_place c age ≡ Some place → place < c.held
place_held c age place t is =
    let a = aged c age place is in
    let young = a.young in
    let head = head_within c t (omega arith) in
    elim (cases_lt age c.head) [
      | inl l ↦ omega (arith, a.near l)
      | inr l ↦ omega (arith, a.far l)
    ]

module _ {X : Type 0} where
  from_end : (n : ℕ) (xs : List X) → length xs ≤ n → from_place n xs ≡ xs
  from_end n xs h = ap (λ l. l ++ take n xs) (drop_all n xs h) ∙ take_all n xs h

  from_start : (xs : List X) → from_place 0 xs ≡ xs
  from_start xs = append-nil xs

  -- where no place after the next one is written, the rows from there on are all of them
  from_next : (span n : ℕ) (xs : List X) → length xs ≤ n + 1 → from_place (next_place span n) xs ≡ xs
  from_next span n xs long =
      elim (cases_lt (n + 1) span) [
        | inl l ↦ ap (λ k. from_place k xs) (cond-true _ (n + 1) 0 (lt-ltb (n + 1) span l)) ∙ from_end (n + 1) xs long
        | inr l ↦ ap (λ k. from_place k xs) (cond-false _ (n + 1) 0 (le-ltb (n + 1) span l)) ∙ from_start xs
      ]

  -- the oldest place of a full ring is written, and is the newest
  from_written : (xs : List X) (head : ℕ) (x : X) → head < length xs → from_place (next_place (length xs) head) (set xs head x) ≡ drop 1 (from_place head xs ++ x ∷ [])
  from_written xs head x h =
      let written = set xs head x in
      let before : drop 1 (from_place head xs ++ x ∷ []) ≡ (drop (head + 1) xs ++ take head xs) ++ x ∷ [] =
      drop-append-le 1 (from_place head xs) (x ∷ []) (simp (length-append, length-drop, length-take) (omega arith))
      ∙ ap (λ l. l ++ x ∷ []) (drop-append-le 1 (drop head xs) (take head xs) (simp length-drop (omega arith)) ∙ ap (λ l. l ++ take head xs) (drop-drop 1 head xs)) in
      let after : from_place (head + 1) written ≡ (drop (head + 1) xs ++ take head xs) ++ x ∷ [] =
      ap (λ l. l ++ take (head + 1) written) (drop-set-lt (head + 1) xs head x (omega arith))
      ∙ ap (λ l. drop (head + 1) xs ++ l) (take_more_set xs head x h)
      ∙ sym (append_assoc (drop (head + 1) xs) (take head xs) (x ∷ [])) in
      elim (cases_lt (head + 1) (length xs)) [
        | inl l ↦ ap (λ k. from_place k written) (cond-true _ (head + 1) 0 (lt-ltb (head + 1) (length xs) l)) ∙ after ∙ sym before
        | inr l ↦
            let long : length written ≤ head + 1 = omega (arith, length-set xs head x) in
            ap (λ k. from_place k written) (cond-false _ (head + 1) 0 (le-ltb (head + 1) (length xs) l)) ∙ from_start written ∙ sym (from_end (head + 1) written long) ∙ after ∙ sym before
      ]

  -- The law of rings: writing the place at the head is to hold one row more, and the oldest makes way.
  pub ring_stored : (c : Cursor) (xs : List X) (x : X) → Turning c → 0 < c.span → length xs ≡ c.span
      → ring_rows (turned_on c) (set xs c.head x) ≡ newest c.span (ring_rows c xs ++ x ∷ [])
  ring_stored c xs x t some size =
      let within = t.within in
      let rows = ring_rows c xs in
      let written = set xs c.head x in
      let next = next_place c.span c.head in
      let long : length (rows ++ x ∷ []) ≡ c.held + 1 = length_push rows x ∙ ap (λ k. k + 1) (ring_length c xs (omega arith)) in
      let same : length written ≡ length xs = length-set xs c.head x in
      elim (cases_lt c.held c.span) [
        | inl below ↦
            let head = t.next_free below in
            let held : (turned_on c).held ≡ c.head + 1 = cond-true _ (c.held + 1) c.held (lt-ltb c.held c.span below) ∙ ap (λ k. k + 1) (sym head) in
            let first = take (c.head + 1) written in
            let old : take c.head xs ≡ rows = ap (λ k. take k xs) head ∙ sym (from_end c.head (take c.held xs) (simp length-take (omega arith))) in
            ap (λ k. from_place next (take k written)) held
            ∙ from_next c.span c.head first (simp length-take (omega arith))
            ∙ take_more_set xs c.head x (omega arith)
            ∙ ap (λ l. l ++ x ∷ []) old
            ∙ sym (newest_all c.span (rows ++ x ∷ []) (omega arith))
        | inr full ↦
            let held : (turned_on c).held ≡ c.held = cond-false _ (c.held + 1) c.held (le-ltb c.held c.span full) in
            let inside = t.round (omega arith) some in
            let one : 1 ≡ length (rows ++ x ∷ []) - c.span = omega arith in
            ap (λ k. from_place next (take k written)) held
            ∙ ap (from_place next) (take_all c.held written (omega arith))
            ∙ ap (λ n. from_place (next_place n c.head) written) (sym size)
            ∙ from_written xs c.head x (omega arith)
            ∙ ap (λ l. drop 1 (from_place c.head l ++ x ∷ [])) (sym (take_all c.held xs (omega arith)))
            ∙ ap (λ n. drop n (rows ++ x ∷ [])) one
      ]

  -- the row of an age stands at its place
  pub ring_aged : (c : Cursor) (xs : List X) (age place : ℕ) (d : X) → Turning c → c.held ≤ length xs → age_place c age ≡ Some place → get_or (ring_rows c xs) (c.held - 1 - age) d ≡ get_or xs place d
  ring_aged c xs age place d t long is =
      let a = aged c age place is in
      let young = a.young in
      let head = head_within c t (omega arith) in
      let held = place_held c age place t is in
      let first = take c.held xs in
      let size : length first ≡ c.held = simp length-take (omega arith) in
      let front : length (drop c.head first) ≡ c.held - c.head = simp length-drop (omega arith) in
      elim (cases_lt age c.head) [
        | inl l ↦
            let at = a.near l in
            let i : c.held - 1 - age - (c.held - c.head) ≡ place = omega arith in
            get_or-append_right (drop c.head first) (take c.head first) (c.held - c.head) (c.held - 1 - age) d front (omega arith)
            ∙ ap (λ k. get_or (take c.head first) k d) i
            ∙ get_or-take c.head first place d (omega arith)
            ∙ get_or-take c.held xs place d held
        | inr l ↦
            let at = a.far l in
            let i : c.head + (c.held - 1 - age) ≡ place = omega arith in
            get_or_append_left (drop c.head first) (take c.head first) d (c.held - 1 - age) (omega arith)
            ∙ get_or-drop c.head first (c.held - 1 - age) d
            ∙ ap (λ k. get_or first k d) i
            ∙ get_or-take c.held xs place d held
      ]
