-- What is read of an opened image. Assumes nothing.
use Rattle.std.proofs.Common.{◌≡◌, ℕ, ◌+◌, ◌-◌, ◌<◌, ◌≤◌, List, length, get_or, drop, map, ℤ, Some, None, Option, sym, refl, ap, ◌∙◌, subst, ⊎_elim, arith}
use Rattle.std.specs.List.{slice_get}
use Rattle.std.specs.Result.{result_ok}
use Rattle.std.proofs.lemmas.Option.{slice_get_past}
use Rattle.std.proofs.lemmas.List.{drop_all}
use Rattle.std.proofs.lemmas.Bool.{cases_lt, le-leb, lt-leb, le-ltb, or_from, or_left, cond-true, cond-false}
use Rattle.std.proofs.lemmas.Bool.Decides.{nat_tests as tells}
use Rattle.consolidation.specs.declared.item.Item.{Item}
use Rattle.element.specs.declared.fault.ElementFault.{ElementFault}
use Rattle.image.specs.declared.header.Header.{Header}
use Rattle.element.specs.Faults.{unless}
use Rattle.image.specs.Faults.{earliest}
use Rattle.image.specs.Headers.{header_in, front_fault, Sound}
use Rattle.image.specs.Images.{bad_element, image_fault, place_of, places, rows_in, row_of, run}
use Rattle.image.specs.Opened.{Opened}
use Rattle.image.specs.Rows.{row_start, fault_at, item_at, row_in}
use Rattle.image.proofs.Faults.{mapped_none, or_none, earliest_none}
use Rattle.image.proofs.Headers.{front_sound}
use Rattle.image.proofs.Left.{run_from}
use Rattle.image.proofs.Places.{get_or-places, length-rows, row_of_index}

-- the head is no further than the rows held
pub head_within : (kind len : ℕ) (h : Header) → Sound kind len h → h.head ≤ h.held
head_within kind len h sound =
    let within = sound.held_within in
    ⊎_elim (λ before. omega (arith, sound.head_next before)) (λ full. omega (arith, sound.head_round (omega arith))) (cases_lt h.held h.span)

pub place_held : (head held index : ℕ) → head ≤ held → index < held → place_of head held index < held
place_held head held index p q = grind (arith, tells)

module _ (kind : ℕ) (fault : ℤ → ℕ → Option ElementFault) (s : List ℕ) (none : image_fault kind fault s ≡ None) where
  pub header_sound : Sound kind (length s) (header_in s)
  header_sound = front_sound kind s (or_none (front_fault kind s) _ none).0

  -- no row that is held has a fault
  pub row_sound : (place : ℕ) → place < (header_in s).held → fault_at fault s place ≡ None
  row_sound place held =
      let rows = mapped_none _ (earliest (bad_element fault s) (header_in s).held) (or_none (front_fault kind s) _ none).1 in
      mapped_none _ (fault_at fault s place) (earliest_none (bad_element fault s) (header_in s).held place rows held)

  -- nor has the row of an index
  pub place_sound : (index : ℕ) → index < (header_in s).held → fault_at fault s (get_or (places (header_in s)) index 0) ≡ None
  place_sound index held =
      let h = header_in s in
      let within = head_within kind (length s) h header_sound in
      subst (λ p. fault_at fault s p ≡ None) (sym (get_or-places h index within held)) (row_sound (place_of h.head h.held index) (place_held h.head h.held index within held))

-- what is read has an index below the number of rows held
pub row_held : {E : Type 0} (fault : ℤ → ℕ → Option ElementFault) (decoded : ℤ → ℕ → E) (h : Header) (s : List ℕ) (index : ℕ) (row : Item E) → Some row ≡ row_of fault decoded h s index → index < h.held
row_held fault decoded h s index row is =
    ⊎_elim
    (λ below. below)
    (λ old.
    let none : Some row ≡ None = is ∙ cond-true _ None _ (or_left _ _ (le-leb h.held index old)) in
    let never : ◌≡◌ {A = ℕ} 0 1 = cc in
    absurd (omega arith))
    (cases_lt index h.held)

-- the row of an index of an opened image
module _ (kind : ℕ) (fault : ℤ → ℕ → Option ElementFault) (h : Header) (s : List ℕ) (w : Opened kind fault h s) where
  within : h.head ≤ h.held
  within = subst (λ g. g.head ≤ g.held) (sym w.header_is) (head_within kind (length s) (header_in s) (header_sound kind fault s w.sound))

  -- it lies within the bytes, and is read at its place
  module _ (index place : ℕ) (below : index < h.held) (is : place ≡ place_of h.head h.held index) where
    held : place < (header_in s).held
    held = subst (λ g. place < g.held) w.header_is (subst (λ p. p < h.held) (sym is) (place_held h.head h.held index within below))

    pub row_room : row_start place + 20 ≤ length s
    row_room =
        let sound = header_sound kind fault s w.sound in
        let here = held in
        omega arith

    pub row_read : {E : Type 0} (decoded : ℤ → ℕ → E) → result_ok (unless (fault_at fault s place) (item_at decoded s place)) ≡ slice_get (rows_in decoded s) index
    row_read decoded =
        ap (λ o. result_ok (unless o (item_at decoded s place))) (row_sound kind fault s w.sound place held)
        ∙ ap (λ p. Some (item_at decoded s p)) is
        ∙ row_of_index h (item_at decoded s) index within below
        ∙ ap (λ g. slice_get (map (item_at decoded s) (places g)) index) w.header_is

  -- the same, of what is read where there may be no such row
  row_found : {E : Type 0} (decoded : ℤ → ℕ → E) (index : ℕ) → index < h.held → row_in fault decoded s (place_of h.head h.held index) ≡ slice_get (rows_in decoded s) index
  row_found decoded index below =
      let place = place_of h.head h.held index in
      cond-false _ None _ (le-ltb (length s) (row_start place + 20) (row_room index place below refl))
      ∙ row_read index place below refl decoded

  pub row_opened : {E : Type 0} (decoded : ℤ → ℕ → E) (index : ℕ) → row_of fault decoded h s index ≡ slice_get (rows_in decoded s) index
  row_opened decoded index =
      ⊎_elim
      (λ below. cond-false _ None _ (or_from _ _ (lt-leb h.held index below) (le-ltb h.held h.head within)) ∙ row_found decoded index below)
      (λ old.
      let end : length (rows_in decoded s) ≤ index = omega (arith, ap (λ g. g.held) w.header_is, length-rows (header_in s) (item_at decoded s)) in
      cond-true _ None _ (or_left _ _ (le-leb h.held index old)) ∙ sym (slice_get_past (rows_in decoded s) index end))
      (cases_lt index h.held)

  -- what is left of them from an index on; none past the newest
  pub rows_left : {E : Type 0} (decoded : ℤ → ℕ → E) (index : ℕ) → run (row_of fault decoded h s) index (h.held - index) ≡ drop index (rows_in decoded s)
  rows_left decoded index =
      let rows = rows_in decoded s in
      let all : length rows ≡ h.held = sym (ap (λ g. g.held) w.header_is ∙ length-rows (header_in s) (item_at decoded s)) in
      ⊎_elim
      (λ below. run_from (row_of fault decoded h s) rows (row_opened decoded) (h.held - index) index (omega (arith, all)))
      (λ old.
      let none : h.held - index ≡ 0 = omega arith in
      ap (run (row_of fault decoded h s) index) none ∙ sym (drop_all index rows (omega (arith, all))))
      (cases_lt index h.held)

  -- all of them, one by one
  pub rows_opened : {E : Type 0} (decoded : ℤ → ℕ → E) → run (row_of fault decoded h s) 0 (h.held - 0) ≡ rows_in decoded s
  rows_opened decoded = rows_left decoded 0
