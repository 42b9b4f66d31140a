-- Archives whose rows lie in a ring of places. Assumes nothing.
use Rattle.std.proofs.Common.{◌≡◌, ℕ, ◌-◌, ◌<◌, ◌≤◌, List, length, get_or, set, Some, None, sym, ap, ◌∙◌, inl, inr, arith}
use Rattle.std.specs.Option.{option_map}
use Rattle.std.proofs.lemmas.Option.{slice_get-get_or}
use Rattle.std.proofs.lemmas.Bool.{cases_lt, lt-ltb, le-ltb, cond-true, cond-false}
use Rattle.consolidation.specs.Laws.{Lawful}
use Rattle.archive.specs.declared.cursor.Cursor.{Cursor}
use Rattle.archive.specs.Entries.{Counted}
use Rattle.archive.specs.Meanings.{stored, asked, ending}
use Rattle.archive.specs.Rings.{Turning, turned_on, ring_rows, ring_meaning, age_place}
use Rattle.archive.specs.RingsLemmas.{ring_length}
use Rattle.archive.proofs.Ending.{stored-ending, asked-ending}
use Rattle.archive.proofs.Ringing.{place_held, ring_stored, ring_aged}

module _ {M : Type 0} (c : Cursor) (xs : List M) (t : Turning c) where
  -- the row of an age is asked for at its place
  pub ring_asked : (empty : M) (counts : Counted M) (age : ℕ) → c.held ≤ length xs
      → option_map (λ place. get_or xs place empty) (age_place c age) ≡ asked empty counts (ring_meaning empty c xs) age
  ring_asked empty counts age room =
      let rows = ring_rows c xs in
      let held : length rows ≡ c.held = ring_length c xs room in
      elim (cases_lt age c.held) [
        | inl young ↦
            let there = cond-true _ (Some _) None (lt-ltb age c.held young) in
            ap (option_map (λ place. get_or xs place empty)) there
            ∙ ap Some (sym (ring_aged c xs age _ empty t room there))
            ∙ ap (λ n. Some (get_or rows (n - 1 - age) empty)) (sym held)
            ∙ sym (asked-ending empty counts c.span rows age (omega arith))
        | inr old ↦
            ap (option_map (λ place. get_or xs place empty)) (cond-false _ (Some _) None (le-ltb age c.held old))
            ∙ sym (cond-false _ (Some _) None (le-ltb age (length rows) (omega arith)))
      ]

  -- it is read there
  pub ring_found : (empty : M) (counts : Counted M) (age place : ℕ) (d : M) → c.held ≤ length xs → age_place c age ≡ Some place
      → Some (get_or xs place d) ≡ asked empty counts (ring_meaning empty c xs) age
  ring_found empty counts age place d room at =
      let held = place_held c age place t at in
      let found = λ (d : M). slice_get-get_or xs place d (omega arith) in
      sym (found d) ∙ found empty
      ∙ ap (option_map (λ k. get_or xs k empty)) (sym at)
      ∙ ring_asked empty counts age room

  -- and an age that has no place has no row
  pub ring_missing : (empty : M) (counts : Counted M) (age : ℕ) → c.held ≤ length xs → age_place c age ≡ None → None ≡ asked empty counts (ring_meaning empty c xs) age
  ring_missing empty counts age room at = ap (option_map (λ k. get_or xs k empty)) (sym at) ∙ ring_asked empty counts age room

  module _ {empty : M} {joined : M → M → M} (laws : Lawful empty joined) (x : M) where
    -- one place is written
    pub ring_recorded : 0 < c.span → length xs ≡ c.span → ring_meaning empty (turned_on c) (set xs c.head x) ≡ stored empty joined (ring_meaning empty c xs) x
    ring_recorded some size = ap (ending empty c.span) (ring_stored c xs x t some size) ∙ sym (stored-ending laws c.span (ring_rows c xs) x)
