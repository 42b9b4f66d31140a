-- What the laws of rings rest on. Assumes nothing.
use Rattle.std.proofs.Common.{◌≡◌, ℕ, ◌≤◌, List, length, arith}
use Rattle.std.proofs.lemmas.List.{length-append, length-take, length-drop}
use Rattle.std.proofs.lemmas.Bool.Decides.{nat_tests}
use Rattle.archive.specs.declared.cursor.Cursor.{Cursor}
use Rattle.archive.specs.Meanings.{Sound, ending}
use Rattle.archive.specs.Rings.{ring_span, Turning, ring_rows, ring_meaning}

pub ending_sound : {M : Type 0} (empty : M) (span : ℕ) (rows : List M) → span ≤ 3000 → length rows ≤ span → Sound (ending empty span rows)
ending_sound empty span rows few held = record { some_width = omega arith; most_width = omega arith; most_span = few; most_allowance = omega arith; still_open = omega arith; within_span = held }

pub span_within : (places : ℕ) → ring_span places ≤ places
span_within places = grind (arith, nat_tests)

module _ {X : Type 0} (c : Cursor) (xs : List X) where
  pub ring_length : c.held ≤ length xs → length (ring_rows c xs) ≡ c.held
  ring_length h = simp (length-append, length-drop, length-take) (omega arith)

  -- no more rows are held than there are places
  pub held_within : Turning c → c.span ≡ ring_span (length xs) → c.held ≤ length xs
  held_within t span_is =
      let within = t.within in
      omega (arith, span_is, span_within (length xs))

  -- a ring keeps to the ranges
  pub ring_sound : (empty : X) → Turning c → c.held ≤ length xs → Sound (ring_meaning empty c xs)
  ring_sound empty t room =
      let within = t.within in
      ending_sound empty c.span (ring_rows c xs) t.few (omega (arith, ring_length room))
