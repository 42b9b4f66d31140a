-- A ring of places: which is written next, and which hold the newest rows. Assumes nothing.
use Rattle.std.specs.Prelude.{◌≡◌, ℕ, ◌+◌, ◌-◌, ◌<◌, ◌≤◌, Bool, cond, ◌||◌, List, ◌++◌, take, drop, Some, None, Option, nat_lt}
use Rattle.archive.specs.Meanings.{Meaning, ending}
use Rattle.archive.specs.declared.cursor.Cursor.{Cursor}

-- a ring has 1 to 3,000 places
abbrev pub wrong_span : ℕ → Bool
wrong_span places = nat_lt places 1 || nat_lt 3000 places

-- over another number of places it has none
abbrev pub ring_span : ℕ → ℕ
ring_span places = cond (wrong_span places) 0 places

abbrev pub cursor : (span held head : ℕ) → Cursor
cursor span held head = record { span = span; held = held; head = head }

-- the places are written in turn from place 0
pub record Turning (c : Cursor) : Type 0 where
  pub few : c.span ≤ 3000
  pub within : c.held ≤ c.span
  pub next_free : c.held < c.span → c.head ≡ c.held
  pub round : c.held ≡ c.span → 0 < c.span → c.head < c.span

-- a ring is well: its cursor turns over all of so many places, or over none where they are too many
pub record RingWell (c : Cursor) (places : ℕ) : Type 0 where
  pub turning : Turning c
  pub span_is : c.span ≡ ring_span places

-- the place after another, and after the last the first
abbrev pub next_place : (span place : ℕ) → ℕ
next_place span place = cond (nat_lt (place + 1) span) (place + 1) 0

-- once the place at the head is written
abbrev pub turned_on : Cursor → Cursor
turned_on c = cursor c.span (cond (nat_lt c.held c.span) (c.held + 1) c.held) (next_place c.span c.head)

-- a list from a place on, and then from its start up to that place
abbrev pub from_place : {X : Type 0} → ℕ → List X → List X
from_place head xs = drop head xs ++ take head xs

-- the rows that the places hold, the oldest first: until the ring is full the head is past them all
abbrev pub ring_rows : {X : Type 0} → Cursor → List X → List X
ring_rows c places = from_place c.head (take c.held places)

-- what a ring means: each item is a row of its own
abbrev pub ring_meaning : {M : Type 0} → M → Cursor → List M → Meaning M
ring_meaning empty c places = ending empty c.span (ring_rows c places)

-- where the row of an age stands, 0 for the newest
abbrev pub age_place : Cursor → ℕ → Option ℕ
age_place c age = cond (nat_lt age c.held) (Some (cond (nat_lt age c.head) (c.head - 1 - age) (c.head + c.held - 1 - age))) None
