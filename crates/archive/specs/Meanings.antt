-- What an archive is told by, and what each call makes of it. Assumes nothing.
use Rattle.std.specs.Prelude.{ℕ, ◌+◌, ◌-◌, ◌<◌, ◌≤◌, cond, List, [], ◌∷◌, ◌++◌, length, drop, Some, None, fold, Option, nat_lt, slice_index_or}
use Rattle.archive.specs.Entries.{Counted, shown}

pub record Meaning (M : Type 0) : Type 0 where
  -- how many items make one row
  pub width : ℕ
  -- the most rows that are held
  pub span : ℕ
  -- how much of a row may be unknown, in thousandths
  pub allowance : ℕ
  -- the open row: how many items it has, and their joining
  pub begun : ℕ
  pub part : M
  -- the rows that are held, the oldest first
  pub rows : List M

-- the ranges of all that
pub record Sound {M : Type 0} (m : Meaning M) : Type 0 where
  pub some_width : 1 ≤ m.width
  pub most_width : m.width ≤ 1000000
  pub most_span : m.span ≤ 3000
  pub most_allowance : m.allowance ≤ 1000
  pub still_open : m.begun < m.width
  pub within_span : length m.rows ≤ m.span

-- the last n of xs, in their order; all of them where there are fewer
abbrev pub newest : {M : Type 0} → ℕ → List M → List M
newest n xs = drop (length xs - n) xs

abbrev pub fresh : {M : Type 0} → M → (width span allowance : ℕ) → Meaning M
fresh empty width span allowance = record { width = width; span = span; allowance = allowance; begun = 0; part = empty; rows = [] }

-- the open row has one item more
abbrev pub grown : {M : Type 0} → Meaning M → M → Meaning M
grown m part = record { width = m.width; span = m.span; allowance = m.allowance; begun = m.begun + 1; part = part; rows = m.rows }

-- a row is the newest that is held, and the open row is empty
abbrev pub closed : {M : Type 0} → M → Meaning M → M → Meaning M
closed empty m row = record { width = m.width; span = m.span; allowance = m.allowance; begun = 0; part = empty; rows = newest m.span (m.rows ++ row ∷ []) }

-- one item more, at the late end
abbrev pub stored : {M : Type 0} → M → (M → M → M) → Meaning M → M → Meaning M
stored empty joined m x =
    let part = joined m.part x in
    cond (nat_lt (m.begun + 1) m.width) (grown m part) (closed empty m part)

-- the items of a list, one after another
abbrev pub stored_all : {M : Type 0} → M → (M → M → M) → Meaning M → List M → Meaning M
stored_all empty joined = fold (stored empty joined)

-- the row of an age, 0 for the newest, as it is shown; none where the age is not below the number held
abbrev pub asked : {M : Type 0} → M → Counted M → Meaning M → ℕ → Option M
asked empty counts m age =
    let held = length m.rows in
    cond (nat_lt age held) (Some (shown counts m.allowance (slice_index_or m.rows (held - 1 - age) empty))) None

-- an archive that keeps each item as a row of its own, and shows all that it holds
abbrev pub ending : {M : Type 0} → M → (span : ℕ) → List M → Meaning M
ending empty span rows = record { width = 1; span = span; allowance = 1000; begun = 0; part = empty; rows = rows }
