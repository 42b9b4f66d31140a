-- Items that are numbered, in groups that make rows. Assumes nothing.
use Rattle.std.specs.Prelude.{ℕ, ◌-◌, ◌*◌, ◌/◌, ◌%◌, List, map, length, slice_index_or}
use Rattle.std.specs.List.{range_with_len}
use Rattle.archive.specs.Gathers.{gather}
use Rattle.archive.specs.Meanings.{Meaning, newest}

module _ {M : Type 0} (empty : M) (joined : M → M → M) (width : ℕ) where
  -- the row r joins the items r × width to r × width + width − 1
  abbrev pub row : (ℕ → M) → ℕ → M
  row item r = gather empty joined item (r * width) width

  -- what an archive holds that began with the row first, and was given all items before the item k
  abbrev pub upto : (span allowance first : ℕ) → (ℕ → M) → ℕ → Meaning M
  upto span allowance first item k = record {
    width = width;
    span = span;
    allowance = allowance;
    begun = k % width;
    part = gather empty joined item (k / width * width) (k % width);
    rows = newest span (map (row item) (range_with_len first (k / width - first)));
  }

-- a list in groups: each whole group makes a row, of which the newest are held, and the rest is the open row
abbrev pub grouped : {M : Type 0} → M → (M → M → M) → (width span allowance : ℕ) → List M → Meaning M
grouped empty joined width span allowance xs = upto empty joined width span allowance 0 (λ i. slice_index_or xs i empty) (length xs)
