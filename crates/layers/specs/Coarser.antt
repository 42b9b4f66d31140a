-- Groups of items that are kept as items by the archive below. Assumes nothing.
use Rattle.std.specs.Prelude.{◌≡◌, ℕ, ◌+◌, ◌*◌, ◌<◌, ◌≤◌, Bool, cond, ◌||◌, nat_lt}
use Rattle.std.proofs.Common.{arith, mul-le-mul_left, mul-add, mul-one}
use Rattle.archive.specs.Meanings.{Meaning, Sound}

-- a factor that is not 1 to 1,000, or that makes a width above 1,000,000
abbrev pub unfit : (factor width : ℕ) → Bool
unfit factor width = nat_lt factor 1 || (nat_lt 1000 factor || nat_lt 1000000 (factor * width))

-- with a factor that does not fit, each item is a group of its own
abbrev pub fit_factor : (factor width : ℕ) → ℕ
fit_factor factor width = cond (unfit factor width) 1 factor

-- an archive seen through groups of `factor` items, of which the open group has `count` items, joined in `part`
abbrev pub coarser : {M : Type 0} → (M → M → M) → Meaning M → (factor count : ℕ) → (part : M) → Meaning M
coarser joined m factor count part = record {
  width = factor * m.width;
  span = m.span;
  allowance = m.allowance;
  begun = factor * m.begun + count;
  part = joined m.part part;
  rows = m.rows;
}

-- what the groups over an archive keep to
pub record Grouping {M : Type 0} (empty : M) (width factor count : ℕ) (part : M) : Type 0 where
  pub some_factor : 1 ≤ factor
  pub most_factor : factor ≤ 1000
  pub most_width : factor * width ≤ 1000000
  pub still_open : count < factor
  pub none_begun : count ≡ 0 → part ≡ empty

-- one group more is still within the width
pub group_within : (factor b w : ℕ) → b < w → factor * b + factor ≤ factor * w
group_within factor b w h = omega (arith, mul-add factor b 1, mul-one factor, mul-le-mul_left {m = b + 1} {n = w} factor (omega arith))

pub coarser_sound : {M : Type 0} (empty : M) (joined : M → M → M) (m : Meaning M) (factor count : ℕ) (part : M) → Sound m → Grouping empty m.width factor count part → Sound (coarser joined m factor count part)
coarser_sound empty joined m factor count part s g =
    let room = group_within factor m.begun m.width s.still_open in
    record {
      some_width = omega arith;
      most_width = g.most_width;
      most_span = s.most_span;
      most_allowance = s.most_allowance;
      still_open = omega arith;
      within_span = s.within_span;
    }
