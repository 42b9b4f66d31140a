-- What is asked of items beyond their joining: how many points they stand for, and how many of these are known. Assumes nothing.
use Rattle.std.specs.Prelude.{ℕ, ◌-◌, ◌*◌, cond, nat_le}
use Rattle.consolidation.specs.Items.{item}
use Rattle.consolidation.specs.declared.item.Item.{Item}

pub record Counted (M : Type 0) : Type 0 where
  pub known : M → ℕ
  pub of : M → ℕ
  -- what stands for so many points, none of which is known
  pub unknown : ℕ → M

-- of the empty element
abbrev pub empty_item : {E : Type 0} → E → Item E
empty_item empty = item empty 0 0

abbrev pub item_counts : {E : Type 0} → E → Counted (Item E)
item_counts empty = record { known = λ x. x.known; of = λ x. x.of; unknown = λ n. item empty 0 n }

-- An item as it is, if at most `allowance` thousandths of its points are unknown; if not, as many points of which none is known.
-- Its unknown points are of − known, and 0 where known exceeds of.
abbrev pub shown : {M : Type 0} → Counted M → (allowance : ℕ) → M → M
shown counts allowance x =
    let unknown = counts.of x - counts.known x in
    cond (nat_le (1000 * unknown) (allowance * counts.of x)) x (counts.unknown (counts.of x))
