-- Items: an element and two counts modulo 2 ^ 32, joined part by part. Assumes nothing.
use Rattle.std.specs.Prelude.{ℕ}
use Rattle.consolidation.specs.Sums.{sum32}
use Rattle.consolidation.specs.declared.item.Item.{Item}

abbrev pub item : {E : Type 0} → E → ℕ → ℕ → Item E
item element known of = record { element = element; known = known; of = of }

abbrev pub item_joined : {E : Type 0} → (E → E → E) → Item E → Item E → Item E
item_joined joined x y = item (joined x.element y.element) (sum32 x.known y.known) (sum32 x.of y.of)
