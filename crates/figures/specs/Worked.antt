-- Figures that were worked by hand, as equations over the definitions. Assumes nothing.
use Rattle.std.specs.Prelude.{◌≡◌, length, replicate, pos, negsuc, Some, None}
use Rattle.std.specs.Int.{int_min}
use Rattle.archive.specs.Entries.{empty_item, item_counts, shown}
use Rattle.archive.specs.Meanings.{Meaning, fresh, stored_all}
use Rattle.consolidation.specs.Items.{item, item_joined}
use Rattle.consolidation.specs.Means.{mean, mean_held, mean_joined}
use Rattle.consolidation.specs.Singles.{single, single_joined, later_of}
use Rattle.consolidation.specs.declared.item.Item.{Item}
use Rattle.consolidation.specs.declared.mean.Mean.{Mean}
use Rattle.consolidation.specs.declared.pick.Latest.{Latest}
use Rattle.consolidation.specs.declared.pick.Least.{Least}
use Rattle.layers.specs.Coarser.{coarser}

-- the item of no time, and means joined
abbrev pub none : Item Mean
none = empty_item (mean (pos 0) 0)

abbrev pub joined : Item Mean → Item Mean → Item Mean
joined = item_joined mean_joined

-- 5 over 12 over an archive of one row
abbrev pub tower : Meaning (Item Mean)
tower = coarser joined (coarser joined (fresh none 1 1 1000) 12 0 none) 5 0 none

-- a point with 7 for a minute
abbrev pub point : Item Mean
point = item (mean_held (pos 7) 60) 1 1

pub record Figures : Type 0 where
  -- −3 that is held for 4 seconds has the amount −12 and the weight 4
  pub mean_of_minus_three_over_four_seconds : mean_held (negsuc 2) 4 ≡ mean (negsuc 11) 4
  -- that, joined with the amount 20 and the weight 2, has the amount 8 and the weight 6
  pub mean_joined_with_twenty_over_two : mean_joined (mean_held (negsuc 2) 4) (mean (pos 20) 2) ≡ mean (pos 8) 6
  -- the min of empty and 7 is 7
  pub min_of_empty_and_seven : single_joined int_min (single None) (single (Some (pos 7))) ≡ single {P = Least} (Some (pos 7))
  -- the last of 7 and empty is 7
  pub last_of_seven_and_empty : single_joined later_of (single (Some (pos 7))) (single None) ≡ single {P = Latest} (Some (pos 7))
  -- at the allowance 500, 3 known of 5 are shown
  pub three_known_of_five : (x : Mean) → shown (item_counts (mean (pos 0) 0)) 500 (item x 3 5) ≡ item x 3 5
  -- and 2 known of 5 are not
  pub two_known_of_five : (x : Mean) → shown (item_counts (mean (pos 0) 0)) 500 (item x 2 5) ≡ item (mean (pos 0) 0) 0 5
  -- 5 over 12 make a width of 60
  pub five_over_twelve : tower.width ≡ 60
  -- after 61 points one row is held
  pub one_row_of_sixty_one : length (stored_all none joined tower (replicate 61 point)).rows ≡ 1
  -- and the open row has one point
  pub one_point_more : (stored_all none joined tower (replicate 61 point)).begun ≡ 1
