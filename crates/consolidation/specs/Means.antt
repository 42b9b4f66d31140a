-- The mean: an amount modulo 2 ^ 64, taken as signed, and a weight modulo 2 ^ 32. Assumes nothing.
use Rattle.std.specs.Prelude.{ℕ, ℤ, pos, ◌*ℤ◌}
use Rattle.consolidation.specs.Sums.{sum32, sum64}
use Rattle.consolidation.specs.declared.mean.Mean.{Mean}

abbrev pub mean : ℤ → ℕ → Mean
mean amount weight = record { amount = amount; weight = weight }

abbrev pub mean_joined : Mean → Mean → Mean
mean_joined x y = mean (sum64 x.amount y.amount) (sum32 x.weight y.weight)

abbrev pub mean_held : ℤ → ℕ → Mean
mean_held v n = mean (v *ℤ pos n) n
