use Rattle.std.proofs.Common.{arith}
use Rattle.std.proofs.lemmas.Grind.{common_steps}
use Rattle.consolidation.proofs.Folds.{fold-append}
use Rattle.consolidation.proofs.fold.fold.Goals as goal

pub returns-clause-parts : goal.returns-clause-parts
returns-clause-parts g c xs ys is = grind (arith, common_steps, fold-append g.met.M.Monoid.lawful g.M.Monoid.empty xs ys)
