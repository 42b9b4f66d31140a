use Rattle.std.proofs.Common.{◌≡◌, None}
use Rattle.image.specs.Faults.{earliest}
use Rattle.image.specs.Images.{bad_element}
use Rattle.image.proofs.opened.check.Given as goal

abbrev pub invariant-loop-place : goal.invariant-loop-place
invariant-loop-place g l = earliest (bad_element g.E.Coded.fault l.bytes) l.place ≡ None
