use Rattle.std.proofs.Common.{◌≡◌, take}
use Rattle.std.specs.List.{flat_map}
use Rattle.lent_bytes.specs.Placed.{placed}
use Rattle.image.specs.Numbers.{bytes32}
use Rattle.image.proofs.number.put_numbers.Given as goal

abbrev pub invariant-loop-k : goal.invariant-loop-k
invariant-loop-k g l = l.bytes ≡ placed l.initial.bytes l.at (flat_map bytes32 (take l.k l.number-items))
