use Rattle.std.proofs.Common.{◌+◌, ◌*◌, ◌<◌, length, take, get_or, ap, ◌∙◌, arith, rules, length-take-le}
use Rattle.std.specs.List.{flat_map}
use Rattle.lent_bytes.specs.Placed.{placed}
use Rattle.lent_bytes.proofs.Placing.{placed_more}
use Rattle.image.specs.Numbers.{bytes32}
use Rattle.image.proofs.Numbers.{bytes_more, length-bytes}
use Rattle.image.proofs.number.put_numbers.Goals as goal

pub loop-k-preserved : goal.loop-k-preserved
loop-k-preserved g c =
    let s = c.args.bytes.now in
    let ns = c.args.numbers in
    let k = c.loop-k.k in
    let before = flat_map bytes32 (take k ns) in
    let n = bytes32 (get_or ns k 0) in
    let next = c.args.at + 4 * k in
    let inside : k < length ns = search rules in
    c.put_field.ensures
    ∙ (λ i. placed (c.loop-k.invariant i) next (c.to_le_bytes.ensures i))
    ∙ placed_more s c.args.at next before n (omega (arith, length-bytes (take k ns), length-take-le k ns)) (omega arith)
    ∙ ap (placed s c.args.at) (bytes_more ns k inside)
