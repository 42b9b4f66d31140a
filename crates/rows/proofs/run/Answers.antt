use Rattle.std.proofs.Common.{arith}
use Rattle.std.proofs.lemmas.Bool.{false≢true}
use Rattle.rows.proofs.run.Goals as goal

pub unreachable-requires : goal.unreachable-requires
unreachable-requires g c =
    let made = c.in_ok-text.ensures.len in
    false≢true (c.in_default.ensures.fits (omega (arith, made, c.as_mut_slice.ensures.len)))
