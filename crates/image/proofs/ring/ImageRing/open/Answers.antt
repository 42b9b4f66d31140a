use Rattle.std.proofs.Common.{◌<◌, ap, ◌∙◌, arith}
use Rattle.std.proofs.lemmas.Bool.Decides.{nat_tests}
use Rattle.element.specs.Kinds.{number_of_kind}
use Rattle.image.specs.Rings.{header_of}
use Rattle.image.proofs.Shown.{image_of_ring}
use Rattle.image.proofs.ring.ImageRing.open.Goals as goal

pub returns : goal.returns
returns g c well =
    let ring = c.args.self.now in
    let right = c.if-wrong_span.ensures in
    let some : 0 < ring.cursor.span = grind (arith, nat_tests) in
    let header = c.of_parts.ensures.header ∙ c.header_of.ensures ∙ ap (λ k. header_of (number_of_kind k) ring.cursor) c.KIND.ensures in
    image_of_ring (number_of_kind g.E.Coded.KIND) g.E.Coded.fault g.E.Monoid.empty g.E.Coded.decoded ring.cursor ring.bytes.now well some c.of_parts.result.header c.of_parts.result.bytes.now header c.of_parts.ensures.bytes
