use Rattle.element.specs.Kinds.{number_of_kind}
use Rattle.image.proofs.Shown.{shows}
use Rattle.image.proofs.ring.ImageRing.bytes.Goals as goal

pub returns-clause-shows : goal.returns-clause-shows
returns-clause-shows g c well some =
    let ring = c.args.self.now in
    shows (number_of_kind g.E.Coded.KIND) g.E.Coded.fault ring.cursor ring.bytes.now well g.E.Monoid.empty g.E.Coded.decoded some
