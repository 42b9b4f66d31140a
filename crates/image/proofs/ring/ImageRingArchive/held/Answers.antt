use Rattle.std.proofs.Common.{sym}
use Rattle.image.specs.RingImages.{ring_held}
use Rattle.image.proofs.ring.ImageRingArchive.held.Goals as goal

pub returns : goal.returns
returns g c well = let ring = c.args.self.now in sym (ring_held g.E.Monoid.empty g.E.Coded.decoded ring.cursor ring.bytes.now well.turning)
