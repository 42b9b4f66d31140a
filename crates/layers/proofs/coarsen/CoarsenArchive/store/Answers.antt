use Rattle.std.proofs.Common.{ap, ◌∙◌, arith}
use Rattle.archive.specs.Meanings.{stored}
use Rattle.layers.proofs.Coarsening.{coarser_closed, grouping_closed}
use Rattle.layers.proofs.coarsen.CoarsenArchive.store.Goals as goal

pub returns-else-self : goal.returns-else-self
returns-else-self g c =
    let s = c.args.self.now in
    let d = g.A.Item.Monoid in
    let m = g.A.Archive.meaning s.below in
    let laws = g.met.A.Item.Monoid.lawful in
    let sound = g.met.A.Archive.sound s.below in
    let down = λ (w : g.A.Archive.well s.below). c.store.ensures.value w ∙ ap (stored d.empty d.joined m) c.join-joined.ensures in
    record {
      kept = λ w. (c.store.ensures.kept w.0, rw (down w.0, c.empty-self.ensures) (grouping_closed laws m (sound w.0) s.factor s.count s.part w.1 c.args.item (d.joined s.part c.args.item)));
      value = λ w. rw (down w.0, c.empty-self.ensures) (coarser_closed laws m (sound w.0) s.factor s.count s.part w.1 c.args.item (omega arith));
    }
