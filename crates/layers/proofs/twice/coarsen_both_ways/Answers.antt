use Rattle.std.proofs.Common.{◌≡◌, ◌*◌, false, sym, ◌∙◌}
use Rattle.layers.specs.Coarser.{unfit}
use Rattle.layers.proofs.Factors.{start_twice, start_once}
use Rattle.layers.proofs.twice.coarsen_both_ways.Goals as goal

pub returns : goal.returns
returns g c =
    let a = c.args.first in
    let b = c.args.second in
    let m = g.B.Archive.meaning b in
    let laws = g.met.K.Monoid.lawful in
    let twice = λ (w : g.A.Archive.well a). c.new-twice.ensures.well (c.new.ensures.well w) in
    let once = c.new-once.ensures.well in
    let value = λ (w : g.B.Archive.well b) (fits : unfit (c.args.outer * c.args.inner) m.width ≡ false).
    rw (start_once laws m c.args.outer c.args.inner fits _ (c.new-once.ensures.value w)) at (c.store_all-2.ensures.value (once w)) in
    record {
      well_twice = λ w. c.store_all.ensures.kept (twice w);
      well_once = λ w. c.store_all-2.ensures.kept (once w);
      same = λ wa wb one_meaning fits.
          (rw (start_twice laws m c.args.outer c.args.inner fits _ _ _ one_meaning (c.new.ensures.value wa) (c.new-twice.ensures.value (c.new.ensures.well wa))) at (c.store_all.ensures.value (twice wa)))
          ∙ sym (value wb fits);
      value = λ wa wb one_meaning. value wb;
    }
