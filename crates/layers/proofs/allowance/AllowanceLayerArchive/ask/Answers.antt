use Rattle.std.proofs.Common.{sym, ◌∙◌}
use Rattle.layers.proofs.Limiting.{limited_asked}
use Rattle.layers.proofs.allowance.AllowanceLayerArchive.ask.Goals as goal

-- the check finds this alone, without the lemma that an allowance over an allowance is the smaller of the two, on which `ask` is said to rest
pub returns : goal.returns
returns g c w =
    let s = c.args.self.now in
    let m = g.A.Archive.meaning s.below in
    limited_asked g.A.Item.Monoid.empty g.A.Item.Entry.counts g.met.A.Item.Entry.counted s.allowance m c.args.age c.in_ok-row.row c.show.result (sym c.in_ok-row.was ∙ c.ask.ensures w) c.show.ensures
