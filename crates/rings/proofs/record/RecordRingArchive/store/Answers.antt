use Rattle.std.proofs.Common.{◌<◌, length, sym, ◌∙◌, subst}
use Rattle.consolidation.specs.ItemsLemmas.{item_lawful}
use Rattle.archive.proofs.Ringing.{span_whole}
use Rattle.archive.proofs.Turned.{ring_recorded}
use Rattle.rings.proofs.record.RecordRingArchive.store.Goals as goal

pub returns-then-self-gt0-clause-value : goal.returns-then-self-gt0-clause-value
returns-then-self-gt0-clause-value g c w =
    let s = c.args.self.now in
    let xs = s.rows.now in
    let some = c.if-self-gt0.true in
    let size = span_whole (length xs) (subst (λ n. 0 < n) w.span_is some) ∙ sym w.span_is in
    rw (c.put.ensures, c.next-self.ensures) (ring_recorded s.cursor xs w.turning (item_lawful g.met.E.Monoid.lawful) c.args.item some size)
