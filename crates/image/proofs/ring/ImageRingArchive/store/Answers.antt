use Rattle.std.proofs.Common.{◌<◌, arith}
use Rattle.consolidation.specs.ItemsLemmas.{item_lawful}
use Rattle.consolidation.specs.Items.{item_joined}
use Rattle.element.specs.Kinds.{number_of_kind}
use Rattle.image.proofs.Recorded.{store_kept, store_value}
use Rattle.image.proofs.ring.ImageRingArchive.store.Goals as goal

pub returns-then-is_ok-clause-kept : goal.returns-then-is_ok-clause-kept
returns-then-is_ok-clause-kept g c well =
    let ring = c.args.self.now in
    let some : 0 < ring.cursor.span = omega arith in
    store_kept g.E.Consolidation.amount g.E.Consolidation.weight g.E.Coded.fault g.E.Coded.decoded (number_of_kind g.E.Coded.KIND) ring.cursor ring.bytes.now _ _ some well _ c.write_row.ensures _ _ c.next-next.ensures c.write_turn.ensures

pub returns-then-is_ok-clause-value : goal.returns-then-is_ok-clause-value
returns-then-is_ok-clause-value g c well =
    let ring = c.args.self.now in
    let some : 0 < ring.cursor.span = omega arith in
    store_value g.E.Consolidation.amount g.E.Consolidation.weight g.E.Coded.fault g.E.Coded.decoded (number_of_kind g.E.Coded.KIND) ring.cursor ring.bytes.now c.args.item c.write_row.new.bytes some well c.write_row.result c.write_row.ensures c.next-next.result c.write_turn.new.bytes c.next-next.ensures c.write_turn.ensures
    g.E.Monoid.empty (item_joined g.E.Monoid.joined) (item_lawful g.met.E.Monoid.lawful)
