use Rattle.std.proofs.Common.{length, sym, ap, ◌∙◌, arith}
use Rattle.image.specs.Images.{row_of}
use Rattle.image.proofs.Left.{one_run}
use Rattle.image.proofs.Reading.{row_held}
use Rattle.image.proofs.opened.RowsIterator.next.Goals as goal

pub returns-clause-steps : goal.returns-clause-steps
returns-clause-steps g c =
    let rows = c.self.inside in
    let image = rows.image.now in
    let within = row_held g.E.Coded.fault g.E.Coded.decoded image.header image.bytes.now rows.index c.in_ok-row.row c.in_ok-row.ensures.row in
    sym c.self.view_is ∙ one_run (row_of g.E.Coded.fault g.E.Coded.decoded image.header image.bytes.now) rows.index image.header.held within c.in_ok-row.row c.in_ok-row.ensures.row

pub returns-clause-goes : goal.returns-clause-goes
returns-clause-goes g c = record { on = λ _. (tt, tt, omega (arith, ap length (returns-clause-steps g c))); keeps = tt; rests = λ _. tt }
