use Rattle.std.proofs.Common.{sym, ◌∙◌}
use Rattle.element.specs.Kinds.{number_of_kind}
use Rattle.image.proofs.Asked.{asked_none, asked_found}
use Rattle.image.proofs.ring.ImageRingArchive.ask.Goals as goal

pub returns : goal.returns
returns g c well =
    let ring = c.args.self.now in
    let kind = number_of_kind g.E.Coded.KIND in
    let fault = g.E.Coded.fault in
    let s = ring.bytes.now in
    let there = sym (c.place.ensures well.turning) ∙ c.in_ok-place.was in
    c.row_at.ensures
    ∙ asked_found kind fault ring.cursor s well g.E.Monoid.empty g.E.Coded.decoded c.args.age _ there

pub returns-in_err-place : goal.returns-in_err-place
returns-in_err-place g c well =
    let ring = c.args.self.now in
    c.from_residual.ensures ∙ asked_none (number_of_kind g.E.Coded.KIND) g.E.Coded.fault ring.cursor ring.bytes.now well g.E.Monoid.empty g.E.Coded.decoded c.args.age (sym (c.place.ensures well.turning) ∙ c.in_err-place.was)
