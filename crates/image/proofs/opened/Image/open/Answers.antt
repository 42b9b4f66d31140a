use Rattle.std.proofs.Common.{sym}
use Rattle.std.proofs.lemmas.Result.{err_from_is_err_and}
use Rattle.image.specs.Headers.{header_in}
use Rattle.image.specs.Images.{image_fault}
use Rattle.element.specs.Kinds.{number_of_kind}
use Rattle.image.proofs.Faults.{unless_ok, unless_value, unless_err}
use Rattle.image.proofs.Reading.{header_sound, row_sound}
use Rattle.image.proofs.opened.Image.open.Goals as goal

pub returns-clause-opened : goal.returns-clause-opened
returns-clause-opened g c =
    let s = c.args.bytes.now in
    let first = image_fault (number_of_kind g.E.Coded.KIND) g.E.Coded.fault s in
    let answered = sym c.in_ok-header.ensures in
    rw (c.of_parts.ensures.header, c.of_parts.ensures.bytes) (record { sound = unless_ok first (header_in s) _ answered; header_is = unless_value first (header_in s) _ answered })

pub returns-clause-ruled : goal.returns-clause-ruled
returns-clause-ruled g c =
    let s = c.args.bytes.now in
    let kind = number_of_kind g.E.Coded.KIND in
    let fault = g.E.Coded.fault in
    let none = unless_ok (image_fault kind fault s) (header_in s) _ (sym c.in_ok-header.ensures) in
    record { header = header_sound kind fault s none; elements = row_sound kind fault s none }

pub returns-in_err-header-clause-fault : goal.returns-in_err-header-clause-fault
returns-in_err-header-clause-fault g c =
    let s = c.args.bytes.now in
    let p = err_from_is_err_and c.from_residual.result c.from_residual.ensures.1 in
    rw (p.1, p.2) (sym (unless_err (image_fault (number_of_kind g.E.Coded.KIND) g.E.Coded.fault s) (header_in s) _ (sym c.in_err-header.ensures)))
