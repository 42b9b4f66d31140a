use Rattle.std.proofs.Common.{rules, ◌≡◌, length, sym, ap, ◌∙◌, Some}
use Rattle.image.specs.Headers.{header_in, length_fault, header_fault, front_fault}
use Rattle.element.specs.Kinds.{number_of_kind}
use Rattle.image.proofs.Faults.{or_second, unless_ok, unless_err, unless_some}
use Rattle.image.proofs.header.open_header.Goals as goal

pub returns-in_err-check : goal.returns-in_err-check
returns-in_err-check c =
    let s = c.args.bytes.now in
    let kind = number_of_kind c.args.kind in
    let long = unless_ok (length_fault (length s)) _ _ (sym c.check_length.ensures ∙ c.in_ok-check_length.was) in
    let found = unless_err (header_fault kind (length s) c.read_header-header.result) _ _ (sym c.check.ensures ∙ c.in_err-check.was) in
    let front : front_fault kind s ≡ Some c.in_err-check.field-0.0 = or_second (length_fault (length s)) _ long ∙ ap (header_fault kind (length s)) (sym c.read_header-header.ensures) ∙ found in
    let same = unless_some (front_fault kind s) (header_in s) c.in_err-check.field-0.0 front in
    search (rules, same)
