use Rattle.std.proofs.Common.{◌≡◌, ℕ, List, Ok, Result, sym, ap, ◌∙◌}
use Rattle.std.proofs.lemmas.Result.{err_from_is_err_and}
use Rattle.image.specs.declared.fault.ImageFault.{ImageFault}
use Rattle.image.specs.declared.header.Header.{Header}
use Rattle.element.specs.declared.kind.Kind.{Kind}
use Rattle.element.specs.Faults.{unless}
use Rattle.image.specs.Headers.{header_in, front_fault}
use Rattle.element.specs.Kinds.{number_of_kind}
use Rattle.image.proofs.Images.{Accepted, accepted, row_within, refused_front, refused_row}
use Rattle.image.proofs.opened.check.Goals as goal

-- what `open_header` answers, of the kind that `E` names
of_kind : (named kind : Kind) (s : List ℕ) (r : Result Header ImageFault) → named ≡ kind → r ≡ unless (front_fault (number_of_kind named) s) (header_in s) → r ≡ unless (front_fault (number_of_kind kind) s) (header_in s)
of_kind named kind s r same e = e ∙ ap (λ k. unless (front_fault (number_of_kind k) s) (header_in s)) same

header : (named kind : Kind) (s : List ℕ) (h : Header) → named ≡ kind → Ok h ≡ unless (front_fault (number_of_kind named) s) (header_in s) → Accepted (number_of_kind kind) s h
header named kind s h same e = accepted (number_of_kind kind) s h (of_kind named kind s (Ok h) same e)

pub returns-in_err-header : goal.returns-in_err-header
returns-in_err-header g c =
    let s = c.args.bytes.now in
    let kind = g.E.Coded.KIND in
    let p = err_from_is_err_and c.from_residual.result c.from_residual.ensures.1 in
    rw (p.1, p.2) (refused_front (number_of_kind kind) s g.E.Coded.fault _ (of_kind c.KIND.result kind s _ c.KIND.ensures c.in_err-header.ensures))

-- the check finds this alone, but not with its limits halved
pub check_row-requires : goal.check_row-requires
check_row-requires g c =
    let s = c.args.bytes.now in
    let kind = g.E.Coded.KIND in
    let h = c.in_ok-header.header in
    row_within (number_of_kind kind) s h c.loop-place.place (header c.KIND.result kind s h c.KIND.ensures c.in_ok-header.ensures) c.loop-place-test.true

pub returns-in_err-check_row : goal.returns-in_err-check_row
returns-in_err-check_row g c =
    let s = c.args.bytes.now in
    let kind = g.E.Coded.KIND in
    let h = c.in_ok-header.header in
    let p = err_from_is_err_and c.from_residual-in_err-check_row.result c.from_residual-in_err-check_row.ensures.1 in
    rw (p.1, p.2)
    (refused_row (number_of_kind kind) s g.E.Coded.fault h c.loop-place.place _
    (header c.KIND.result kind s h c.KIND.ensures c.in_ok-header.ensures) c.loop-place-test.true c.loop-place.invariant (sym c.in_err-check_row.ensures))
