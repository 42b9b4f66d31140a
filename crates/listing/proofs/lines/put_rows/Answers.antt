use Rattle.std.proofs.Common.{◌≡◌, [], ◌∷◌, ◌++◌, sym, ap, ◌∙◌, subst, append_assoc, rules}
use Rattle.std.specs.List.{flat_map}
use Rattle.element.specs.Kinds.{number_of_kind}
use Rattle.image.specs.Images.{rows_in}
use Rattle.image.specs.Opened.{Opened}
use Rattle.lent_bytes.specs.Texts.{NoRoom}
use Rattle.lent_bytes.proofs.Growing.{grown_none}
use Rattle.listing.specs.Listing.{item_line}
use Rattle.listing.proofs.Listed.{rows_listed}
use Rattle.listing.proofs.Texts.{extends_not, grown_one, short_one}
use Rattle.listing.proofs.lines.put_rows.Goals as goal

pub loop-row-init : goal.loop-row-init
loop-row-init g c =
    let s = c.args.image.now.bytes.now in
    let decoded = g.E.Coded.decoded in
    let amount = g.E.Consolidation.amount in
    let weight = g.E.Consolidation.weight in
    let listed = λ (opened : Opened (number_of_kind g.E.Coded.KIND) g.E.Coded.fault c.args.image.now.header s).
    rows_listed g.E.Coded.fault s decoded amount weight g.met.E.Coded.told (number_of_kind g.E.Coded.KIND) opened.sound in
    let all : Opened (number_of_kind g.E.Coded.KIND) g.E.Coded.fault c.args.image.now.header s → c.into_iter-row-iterator.result ≡ rows_in decoded s = λ opened. search rules in
    (λ opened. ap (flat_map (item_line amount weight)) (all opened) ∙ listed opened, grown_none c.args.text.now)

pub loop-row-preserved : goal.loop-row-preserved
loop-row-preserved g c =
    let tells = item_line g.E.Consolidation.amount g.E.Consolidation.weight in
    let done = c.loop-row.yielded in
    let row = c.in-Some.row in (
      λ opened. ap (flat_map tells) (append_assoc done (row ∷ []) _ ∙ ap (λ l. done ++ l) (sym c.in-Some.ensures.steps)) ∙ c.loop-row.invariant.0 opened,
      grown_one tells done row c.loop-row.invariant.1 c.in_ok-put_row.ensures,
    )

pub returns-in_err-put_row : goal.returns-in_err-put_row
returns-in_err-put_row g c opened =
    let tells = item_line g.E.Consolidation.amount g.E.Consolidation.weight in
    let done = c.loop-row.yielded in
    let all = ap (λ l. flat_map tells (done ++ l)) (sym c.in-Some.ensures.steps) ∙ c.loop-row.invariant.0 opened in
    extends_not c.args.text.now c.put_row.new.text _ c.from_residual.result c.from_residual.ensures.0
    (subst (NoRoom c.args.text.now) all (short_one tells done c.in-Some.row _ c.loop-row.invariant.1 c.in_err-put_row.ensures))
