use Rattle.std.proofs.Common.{ap, ◌∙◌, arith, w64, SFits, of_z, rules}
use Rattle.std.specs.Int.{to_le_bytes}
use Rattle.std.proofs.lemmas.Int.{to_z-of_z}
use Rattle.lent_bytes.specs.Placed.{placed}
use Rattle.image.specs.Rows.{row_bytes}
use Rattle.image.proofs.Rows.{row_placed, row_written}
use Rattle.image.proofs.row.write_row.Goals as goal

pub returns : goal.returns
returns g c =
    let s = c.args.bytes.now in
    let x = c.args.item in
    let a = c.encode-amount.result.0 in
    let w = c.encode-amount.result.1 in
    let at = c.row_start-start.result in
    let fa : SFits w64 a = search rules in
    let first = c.put_field.ensures ∙ ap (placed s at) (c.to_le_bytes.ensures ∙ ap (λ z. to_le_bytes w64 (of_z w64 z)) (to_z-of_z w64 a fa)) in
    let bytes = row_placed a w x.known x.of s _ _ at (omega arith) first c.put_numbers.ensures ∙ ap (λ k. placed s k (row_bytes a w x.known x.of)) c.row_start-start.ensures in
    row_written g.E.Consolidation.amount g.E.Consolidation.weight g.E.Coded.fault g.E.Coded.decoded s _ c.args.place x a w (omega arith) fa (search rules) (search rules) (search rules) c.encode-amount.ensures.told c.encode-amount.ensures.back bytes
