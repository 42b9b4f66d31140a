use Rattle.std.proofs.Common.{◌≡◌, ◌^◌, ◌<◌, [], ◌∷◌, pos, sym, ap, ◌∙◌, rules}
use Rattle.element.specs.Kinds.{number_of_kind}
use Rattle.image.specs.Headers.{header_in}
use Rattle.image.specs.Rows.{item_at}
use Rattle.image.proofs.Places.{length-rows}
use Rattle.image.proofs.Reading.{header_sound}
use Rattle.listing.proofs.Texts.{extends_line, widened}
use Rattle.listing.proofs.lines.put_header.Goals as goal

pub returns : goal.returns
returns g c opened =
    let s = c.args.image.now.bytes.now in
    let kind = number_of_kind g.E.Coded.KIND in
    let number_fits : c.number.result < 2 ^ 32 = search rules in
    let span_fits : c.span.result < 2 ^ 32 = search rules in
    let held_fits : c.held.result < 2 ^ 32 = search rules in
    let is_kind : c.number.result ≡ (header_in s).kind = c.number.ensures ∙ ap number_of_kind c.KIND.ensures ∙ sym (header_sound kind g.E.Coded.fault s opened.sound).of_kind in
    let is_held : c.held.result ≡ (header_in s).held = c.held.ensures opened ∙ sym (length-rows (header_in s) (item_at g.E.Coded.decoded s)) in
    extends_line c.put_ending.new.text _ _ c.put_ending.result
    (λ i. (widened c.number.result number_fits ∙ ap pos is_kind) i ∷ (widened c.span.result span_fits ∙ ap pos (c.span.ensures opened)) i ∷ (widened c.held.result held_fits ∙ ap pos is_held) i ∷ [])
    c.in_ok-put.ensures
    c.put_ending.ensures
