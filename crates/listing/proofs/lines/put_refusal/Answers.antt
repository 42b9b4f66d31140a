use Rattle.std.proofs.Common.{◌≡◌, ◌^◌, ◌<◌, [], ◌∷◌, pos, sym, ap, ◌∙◌, subst, rules}
use Rattle.listing.specs.Listing.{details}
use Rattle.listing.proofs.Listed.{plain}
use Rattle.listing.proofs.Refused.{refused}
use Rattle.listing.proofs.Texts.{widened}
use Rattle.listing.proofs.lines.put_refusal.Goals as goal

pub returns-in-Element : goal.returns-in-Element
returns-in-Element c =
    let place_fits : c.in-Element.bad.place < 2 ^ 32 = search rules in
    let p =
    refused c.put_ending.new.text c.args.fault _ _ _ c.put_ending.result c.number-number.type_inv c.number-number.ensures c.byte-byte.type_inv c.byte-byte.ensures
    ((λ i. widened c.in-Element.bad.place place_fits i ∷ (widened c.number.result c.number.type_inv ∙ ap pos c.number.ensures) i ∷ []) ∙ sym (ap details c.in-Element.is))
    (λ bad e. let was = c.in-Element.is in let same : bad ≡ c.in-Element.bad = cc in subst (λ b. b.place < 2 ^ 32) (sym same) place_fits)
    c.in_ok-put.ensures c.put_ending.ensures in
    record { text = p.0; fits = p.1 }

pub returns-in_default : goal.returns-in_default
returns-in_default c =
    let p =
    refused c.put_ending-in_default.new.text c.args.fault _ _ _ c.put_ending-in_default.result c.number-number.type_inv c.number-number.ensures c.byte-byte.type_inv c.byte-byte.ensures
    (plain c.args.fault c.in_default.not-Element)
    (λ bad e. absurd (c.in_default.not-Element bad e))
    c.in_ok-put.ensures c.put_ending-in_default.ensures in
    record { text = p.0; fits = p.1 }
