use Rattle.std.proofs.Common.{◌≡◌, ℕ, List, Bor, cond, Option, Some, None, get_or, sym, ap, ◌∙◌, arith}
use Rattle.std.specs.Option.{IsSome, IfSome, option_copied}
use Rattle.archive.specs.Entries.{empty_item, item_counts}
use Rattle.archive.specs.RingsLemmas.{held_within}
use Rattle.archive.proofs.Ringing.{place_held}
use Rattle.archive.proofs.Turned.{ring_found, ring_missing}
use Rattle.rings.proofs.record.RecordRingArchive.ask.Goals as goal

read : {X : Type 0} (r : Option (Bor X)) (xs : List X) (i : ℕ) (shown : Option X) → IsSome r → IfSome r (λ x. x.now ≡ get_or xs i x.now) → ((d : X) → Some (get_or xs i d) ≡ shown) → option_copied r ≡ shown
read (Some x) xs i shown some is found = ap Some is ∙ found x.now
read None xs i shown some is found = let never : ◌≡◌ {A = ℕ} 0 1 = ap (λ b. cond b 1 0) some in absurd (omega arith)

pub returns : goal.returns
returns g c w =
    let s = c.args.self.now in
    let empty = empty_item g.E.Monoid.empty in
    let room = held_within s.cursor s.rows.now w.turning w.span_is in
    let at = sym (c.place.ensures w.turning) ∙ c.in_ok-place.was in
    let held = place_held s.cursor c.args.age c.in_ok-place.place w.turning at in
    let get = c.get.ensures.lookup in
    c.copied.ensures ∙ read c.get.result s.rows.now c.in_ok-place.place _ (get.2 (omega arith)) get.1 (λ d. ring_found s.cursor s.rows.now w.turning empty (item_counts g.E.Monoid.empty) c.args.age c.in_ok-place.place d room at)

-- the check finds this alone, but not with its limits halved
pub returns-in_err-place : goal.returns-in_err-place
returns-in_err-place g c w =
    let s = c.args.self.now in
    let empty = g.E.Monoid.empty in
    c.from_residual.ensures ∙ ring_missing s.cursor s.rows.now w.turning (empty_item empty) (item_counts empty) c.args.age (held_within s.cursor s.rows.now w.turning w.span_is) (sym (c.place.ensures w.turning) ∙ c.in_err-place.was)
