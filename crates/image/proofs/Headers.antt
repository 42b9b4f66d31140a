-- A header without a fault. Assumes nothing.
use Rattle.std.proofs.Common.{◌≡◌, ℕ, ◌+◌, ◌*◌, not, ◌||◌, eqb, ltb, List, length, None, arith}
use Rattle.std.proofs.lemmas.Bool.Decides.{nat_tests}
use Rattle.image.specs.declared.header.Header.{Header}
use Rattle.image.specs.Headers.{header_in, length_fault, kind_fault, span_fault, held_fault, head_kept, head_fault, offset_fault, total_fault, header_fault, front_fault, Sound}
use Rattle.image.proofs.Faults.{when_none, or_none}

header_sound : (kind len : ℕ) (h : Header) → header_fault kind len h ≡ None → Sound kind len h
header_sound kind len h none =
    let p₁ = or_none _ (total_fault len h) none in
    let p₂ = or_none _ (offset_fault h) p₁.0 in
    let p₃ = or_none _ (head_fault h) p₂.0 in
    let p₄ = or_none _ (held_fault h) p₃.0 in
    let p₅ = or_none (kind_fault kind h) (span_fault h) p₄.0 in
    let on_kind = when_none (not (eqb h.kind kind)) _ p₅.0 in
    let on_span = when_none (ltb h.span 1 || ltb 3000 h.span) _ p₅.1 in
    let on_held = when_none (ltb h.span h.held) _ p₄.1 in
    let on_head = when_none (not (head_kept h)) _ p₃.1 in
    let on_offset = when_none (not (eqb h.offset 24)) _ p₂.1 in
    let on_total = when_none (not (eqb h.total (24 + 20 * h.span)) || not (eqb h.total len)) _ p₁.1 in
    record {
      of_kind = grind (arith, nat_tests);
      some_rows = grind (arith, nat_tests);
      few_rows = grind (arith, nat_tests);
      held_within = grind (arith, nat_tests);
      head_next = λ e. grind (arith, nat_tests);
      head_round = λ e. grind (arith, nat_tests);
      rows_after = grind (arith, nat_tests);
      whole = grind (arith, nat_tests);
      long = grind (arith, nat_tests);
    }

pub front_sound : (kind : ℕ) (s : List ℕ) → front_fault kind s ≡ None → Sound kind (length s) (header_in s)
front_sound kind s none = header_sound kind (length s) (header_in s) (or_none (length_fault (length s)) _ none).1
