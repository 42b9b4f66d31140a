-- Items that are shown under an allowance. Assumes nothing.
use Rattle.std.proofs.Common.{◌≡◌, ℕ, ◌-◌, ◌*◌, ◌<◌, ◌≤◌, min, sym, ap, ◌∙◌, inl, inr, mul-le-mul_right, arith}
use native.Mathlib.Nat.{min-le_right, min-eq_left, min-eq_right}
use Rattle.std.proofs.lemmas.Bool.{cases_lt, le-leb, lt-leb, cond-true, cond-false}
use Rattle.archive.specs.Entries.{Counted, shown}

module _ {M : Type 0} (counts : Counted M) where
  -- few enough of its points are unknown
  pub shown_as_is : (allowance : ℕ) (x : M) → 1000 * (counts.of x - counts.known x) ≤ allowance * counts.of x → shown counts allowance x ≡ x
  shown_as_is allowance x few = cond-true _ x (counts.unknown (counts.of x)) (le-leb _ _ few)

  -- too many are
  pub shown_unknown : (allowance : ℕ) (x : M) → allowance * counts.of x < 1000 * (counts.of x - counts.known x) → shown counts allowance x ≡ counts.unknown (counts.of x)
  shown_unknown allowance x many = cond-false _ x (counts.unknown (counts.of x)) (lt-leb _ _ many)

  -- under the whole allowance every item is shown as it is
  pub shown_whole : (x : M) → shown counts 1000 x ≡ x
  shown_whole x = shown_as_is 1000 x (omega arith)

  -- shown twice, the smaller allowance counts
  pub shown-shown : ((n : ℕ) → counts.of (counts.unknown n) ≡ n) → (x a : ℕ) (row : M) → shown counts x (shown counts a row) ≡ shown counts (min x a) row
  shown-shown told x a row =
      let of = counts.of row in
      let points = 1000 * (of - counts.known row) in
      let blank = counts.unknown of in
      let least : min x a * of ≤ a * of = mul-le-mul_right of (min-le_right x a) in
      elim (cases_lt (a * of) points) [
        | inl many ↦
            let blank_again : shown counts x blank ≡ blank = elim (cases_lt (x * counts.of blank) (1000 * (counts.of blank - counts.known blank))) [
              | inl more ↦ shown_unknown x blank more ∙ ap counts.unknown (told of)
              | inr few ↦ shown_as_is x blank few
            ] in
            ap (shown counts x) (shown_unknown a row many) ∙ blank_again ∙ sym (shown_unknown (min x a) row (omega arith))
        | inr few ↦
            ap (shown counts x) (shown_as_is a row few) ∙ elim (cases_lt x a) [
              | inl l ↦ ap (λ n. shown counts n row) (sym (min-eq_left (omega arith)))
              | inr l ↦
                  let same : min x a ≡ a = min-eq_right l in
                  let under : a * of ≤ x * of = mul-le-mul_right of l in
                  shown_as_is x row (omega arith) ∙ sym (shown_as_is a row few) ∙ ap (λ n. shown counts n row) (sym same)
            ]
      ]
