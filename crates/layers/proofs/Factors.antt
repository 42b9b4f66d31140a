-- Factors that fit, and their product. Assumes nothing.
use Rattle.std.proofs.Common.{◌≡◌, ℕ, ◌+◌, ◌*◌, ◌%◌, ◌^◌, ◌≤◌, false, ap, ◌∙◌, inl, inr, mul-le-mul_right, mul-le-mul_left, arith}
use Rattle.std.proofs.lemmas.Bool.{cases_lt, le-ltb, ltb-false, or_parts, or_from, cond-false}
use Rattle.consolidation.specs.Laws.{Lawful}
use Rattle.archive.specs.Meanings.{Meaning}
use Rattle.layers.specs.Coarser.{unfit, fit_factor, coarser}
use Rattle.layers.proofs.Coarsening.{coarser-coarser}

pub record Fit (factor width : ℕ) : Type 0 where
  pub some : 1 ≤ factor
  pub most : factor ≤ 1000
  pub narrow : factor * width ≤ 1000000

pub fit_parts : (factor width : ℕ) → unfit factor width ≡ false → Fit factor width
fit_parts factor width e =
    let p = or_parts _ _ e in
    let q = or_parts _ _ p.1 in
    record { some = ltb-false factor 1 p.0; most = ltb-false 1000 factor q.0; narrow = ltb-false 1000000 (factor * width) q.1 }

pub fit_taken : (factor width : ℕ) → Fit factor width → fit_factor factor width ≡ factor
fit_taken factor width f =
    cond-false (unfit factor width) 1 factor (or_from _ _ (le-ltb factor 1 f.some) (or_from _ _ (le-ltb 1000 factor f.most) (le-ltb 1000000 (factor * width) f.narrow)))

-- where a product fits, so do both of its factors
module _ (outer inner width : ℕ) (f : Fit (outer * inner) width) where
  some_inner : 1 ≤ inner
  some_inner = elim (cases_lt 0 inner) [
    | inl l ↦ l
    | inr l ↦ absurd (omega (arith, f.some, mul-le-mul_left {m = inner} {n = 0} outer l))
  ]

  some_outer : 1 ≤ outer
  some_outer = elim (cases_lt 0 outer) [
    | inl l ↦ l
    | inr l ↦ absurd (omega (arith, f.some, mul-le-mul_right {m = outer} {n = 0} inner l))
  ]

  pub fit_inner : Fit inner width
  fit_inner =
      let more : 1 * inner ≤ outer * inner = mul-le-mul_right inner some_outer in
      let wider : inner * width ≤ outer * inner * width = mul-le-mul_right width (omega arith) in
      record { some = some_inner; most = omega (arith, f.most); narrow = omega (arith, f.narrow) }

  pub fit_outer : Fit outer (inner * width)
  fit_outer =
      let more : outer * 1 ≤ outer * inner = mul-le-mul_left outer some_inner in
      let wide : outer * (inner * width) ≡ outer * inner * width = omega arith in
      record { some = some_outer; most = omega (arith, f.most); narrow = omega (arith, f.narrow) }

module _ {M : Type 0} {empty : M} {joined : M → M → M} (laws : Lawful empty joined) (m : Meaning M) (outer inner : ℕ) (fits : unfit (outer * inner) m.width ≡ false) where
  -- the groups start as groups of the product
  pub start_twice : (first middle top : Meaning M) → first ≡ m
      → middle ≡ coarser joined first (fit_factor inner first.width) 0 empty
      → top ≡ coarser joined middle (fit_factor outer middle.width) 0 empty
      → top ≡ coarser joined m (outer * inner) 0 empty
  start_twice first middle top is_m is_middle is_top =
      let f = fit_parts (outer * inner) m.width fits in
      let over : ℕ → Meaning M → Meaning M = λ factor n. coarser joined n (fit_factor factor n.width) 0 empty in
      let in_groups : ℕ → Meaning M = λ factor. coarser joined m factor 0 empty in
      let low : middle ≡ in_groups inner = is_middle ∙ ap (over inner) is_m ∙ ap in_groups (fit_taken inner m.width (fit_inner outer inner m.width f)) in
      let none : outer * 0 + 0 ≡ 0 = omega arith in
      is_top
      ∙ ap (over outer) low
      ∙ ap (λ factor. coarser joined (in_groups inner) factor 0 empty) (fit_taken outer (inner * m.width) (fit_outer outer inner m.width f))
      ∙ coarser-coarser laws m inner 0 empty outer 0 empty
      ∙ ap (λ count. coarser joined m (outer * inner) count (joined empty empty)) none
      ∙ ap (coarser joined m (outer * inner) 0) (laws.left_unit empty)

  pub start_once : (top : Meaning M) → top ≡ coarser joined m (fit_factor (outer * inner % 2 ^ 32) m.width) 0 empty → top ≡ coarser joined m (outer * inner) 0 empty
  start_once top is_top =
      let f = fit_parts (outer * inner) m.width fits in
      let small : outer * inner % 2 ^ 32 ≡ outer * inner = omega (arith, f.most) in
      is_top
      ∙ ap (λ factor. coarser joined m (fit_factor factor m.width) 0 empty) small
      ∙ ap (λ factor. coarser joined m factor 0 empty) (fit_taken (outer * inner) m.width f)
