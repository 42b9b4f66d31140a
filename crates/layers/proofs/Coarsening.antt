-- One store into groups, and groups of groups. Assumes nothing.
use Rattle.std.proofs.Common.{◌≡◌, ℕ, ◌+◌, ◌*◌, ◌≤◌, List, [], ◌∷◌, ◌++◌, sym, refl, ap, ◌∙◌, inl, inr, mul-one, mul-add, arith}
use Rattle.std.proofs.lemmas.Bool.{cases_lt, lt-ltb, le-ltb, cond-true, cond-false}
use Rattle.consolidation.specs.Laws.{Lawful}
use Rattle.archive.specs.Meanings.{Meaning, Sound, newest, stored, grown, closed}
use Rattle.layers.specs.Coarser.{Grouping, coarser, group_within}

-- a store leaves the width as it is
pub stored_width : {M : Type 0} (empty : M) (joined : M → M → M) (m : Meaning M) (x : M) → (stored empty joined m x).width ≡ m.width
stored_width empty joined m x =
    let part = joined m.part x in
    elim (cases_lt (m.begun + 1) m.width) [
      | inl l ↦ ap (λ n. n.width) (cond-true _ (grown m part) (closed empty m part) (lt-ltb _ _ l))
      | inr l ↦ ap (λ n. n.width) (cond-false _ (grown m part) (closed empty m part) (le-ltb _ _ l))
    ]

module _ {M : Type 0} {empty : M} {joined : M → M → M} (laws : Lawful empty joined) where
  module _ (m : Meaning M) (sound : Sound m) (factor count : ℕ) (part : M) (grouping : Grouping empty m.width factor count part) (x : M) where
    -- a group begins
    pub grouping_closed : (y : M) → Grouping empty (stored empty joined m y).width factor 0 empty
    grouping_closed y = record {
      some_factor = grouping.some_factor;
      most_factor = grouping.most_factor;
      most_width = rw (stored_width empty joined m y) grouping.most_width;
      still_open = grouping.some_factor;
      none_begun = λ e. refl;
    }

    -- the group goes down as one item
    pub coarser_closed : factor ≤ count + 1 → coarser joined (stored empty joined m (joined part x)) factor 0 empty ≡ stored empty joined (coarser joined m factor count part) x
    coarser_closed h =
        let under = grouping.still_open in
        let whole = coarser joined m factor count part in
        let row = joined whole.part x in
        let low = joined m.part (joined part x) in
        let same : low ≡ row = sym (laws.associative m.part part x) in
        let at : ℕ → M → List M → Meaning M = λ b p l. record { width = whole.width; span = m.span; allowance = m.allowance; begun = b; part = p; rows = l } in
        let next : factor * (m.begun + 1) ≡ factor * m.begun + factor = mul-add factor m.begun 1 ∙ ap (λ n. factor * m.begun + n) (mul-one factor) in
        let down : Meaning M → Meaning M = λ n. coarser joined n factor 0 empty in
        elim (cases_lt (m.begun + 1) m.width) [
          | inl l ↦
              let room : factor * (m.begun + 1) + factor ≤ factor * m.width = group_within factor (m.begun + 1) m.width l in
              let sum : factor * (m.begun + 1) + 0 ≡ factor * m.begun + count + 1 = omega arith in
              ap down (cond-true _ (grown m low) (closed empty m low) (lt-ltb _ _ l))
              ∙ ap (λ b. at b (joined low empty) m.rows) sum
              ∙ ap (λ p. at (factor * m.begun + count + 1) p m.rows) (laws.right_unit low ∙ same)
              ∙ sym (cond-true _ (grown whole row) (closed empty whole row) (lt-ltb (whole.begun + 1) whole.width (omega arith)))
          | inr l ↦
              let full : m.begun + 1 ≡ m.width = let u = sound.still_open in omega arith in
              let wide : factor * m.width ≡ factor * m.begun + factor = ap (λ n. factor * n) (sym full) ∙ next in
              let zero : factor * 0 + 0 ≡ 0 = omega arith in
              ap down (cond-false _ (grown m low) (closed empty m low) (le-ltb _ _ l))
              ∙ ap (λ b. at b (joined empty empty) (newest m.span (m.rows ++ low ∷ []))) zero
              ∙ ap (λ p. at 0 p (newest m.span (m.rows ++ low ∷ []))) (laws.left_unit empty)
              ∙ ap (λ y. at 0 empty (newest m.span (m.rows ++ y ∷ []))) same
              ∙ sym (cond-false _ (grown whole row) (closed empty whole row) (le-ltb (whole.begun + 1) whole.width (omega arith)))
        ]

  -- groups of groups are groups
  pub coarser-coarser : (m : Meaning M) (f c : ℕ) (p : M) (g d : ℕ) (q : M) → coarser joined (coarser joined m f c p) g d q ≡ coarser joined m (g * f) (g * c + d) (joined p q)
  coarser-coarser m f c p g d q =
      let at : ℕ → ℕ → M → Meaning M = λ w b p. record { width = w; span = m.span; allowance = m.allowance; begun = b; part = p; rows = m.rows } in
      let wide : g * (f * m.width) ≡ g * f * m.width = omega arith in
      let begun : g * (f * m.begun + c) + d ≡ g * f * m.begun + (g * c + d) = omega arith in
      ap (λ w. at w (g * (f * m.begun + c) + d) (joined (joined m.part p) q)) wide
      ∙ ap (λ b. at (g * f * m.width) b (joined (joined m.part p) q)) begun
      ∙ ap (at (g * f * m.width) (g * f * m.begun + (g * c + d))) (laws.associative m.part p q)
