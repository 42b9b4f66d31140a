-- Rows that are shown once more, under another allowance. Assumes nothing.
use Rattle.std.proofs.Common.{◌≡◌, ℕ, ◌-◌, min, length, Some, None, slice_index_or, sym, ap, ◌∙◌, inl, inr, arith}
use Rattle.std.proofs.lemmas.Bool.{cases_lt, lt-ltb, le-ltb, cond-true, cond-false}
use Rattle.archive.specs.Entries.{Counted, shown}
use Rattle.archive.specs.Meanings.{Meaning, asked}
use Rattle.archive.proofs.Showing.{shown-shown}
use Rattle.layers.specs.Limited.{limited}

module _ {M : Type 0} (empty : M) (counts : Counted M) (told : (n : ℕ) → counts.of (counts.unknown n) ≡ n) where
  pub limited_asked : (allowance : ℕ) (m : Meaning M) (age : ℕ) (row answer : M) → Some row ≡ asked empty counts m age → answer ≡ shown counts allowance row → Some answer ≡ asked empty counts (limited allowance m) age
  limited_asked allowance m age row answer is is_shown =
      let held = length m.rows in
      let stored = slice_index_or m.rows (held - 1 - age) empty in
      let below = shown counts m.allowance stored in
      let above = shown counts (min allowance m.allowance) stored in
      elim (cases_lt age held) [
        | inl l ↦
            let found : Some row ≡ Some below = is ∙ cond-true _ (Some below) None (lt-ltb age held l) in
            let same : row ≡ below = cc in
            ap Some (is_shown ∙ ap (shown counts allowance) same)
            ∙ ap Some (shown-shown counts told allowance m.allowance stored)
            ∙ sym (cond-true _ (Some above) None (lt-ltb age held l))
        | inr l ↦
            let none : Some row ≡ None = is ∙ cond-false _ (Some below) None (le-ltb age held l) in
            let never : ◌≡◌ {A = ℕ} 0 1 = cc in
            absurd (omega arith)
      ]
