-- What `array::from_fn` makes by a closure whose every call leaves what the next one needs. Assumes nothing.
use Rattle.std.proofs.Common.{◌≡◌, ℕ, zero, suc, ◌+◌, ◌<◌, List, get_or, ap, ◌∙◌, arith}
use Rattle.std.specs.Array.{IsFromFnResultFrom}
use Rattle.std.specs.Fn.{Mut, Called}

module _ {F : Type 0} (g : Mut F (ℕ × Unit {0}) ℕ) (h : ℕ → ℕ) (ok : F → Type 0) (call : (p q : F) (i y : ℕ) → ok p → Called g p (i, tt) y q → (y ≡ h i) × ok q) (ys : List ℕ) where
  pub made_from : (f : F) (i n k j : ℕ) → ok f → IsFromFnResultFrom g f ys i n → k < n → i + k ≡ j → get_or ys j 0 ≡ h j
  made_from f i zero k j o made below is = absurd (omega arith)
  made_from f i (suc n) zero j o made below is =
      let here : j ≡ i = omega (arith, is) in
      ap (λ m. get_or ys m 0) here ∙ made.2.1 0 ∙ (call f made.0 i made.1 o made.3).0 ∙ ap h (omega (arith, is))
  made_from f i (suc n) (suc k) j o made below is = made_from made.0 (i + 1) n k j (call f made.0 i made.1 o made.3).1 made.4 (omega arith) (omega (arith, is))
