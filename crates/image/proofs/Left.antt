-- A list that is read one by one. Assumes nothing.
use Rattle.std.proofs.Common.{◌≡◌, ℕ, zero, suc, ◌+◌, ◌-◌, ◌<◌, List, [], ◌∷◌, length, drop, Some, None, Option, sym, refl, ap, ◌∙◌, ⊎_elim, arith}
use Rattle.std.specs.List.{slice_get}
use Rattle.std.proofs.lemmas.Option.{slice_get_within, slice_get_past, get_or_from_slice_get, slice_get_cases}
use Rattle.std.proofs.lemmas.List.{drop_all, drop_more}
use Rattle.image.specs.Images.{before, run}

-- what is left of it after its first i items
module _ {X : Type 0} (xs : List X) (i : ℕ) where
  pub none_left : None ≡ slice_get xs i → drop i xs ≡ []
  none_left none = ⊎_elim (λ p. absurd (cc)) (λ p. drop_all i xs p.0) (slice_get_cases xs i).1

  pub one_left : (x : X) → Some x ≡ slice_get xs i → drop i xs ≡ x ∷ drop (i + 1) xs
  one_left x some = drop_more xs i x (slice_get_within xs i x (sym some)) ∙ ap (λ y. y ∷ drop (i + 1) xs) (get_or_from_slice_get xs i x x (sym some))

-- what a function gives, one by one
module _ {X : Type 0} (f : ℕ → Option X) where
  pub none_run : (i n : ℕ) → None ≡ f i → run f i n ≡ []
  none_run i zero none = refl
  none_run i (suc n) none = ap (λ o. before o (run f (i + 1) n)) (sym none)

  pub one_run : (i n : ℕ) → i < n → (x : X) → Some x ≡ f i → run f i (n - i) ≡ x ∷ run f (i + 1) (n - (i + 1))
  one_run i n more x some =
      let step : n - i ≡ suc (n - (i + 1)) = omega arith in
      ap (run f i) step ∙ ap (λ o. before o (run f (i + 1) (n - (i + 1)))) (sym some)

  -- where f finds the items of a list, it is that list
  module _ (xs : List X) (finds : (i : ℕ) → f i ≡ slice_get xs i) where
    pub run_from : (n i : ℕ) → i + n ≡ length xs → run f i n ≡ drop i xs
    run_from zero i all = sym (none_left xs i (sym (slice_get_past xs i (omega arith))))
    run_from (suc n) i all =
        ⊎_elim
        (λ p.
        ap (λ o. before o (run f (i + 1) n)) (finds i ∙ p.2)
        ∙ ap (λ l. p.0 ∷ l) (run_from n (i + 1) (omega arith))
        ∙ sym (one_left xs i p.0 (sym p.2)))
        (λ p. absurd (omega arith))
        (slice_get_cases xs i).1
