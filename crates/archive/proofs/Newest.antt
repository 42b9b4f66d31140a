-- The newest of a list that goes on. Assumes nothing.
use Rattle.std.proofs.Common.{◌≡◌, ℕ, ◌+◌, ◌-◌, ◌≤◌, List, [], ◌∷◌, ◌++◌, length, drop, sym, ap, ◌∙◌, arith}
use Rattle.std.proofs.lemmas.List.{length-drop, length_push, drop-append-le, drop-drop}
use Rattle.archive.specs.Meanings.{newest}

module _ {X : Type 0} where
  pub newest_all : (n : ℕ) (xs : List X) → length xs ≤ n → newest n xs ≡ xs
  newest_all n xs h = let none : length xs - n ≡ 0 = omega arith in ap (λ k. drop k xs) none

  -- what was let go before is let go now
  pub newest_push : (n : ℕ) (xs : List X) (y : X) → newest n (newest n xs ++ y ∷ []) ≡ newest n (xs ++ y ∷ [])
  newest_push n xs y =
      let past = length xs - n in
      let all = xs ++ y ∷ [] in
      let again : newest n xs ++ y ∷ [] ≡ drop past all = sym (drop-append-le past xs (y ∷ []) (omega arith)) in
      let long : length (newest n xs ++ y ∷ []) ≡ length xs - past + 1 = length_push (newest n xs) y ∙ ap (λ k. k + 1) (length-drop past xs) in
      let sum : past + (length (newest n xs ++ y ∷ []) - n) ≡ length all - n = omega (arith, length_push xs y) in
      ap (drop (length (newest n xs ++ y ∷ []) - n)) again ∙ drop-drop (length (newest n xs ++ y ∷ []) - n) past all ∙ ap (λ k. drop k all) sum
