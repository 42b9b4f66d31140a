-- Which of several faults answers. Assumes nothing.
use Rattle.std.proofs.Common.{◌≡◌, ℕ, zero, suc, ◌+◌, ◌-◌, ◌<◌, Bool, true, false, Some, None, Ok, Err, Option, sym, refl, ap, ◌∙◌, ⊎_elim, arith}
use Rattle.std.specs.Bool.{then_some}
use Rattle.std.specs.Option.{option_map}
use Rattle.std.proofs.lemmas.Bool.{cases_eq}
use Rattle.element.specs.Faults.{◌or◌, unless}
use Rattle.image.specs.Faults.{earliest}

module _ {F : Type 0} where
  pub when_none : (b : Bool) (f : F) → then_some b f ≡ None → b ≡ false
  when_none false f e = refl
  when_none true f e = let z : ◌≡◌ {A = ℕ} 0 1 = cc in absurd (omega arith)

  pub when_false : (b : Bool) (f : F) → b ≡ false → then_some b f ≡ None
  when_false b f e = ap (λ v. then_some v f) e

  pub mapped_none : {G : Type 0} (f : F → G) (o : Option F) → option_map f o ≡ None → o ≡ None
  mapped_none f None e = refl
  mapped_none f (Some x) e = let z : ◌≡◌ {A = ℕ} 0 1 = cc in absurd (omega arith)

  pub or_none : (a b : Option F) → a or b ≡ None → (a ≡ None) × (b ≡ None)
  or_none None b e = (refl, e)
  or_none (Some f) b e = let z : ◌≡◌ {A = ℕ} 0 1 = cc in absurd (omega arith)

  pub or_second : (a b : Option F) → a ≡ None → a or b ≡ b
  or_second a b e = ap (λ o. o or b) e

  pub or_first : (a b : Option F) (f : F) → a ≡ Some f → a or b ≡ Some f
  or_first a b f e = ap (λ o. o or b) e

  module _ {X : Type 0} where
    pub unless_ok : (o : Option F) (x y : X) → unless o x ≡ Ok y → o ≡ None
    unless_ok None x y e = refl
    unless_ok (Some f) x y e = let z : ◌≡◌ {A = ℕ} 0 1 = cc in absurd (omega arith)

    pub unless_value : (o : Option F) (x y : X) → unless o x ≡ Ok y → y ≡ x
    unless_value None x y e = cc
    unless_value (Some f) x y e = let z : ◌≡◌ {A = ℕ} 0 1 = cc in absurd (omega arith)

    pub unless_err : (o : Option F) (x : X) (f : F) → unless o x ≡ Err f → o ≡ Some f
    unless_err None x f e = let z : ◌≡◌ {A = ℕ} 0 1 = cc in absurd (omega arith)
    unless_err (Some g) x f e = cc

    pub unless_some : (o : Option F) (x : X) (f : F) → o ≡ Some f → Err f ≡ unless o x
    unless_some o x f e = sym (ap (λ p. unless p x) e)

  module _ (fault : ℕ → Option F) where
    -- the first fault stays the first, however many places follow
    stays : (m k : ℕ) (f : F) → earliest fault m ≡ Some f → earliest fault (k + m) ≡ Some f
    stays m zero f e = let z : zero + m ≡ m = omega arith in ap (earliest fault) z ∙ e
    stays m (suc k) f e = let z : suc k + m ≡ suc (k + m) = omega arith in ap (earliest fault) z ∙ or_first (earliest fault (k + m)) (fault (k + m)) f (stays m k f e)

    pub earliest_found : (m n : ℕ) (f : F) → m < n → earliest fault m ≡ None → fault m ≡ Some f → earliest fault n ≡ Some f
    earliest_found m n f within before here =
        let rest : n - suc m + suc m ≡ n = omega arith in
        sym (ap (earliest fault) rest) ∙ stays (suc m) (n - suc m) f (or_second (earliest fault m) (fault m) before ∙ here)

    pub earliest_all : (n : ℕ) → ((k : ℕ) → k < n → fault k ≡ None) → earliest fault n ≡ None
    earliest_all zero none = refl
    earliest_all (suc n) none = or_second (earliest fault n) (fault n) (earliest_all n (λ k below. none k (omega arith))) ∙ none n (omega arith)

    -- where there is none, no place has one
    pub earliest_none : (n k : ℕ) → earliest fault n ≡ None → k < n → fault k ≡ None
    earliest_none zero k e h = absurd (omega arith)
    earliest_none (suc n) k e h =
        let parts = or_none (earliest fault n) (fault n) e in
        ⊎_elim (λ same. ap fault same ∙ parts.1) (λ other. earliest_none n k parts.0 (omega arith)) (cases_eq k n)
