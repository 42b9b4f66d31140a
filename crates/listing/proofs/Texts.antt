-- Texts that are put one after the other. Assumes nothing.
use Rattle.std.proofs.Common.{◌≡◌, ℕ, ◌+◌, ◌^◌, ◌<◌, ◌≤◌, List, [], ◌∷◌, ◌++◌, length, get_or, take, drop, ℤ, pos, true, is_ok, IsErr, Ok, Err, Result, sym, refl, ap, ◌∙◌, subst, append_assoc, arith, length-append, take-append-drop, w64, to_z}
use Rattle.std.specs.List.{flat_map}
use Rattle.std.proofs.lemmas.List.{take_all, take_more, drop_more, flat_map_more}
use Rattle.std.proofs.lemmas.Int.{to_z_pos}
use Rattle.lent_bytes.specs.declared.text.Full.{Full}
use Rattle.lent_bytes.specs.declared.text.Text.{Text}
use Rattle.lent_bytes.specs.Texts.{Grown, NoRoom, Adds}
use Rattle.lent_bytes.proofs.Growing.{grown_more, grown_short}
use Rattle.listing.specs.Lines.{ending, line}
use Rattle.listing.specs.Texts.{Extends}

-- a text, and then another
pub extends_more : {s t : Text} {xs : List ℕ} (u : Text) (ys : List ℕ) (r : Result Unit Full) → Grown s xs t → Extends t ys r u → Extends s (xs ++ ys) r u
extends_more u ys (Ok _) p q = grown_more p q
extends_more u ys (Err _) p q = grown_short ys p q

-- a text, and then another by `put` or `decimal::write`
pub extends_adds : {s t : Text} {xs : List ℕ} (u : Text) (ys : List ℕ) (r : Result Unit Full) → Grown s xs t → Adds t ys r u → Extends s (xs ++ ys) r u
extends_adds u ys (Ok _) p q = grown_more p q
extends_adds u ys (Err _) p q = grown_short ys p q.0

-- where a text does not fit, no longer one does
pub too_short : (s : Text) (xs ys : List ℕ) → NoRoom s xs → NoRoom s (xs ++ ys)
too_short s xs ys short = omega (arith, length-append xs ys)

-- what does not fit is an error
pub extends_not : (s t : Text) (xs : List ℕ) (r : Result Unit Full) → IsErr r → NoRoom s xs → Extends s xs r t
extends_not s t xs (Ok _) is short = absurd (cc)
extends_not s t xs (Err _) is short = short

-- where there is room, it fits
pub fitting : (s t : Text) (xs : List ℕ) (r : Result Unit Full) → Extends s xs r t → length xs ≤ 162018 → s.end + 162018 ≤ length s.bytes.now → is_ok r ≡ true
fitting s t xs (Ok _) p short room = refl
fitting s t xs (Err _) p short room = absurd (omega (arith, p))

-- a line: its word, and then its numbers
pub extends_line : {s t : Text} {word : List ℕ} (u : Text) (numbers same : List ℤ) (r : Result Unit Full) → numbers ≡ same → Grown s word t → Extends t (ending numbers) r u → Extends s (line word same) r u
extends_line {s} {t} u numbers same r is p q = extends_more u (ending same) r p (subst (λ l. Extends t (ending l) r u) is q)

-- a number of 32 bits as one of 64
pub widened : (n : ℕ) → n < 2 ^ 32 → to_z w64 n ≡ pos n
widened n small = to_z_pos w64 n (omega arith)

module _ {X : Type 0} (f : X → List ℕ) where
  joined_append : (xs ys : List X) → flat_map f (xs ++ ys) ≡ flat_map f xs ++ flat_map f ys
  joined_append [] ys = refl
  joined_append (x ∷ xs) ys = ap (λ l. f x ++ l) (joined_append xs ys) ∙ sym (append_assoc (f x) (flat_map f xs) (flat_map f ys))

  -- the texts of xs stand, and then that of one more
  pub grown_one : {s t u : Text} (xs : List X) (x : X) → Grown s (flat_map f xs) t → Grown t (f x) u → Grown s (flat_map f (xs ++ x ∷ [])) u
  grown_one {s} {t} {u} xs x p q = subst (λ l. Grown s l u) (flat_map_more f [] xs x) (grown_more p q)

  -- or that one does not fit
  pub short_one : {s t : Text} (xs : List X) (x : X) (ys : List X) → Grown s (flat_map f xs) t → NoRoom t (f x) → NoRoom s (flat_map f (xs ++ x ∷ ys))
  short_one {s} {t} xs x ys p q =
      let whole : (flat_map f xs ++ f x) ++ flat_map f ys ≡ flat_map f (xs ++ x ∷ ys) = append_assoc (flat_map f xs) (f x) (flat_map f ys) ∙ sym (joined_append xs (x ∷ ys)) in
      subst (NoRoom s) whole (too_short s (flat_map f xs ++ f x) (flat_map f ys) (grown_short _ p q))

  module _ (xs : List X) (d : X) where
    -- the texts of the first i of xs stand, and then that of one more
    pub grown_next : {s t u : Text} (i : ℕ) → i < length xs → Grown s (flat_map f (take i xs)) t → Grown t (f (get_or xs i d)) u → Grown s (flat_map f (take (i + 1) xs)) u
    grown_next {s} {t} {u} i within p q = subst (λ l. Grown s (flat_map f l) u) (sym (take_more xs i d within)) (grown_one (take i xs) (get_or xs i d) p q)

    -- or that one does not fit
    pub grown_stop : {s t : Text} (i : ℕ) (rest : List ℕ) → i < length xs → Grown s (flat_map f (take i xs)) t → NoRoom t (f (get_or xs i d)) → NoRoom s (flat_map f xs ++ rest)
    grown_stop {s} {t} i rest within p q =
        let whole : take i xs ++ get_or xs i d ∷ drop (i + 1) xs ≡ xs = ap (λ l. take i xs ++ l) (sym (drop_more xs i d within)) ∙ take-append-drop i xs in
        too_short s (flat_map f xs) rest (subst (λ l. NoRoom s (flat_map f l)) whole (short_one (take i xs) (get_or xs i d) (drop (i + 1) xs) p q))

    -- all of them stand
    pub grown_all : {s t : Text} (i : ℕ) → length xs ≤ i → Grown s (flat_map f (take i xs)) t → Grown s (flat_map f xs) t
    grown_all {s} {t} i past p = subst (λ l. Grown s (flat_map f l) t) (take_all i xs past) p
