-- What the laws give of a fold. Assumes nothing.
use Rattle.std.proofs.Common.{◌≡◌, List, [], ◌∷◌, ◌++◌, fold, sym}
use Rattle.consolidation.specs.Laws.{Lawful}

module _ {M : Type 0} {empty : M} {joined : M → M → M} (laws : Lawful empty joined) where
  -- what comes before the list stays before it
  folded_from : (x : M) (ys : List M) → fold joined x ys ≡ joined x (fold joined empty ys)
  folded_from x [] = sym (laws.right_unit x)
  folded_from x (y ∷ ys) = rw (laws.left_unit, folded_from (joined x y) ys, folded_from y ys) (laws.associative x y _)

  -- the library's `fold-append` goes on from the first list; this one joins both
  pub fold-append : (start : M) (xs ys : List M) → fold joined start (xs ++ ys) ≡ joined (fold joined start xs) (fold joined empty ys)
  fold-append start [] ys = folded_from start ys
  fold-append start (x ∷ xs) ys = fold-append (joined start x) xs ys
