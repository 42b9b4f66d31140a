-- What is read and written where a text was placed. Assumes nothing.
use Rattle.std.proofs.Common.{◌≡◌, ℕ, ◌+◌, ◌-◌, ◌<◌, ◌≤◌, List, ◌++◌, length, get_or, take, drop, sym, refl, ap, ◌∙◌, append_assoc, arith, length-append, length-take-le, rules}
use lib.Seq.{drop-append-add}
use Rattle.std.proofs.lemmas.List.{places, take_at, drop-drop, get_or-append-add, get_or_append_left, get_or-append_right, get_or-drop, get_or-take}
use Rattle.lent_bytes.specs.Placed.{placed}

pub length-placed : (s : List ℕ) (at : ℕ) (xs : List ℕ) → at + length xs ≤ length s → length (placed s at xs) ≡ length s
length-placed s at xs room = search (rules, places)

-- a text, and then another right after it
pub placed_more : (s : List ℕ) (at next : ℕ) (xs ys : List ℕ) → next ≡ at + length xs → next + length ys ≤ length s → placed (placed s at xs) next ys ≡ placed s at (xs ++ ys)
placed_more s at next xs ys is room =
    let front = take at s in
    let rest = drop (at + length xs) s in
    let flat : front ++ (xs ++ rest) ≡ (front ++ xs) ++ rest = sym (append_assoc front xs rest) in
    let lens : length (front ++ xs) ≡ next = length-append front xs ∙ (ap (λ k. k + length xs) (length-take-le at s (omega arith))) ∙ sym is in
    let before : take next (front ++ (xs ++ rest)) ≡ front ++ xs = ap (take next) flat ∙ take_at (front ++ xs) rest next lens in
    let sum : at + length xs + length ys ≡ at + length (xs ++ ys) = omega (arith, length-append xs ys) in
    let after : drop (next + length ys) (front ++ (xs ++ rest)) ≡ drop (at + length (xs ++ ys)) s =
    ap (drop (next + length ys)) flat ∙ ap (λ k. drop (k + length ys) ((front ++ xs) ++ rest)) (sym lens) ∙ drop-append-add (front ++ xs) rest (length ys) ∙ drop-drop (length ys) (at + length xs) s ∙ ap (λ k. drop k s) sum in
    (λ i. before i ++ (ys ++ after i)) ∙ append_assoc front xs _ ∙ ap (λ l. front ++ l) (sym (append_assoc xs ys _))

-- a byte of the text
pub get_or-placed : (s : List ℕ) (at k : ℕ) (text : List ℕ) → at ≤ length s → k < length text → get_or (placed s at text) (at + k) 0 ≡ get_or text k 0
get_or-placed s at k text room inside =
    let rest = drop (at + length text) s in
    let lens = length-take-le at s room in
    ap (λ n. get_or (placed s at text) (n + k) 0) (sym lens) ∙ get_or-append-add (take at s) (text ++ rest) k 0 ∙ get_or_append_left text rest 0 k inside

-- a byte before it, and one after it
pub get_or-placed_before : (s : List ℕ) (at k : ℕ) (text : List ℕ) → at ≤ length s → k < at → get_or (placed s at text) k 0 ≡ get_or s k 0
get_or-placed_before s at k text room before =
    let lens = length-take-le at s room in
    let inside : k < length (take at s) = omega arith in
    get_or_append_left (take at s) _ 0 k inside ∙ get_or-take at s k 0 before

pub get_or-placed_after : (s : List ℕ) (at k : ℕ) (text : List ℕ) → at + length text ≤ length s → at + length text ≤ k → get_or (placed s at text) k 0 ≡ get_or s k 0
get_or-placed_after s at k text room after =
    let rest = drop (at + length text) s in
    let lens : length (take at s) ≡ at = length-take-le at s (omega arith) in
    let here : at + length text + (k - at - length text) ≡ k = omega arith in
    get_or-append_right (take at s) (text ++ rest) at k 0 lens (omega arith)
    ∙ get_or-append_right text rest (length text) (k - at) 0 refl (omega arith)
    ∙ get_or-drop (at + length text) s (k - at - length text) 0
    ∙ ap (λ j. get_or s j 0) here
