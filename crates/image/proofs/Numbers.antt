-- Numbers that are written and read again. Assumes nothing.
use Rattle.std.proofs.Common.{◌≡◌, ℕ, ◌+◌, ◌*◌, ◌<◌, ◌≤◌, List, [], ◌∷◌, ◌++◌, length, take, drop, w32, w64, get_or, refl, add-zero, add_assoc, sym, ap, ◌∙◌, arith}
use Rattle.std.specs.Int.{from_le_bytes, to_le_bytes}
use Rattle.std.specs.List.{flat_map}
use Rattle.std.proofs.lemmas.List.{take_more, get_or-take, get_or-drop}
use Rattle.std.proofs.lemmas.List.Concat.{flat_map-append}
use Rattle.lent_bytes.specs.Placed.{placed}
use Rattle.lent_bytes.proofs.Placing.{get_or-placed}
use Rattle.image.specs.Numbers.{le32, le64, bytes32, bytes64}

-- the same four bytes are the same number
pub le32_same : (s t : List ℕ) (i j : ℕ) → ((m : ℕ) → m < 4 → get_or s (i + m) 0 ≡ get_or t (j + m) 0) → le32 s i ≡ le32 t j
le32_same s t i j same =
    let first = simp add-zero at (same 0 (omega arith)) in
    λ k. first k + same 1 (omega arith) k * 256 + same 2 (omega arith) k * 65536 + same 3 (omega arith) k * 16777216

-- a number of a text that was placed
pub le32_placed : (s : List ℕ) (at j : ℕ) (text : List ℕ) → at ≤ length s → j + 4 ≤ length text → le32 (placed s at text) (at + j) ≡ le32 text j
le32_placed s at j text room inside =
    le32_same (placed s at text) text (at + j) j
    (λ m h. ap (λ k. get_or (placed s at text) k 0) (add_assoc at j m) ∙ get_or-placed s at (j + m) text room (omega arith))

-- a number of a part
le32_part : (s : List ℕ) (at j n : ℕ) → j + 4 ≤ n → le32 (take n (drop at s)) j ≡ le32 s (at + j)
le32_part s at j n inside =
    le32_same (take n (drop at s)) s j (at + j)
    (λ m h. get_or-take n (drop at s) (j + m) 0 (omega arith) ∙ get_or-drop at s (j + m) 0 ∙ ap (λ k. get_or s k 0) (sym (add_assoc at j m)))

-- numbers one after the other, and one more
pub length-bytes : (ns : List ℕ) → length (flat_map bytes32 ns) ≡ 4 * length ns
length-bytes [] = refl
length-bytes (n ∷ ns) = omega (arith, length-bytes ns)

pub bytes_more : (ns : List ℕ) (k : ℕ) → k < length ns → flat_map bytes32 (take k ns) ++ bytes32 (get_or ns k 0) ≡ flat_map bytes32 (take (k + 1) ns)
bytes_more ns k inside = sym (ap (flat_map bytes32) (take_more ns k 0 inside) ∙ flat_map-append bytes32 (take k ns) (get_or ns k 0 ∷ []))

-- the number in its field
pub le32_field : (s : List ℕ) (at : ℕ) → from_le_bytes w32 (take 4 (drop at s)) ≡ le32 s at
le32_field s at = le32_part s at 0 4 (omega arith) ∙ ap (le32 s) (add-zero at)

pub le64_field : (s : List ℕ) (at : ℕ) → from_le_bytes w64 (take 8 (drop at s)) ≡ le64 s at
le64_field s at = omega (arith, le32_part s at 0 8 (omega arith) ∙ ap (le32 s) (add-zero at), le32_part s at 4 8 (omega arith))

pub bytes64_le : (n : ℕ) → to_le_bytes w64 n ≡ bytes64 n
bytes64_le n = grind arith
