-- Numbers as bytes, the lowest byte first. Assumes nothing.
use Rattle.std.specs.Prelude.{ℕ, ◌+◌, ◌*◌, ◌/◌, ◌%◌, List, [], ◌∷◌, ◌++◌, slice_index}

-- the number that four and eight bytes write, from `at` on
abbrev pub le32 : List ℕ → ℕ → ℕ
le32 s at = slice_index s at + slice_index s (at + 1) * 256 + slice_index s (at + 2) * 65536 + slice_index s (at + 3) * 16777216

abbrev pub le64 : List ℕ → ℕ → ℕ
le64 s at = le32 s at + le32 s (at + 4) * 4294967296

-- the bytes that write a number
abbrev pub bytes32 : ℕ → List ℕ
bytes32 n = (n % 256) ∷ (n / 256 % 256) ∷ (n / 65536 % 256) ∷ (n / 16777216 % 256) ∷ []

abbrev pub bytes64 : ℕ → List ℕ
bytes64 n = bytes32 (n % 4294967296) ++ bytes32 (n / 4294967296)
