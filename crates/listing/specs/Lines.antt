-- Lines of text. Assumes nothing.
use Rattle.std.specs.Prelude.{ℕ, List, [], ◌∷◌, ◌++◌, ℤ}
use Rattle.std.specs.List.{flat_map}
use Rattle.std.specs.Fmt.{signed_decimal}

-- numbers, each after a space, and the end of the line
abbrev pub ending : List ℤ → List ℕ
ending numbers = flat_map (λ z. 32 ∷ signed_decimal z) numbers ++ 10 ∷ []

-- a line: its first word, and then numbers
abbrev pub line : List ℕ → List ℤ → List ℕ
line word numbers = word ++ ending numbers
