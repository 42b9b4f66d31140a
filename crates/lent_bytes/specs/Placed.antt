-- A text put into a list of bytes. Assumes nothing.
use Rattle.std.specs.Prelude.{◌≡◌, ℕ, ◌+◌, ◌<◌, ◌≤◌, List, ◌++◌, length, take, drop, Some, None, Option}

-- before, with text at `at`, and every other byte as it was
abbrev pub placed : List ℕ → ℕ → List ℕ → List ℕ
placed before at text = take at before ++ (text ++ drop (at + length text) before)

-- the text is placed and the place after it answered; where it does not fit, nothing is changed
abbrev pub Writes : List ℕ → ℕ → List ℕ → Option ℕ → List ℕ → Type 0
Writes before at text (Some end) after = (end ≡ at + length text) × (end ≤ length before) × (after ≡ placed before at text)
Writes before at text None after = (length before < at + length text) × (after ≡ before)
