-- Texts put into lent bytes. Assumes nothing.
use Rattle.std.specs.Prelude.{◌≡◌, ℕ, ◌+◌, ◌<◌, ◌≤◌, List, length, Some, None, Ok, Err, Option, Result}
use Rattle.lent_bytes.specs.declared.text.Full.{Full}
use Rattle.lent_bytes.specs.declared.text.Text.{Text}
use Rattle.lent_bytes.specs.Placed.{placed}
use Rattle.lent_bytes.specs.Texts.{Grown, NoRoom}

-- the text is placed, every other byte is as it was, and the place after it is answered; or it does not fit, and part of it may be placed
abbrev pub Puts : List ℕ → ℕ → List ℕ → Option ℕ → List ℕ → Type 0
Puts before at text (Some end) after = (end ≡ at + length text) × (end ≤ length before) × (after ≡ placed before at text)
Puts before at text None after = length before < at + length text

-- the text has grown by more; or that does not fit, and part of it may stand
abbrev pub Extends : Text → List ℕ → Result Unit Full → Text → Type 0
Extends before more (Ok _) after = Grown before more after
Extends before more (Err _) after = NoRoom before more
