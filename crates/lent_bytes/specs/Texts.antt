-- A text that grows in lent bytes. Assumes nothing.
use Rattle.std.specs.Prelude.{◌≡◌, ℕ, ◌+◌, ◌<◌, ◌≤◌, List, length, Ok, Err, Result}
use Rattle.lent_bytes.specs.declared.text.Full.{Full}
use Rattle.lent_bytes.specs.declared.text.Text.{Text}
use Rattle.lent_bytes.specs.Placed.{placed}

-- the same lent bytes, with more put at the end, and every other byte as it was
pub record Grown (before : Text) (more : List ℕ) (after : Text) : Type 0 where
  pub lent : after.bytes.ghost_name ≡ before.bytes.ghost_name
  pub room : before.end + length more ≤ length before.bytes.now
  pub end : after.end ≡ before.end + length more
  pub bytes : after.bytes.now ≡ placed before.bytes.now before.end more

-- the same lent bytes, and nothing is changed
pub record Kept (before after : Text) : Type 0 where
  pub lent : after.bytes.ghost_name ≡ before.bytes.ghost_name
  pub end : after.end ≡ before.end
  pub bytes : after.bytes.now ≡ before.bytes.now

-- more does not fit at the end
abbrev pub NoRoom : Text → List ℕ → Type 0
NoRoom text more = length text.bytes.now < text.end + length more

-- the text has grown by more; where that does not fit, nothing is changed
abbrev pub Adds : Text → List ℕ → Result Unit Full → Text → Type 0
Adds before more (Ok _) after = Grown before more after
Adds before more (Err _) after = NoRoom before more × Kept before after
