-- What showing an image answers, and what it leaves. Assumes nothing.
use Rattle.std.specs.Prelude.{◌≡◌, ℕ, ◌≤◌, List, length, Ok, Err, Result}
use Rattle.lent_bytes.specs.declared.text.Text.{Text}
use Rattle.lent_bytes.specs.Texts.{Grown, Kept, NoRoom}
use Rattle.listing.specs.declared.stop.Stop.{Stop}
use Rattle.listing.specs.declared.stop.Stop.TheVariants.{Fault, Full}
use Rattle.listing.specs.Listing.{refusal}

-- the listing is put; or it is a refusal, and nothing is changed; or it does not fit, short as it is
abbrev pub Shows : List ℕ → Text → Result Unit Stop → Text → Type 0
Shows listing before (Ok _) after = Grown before listing after
Shows listing before (Err (Fault f)) after = (listing ≡ refusal f) × Kept before after
Shows listing before (Err Full) after = NoRoom before listing × (length listing ≤ 162018)
