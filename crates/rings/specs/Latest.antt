-- What an archive of one row means. Assumes nothing.
use Rattle.std.specs.Prelude.{[], ◌∷◌, Some, None, Option, option_to_list}
use Rattle.std.proofs.Common.{arith}
use Rattle.archive.specs.Entries.{empty_item}
use Rattle.consolidation.specs.declared.item.Item.{Item}
use Rattle.archive.specs.Meanings.{Meaning, Sound, ending}
use Rattle.archive.specs.RingsLemmas.{ending_sound}
use Rattle.rings.specs.declared.latest.LatestRow.{LatestRow}

-- one row or none; empty is the empty element
abbrev pub of_latest : {E : Type 0} → E → LatestRow E → Meaning (Item E)
of_latest empty s = ending (empty_item empty) 1 (option_to_list s.row)

latest_rows : {E : Type 0} (empty : E) (row : Option (Item E)) → Sound (ending (empty_item empty) 1 (option_to_list row))
latest_rows empty None = ending_sound (empty_item empty) 1 [] (omega arith) (omega arith)
latest_rows empty (Some x) = ending_sound (empty_item empty) 1 (x ∷ []) (omega arith) (omega arith)

pub latest_sound : {E : Type 0} (empty : E) (s : LatestRow E) → Sound (of_latest empty s)
latest_sound empty s = latest_rows empty s.row
