-- The laws of items. Assumes nothing.
use Rattle.std.proofs.Common.{rules}
use Rattle.consolidation.specs.Laws.{Lawful}
use Rattle.consolidation.specs.Items.{item, item_joined}
use Rattle.consolidation.specs.SumsLemmas.{sum32_lawful}

pub item_lawful : {E : Type 0} {empty : E} {joined : E → E → E} → Lawful empty joined → Lawful (item empty 0 0) (item_joined joined)
item_lawful laws = search (rules, sum32_lawful, laws)
