use Rattle.std.proofs.Common.{◌≡◌, take}
use Rattle.archive.specs.Meanings.{stored_all}
use Rattle.archive.proofs.store_all.store_all.Given as goal

-- the items so far are stored
abbrev pub invariant-loop-item : goal.invariant-loop-item
invariant-loop-item g l =
    g.A.Archive.well l.initial.archive
    → g.A.Archive.well l.archive × (g.A.Archive.meaning l.archive ≡ stored_all g.A.Item.Monoid.empty g.A.Item.Monoid.joined (g.A.Archive.meaning l.initial.archive) (take l.item-index l.items))
