use Rattle.std.proofs.Common.{◌≡◌, ◌++◌}
use Rattle.std.specs.List.{flat_map}
use Rattle.image.specs.Headers.{header_in}
use Rattle.element.specs.Kinds.{number_of_kind}
use Rattle.image.specs.Images.{places}
use Rattle.image.specs.Opened.{Opened}
use Rattle.lent_bytes.specs.Texts.{Grown}
use Rattle.listing.specs.Listing.{item_line, row_line}
use Rattle.listing.proofs.lines.put_rows.Given as goal

abbrev pub invariant-loop-row : goal.invariant-loop-row
invariant-loop-row g l =
    let s = l.image.bytes.now in
    let tells = item_line g.E.Consolidation.amount g.E.Consolidation.weight in
    (Opened (number_of_kind g.E.Coded.KIND) g.E.Coded.fault l.image.header s → flat_map tells (l.yielded ++ l.row-iterator) ≡ flat_map (row_line s) (places (header_in s))) × Grown l.initial.text (flat_map tells l.yielded) l.text
