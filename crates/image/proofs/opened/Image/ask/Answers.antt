use Rattle.std.proofs.Common.{◌∙◌}
use Rattle.archive.specs.Entries.{empty_item, item_counts}
use Rattle.image.specs.Headers.{header_in}
use Rattle.image.specs.Images.{rows_in}
use Rattle.image.proofs.Asked.{asked_index}
use Rattle.image.proofs.opened.Image.ask.Goals as goal

pub returns : goal.returns
returns g c opened =
    let s = c.args.self.now.bytes.now in
    let empty = g.E.Monoid.empty in
    c.row.ensures opened ∙ asked_index (empty_item empty) (item_counts empty) (header_in s).span (rows_in g.E.Coded.decoded s) c.held-held.result c.args.age (c.held-held.ensures opened) c.if-age-held.false
