use Rattle.std.proofs.Common.{ap, ◌∙◌}
use Rattle.image.specs.Headers.{header_in}
use Rattle.image.specs.Rows.{item_at}
use Rattle.image.proofs.Places.{length-rows}
use Rattle.image.proofs.opened.Image.held.Goals as goal

pub returns : goal.returns
returns g c opened =
    let s = c.args.self.now.bytes.now in
    ap (λ h. h.held) opened.header_is ∙ length-rows (header_in s) (item_at g.E.Coded.decoded s)
