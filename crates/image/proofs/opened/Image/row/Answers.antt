use Rattle.std.proofs.Common.{◌∙◌}
use Rattle.element.specs.Kinds.{number_of_kind}
use Rattle.image.proofs.Reading.{row_opened}
use Rattle.image.proofs.opened.Image.row.Goals as goal

pub returns : goal.returns
returns g c opened =
    let image = c.args.self.now in
    c.row_of.ensures.row ∙ row_opened (number_of_kind g.E.Coded.KIND) g.E.Coded.fault image.header image.bytes.now opened g.E.Coded.decoded c.args.index
