use Rattle.element.specs.Kinds.{number_of_kind}
use Rattle.image.proofs.Reading.{rows_opened}
use Rattle.image.proofs.opened.Image.rows.Goals as goal

pub returns : goal.returns
returns g c opened =
    let image = c.args.self.now in
    rows_opened (number_of_kind g.E.Coded.KIND) g.E.Coded.fault image.header image.bytes.now opened g.E.Coded.decoded
