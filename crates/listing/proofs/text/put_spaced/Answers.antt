use Rattle.std.specs.Fmt.{signed_decimal}
use Rattle.std.proofs.lemmas.Int.{to_z-of_z}
use Rattle.listing.proofs.Texts.{extends_adds}
use Rattle.listing.proofs.text.put_spaced.Goals as goal

pub returns : goal.returns
returns c =
    let number = signed_decimal c.args.number in
    let fits = c.ranges.number in
    extends_adds c.add.new.text number c.add.result c.in_ok-put.ensures (simp to_z-of_z at c.add.ensures)
