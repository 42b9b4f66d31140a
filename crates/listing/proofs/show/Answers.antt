use Rattle.std.proofs.Common.{subst}
use Rattle.lent_bytes.specs.Texts.{Grown}
use Rattle.lent_bytes.proofs.Growing.{grown_more, grown_short}
use Rattle.listing.specs.Listing.{header_line}
use Rattle.listing.proofs.Shown.{listed, shows_full}
use Rattle.listing.proofs.Texts.{too_short}
use Rattle.listing.proofs.show.Goals as goal

pub returns-in_err-put_header : goal.returns-in_err-put_header
returns-in_err-put_header g c =
    let image = c.in_ok-image.ensures in
    shows_full g.E.Coded.KIND g.E.Coded.fault image.bytes image.opened.sound (λ i. (c.type_inv.bytes i).fits) c.args.text.now c.put_header.new.text c.from_residual-in_err-put_header.result c.from_residual-in_err-put_header.ensures.1
    (too_short c.args.text.now (header_line c.in_ok-image.image.bytes.now) _ (c.in_err-put_header.ensures image.opened))

pub returns-in_err-put_rows : goal.returns-in_err-put_rows
returns-in_err-put_rows g c =
    let image = c.in_ok-image.ensures in
    shows_full g.E.Coded.KIND g.E.Coded.fault image.bytes image.opened.sound (λ i. (c.type_inv.bytes i).fits) c.args.text.now c.put_rows.new.text c.from_residual-in_err-put_rows.result c.from_residual-in_err-put_rows.ensures.1
    (grown_short _ (c.in_ok-put_header.ensures image.opened) (c.in_err-put_rows.ensures image.opened))

pub returns : goal.returns
returns g c =
    let image = c.in_ok-image.ensures in
    subst (λ l. Grown c.args.text.now l c.put_rows.new.text) (listed g.E.Coded.KIND g.E.Coded.fault image.bytes image.opened.sound)
    (grown_more (c.in_ok-put_header.ensures image.opened) (c.in_ok-put_rows.ensures image.opened))
