use Rattle.std.proofs.Common.{Ok, sym, ap, ◌∙◌, subst}
use Rattle.listing.specs.Listing.{listing_of}
use Rattle.listing.specs.Shows.{Shows}
use Rattle.listing.proofs.show_any.Goals as goal

pub returns-in-Mean : goal.returns-in-Mean
returns-in-Mean c =
    let is = sym c.in_ok-kind_of.ensures ∙ ap Ok c.in-Mean.is in
    subst (λ k. Shows (listing_of k c.args.bytes.now) c.args.text.now c.show-in-Mean.result c.show-in-Mean.new.text) (sym is) c.show-in-Mean.ensures
