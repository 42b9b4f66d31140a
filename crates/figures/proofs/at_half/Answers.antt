use Rattle.std.proofs.Common.{pos, Some, ap, ◌∙◌}
use Rattle.archive.specs.Entries.{item_counts, shown}
use Rattle.archive.specs.Meanings.{asked, stored}
use Rattle.consolidation.specs.Items.{item}
use Rattle.consolidation.specs.Means.{mean}
use Rattle.consolidation.specs.ItemsLemmas.{item_lawful}
use Rattle.consolidation.specs.MeansLemmas.{mean_lawful}
use Rattle.layers.specs.Limited.{limited}
use Rattle.figures.specs.Worked.{none, joined}
use Rattle.figures.proofs.at_half.Goals as goal

pub returns : goal.returns
returns c =
    let counts = item_counts (mean (pos 0) 0) in
    let row = item c.hold.result c.args.known 5 in
    let made = c.new-archive.ensures.value ∙ ap (limited 500) c.new.ensures in
    let kept = c.store.ensures.value tt ∙ ap (λ m. stored none joined m row) made in
    c.ask.ensures tt
    ∙ ap (λ m. asked none counts m 0) kept
    ∙ ap (λ x. Some (shown counts 500 x)) ((item_lawful mean_lawful).left_unit row)
    ∙ ap (λ x. Some (shown counts 500 (item x c.args.known 5))) c.hold.ensures.held
