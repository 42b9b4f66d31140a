use Rattle.std.proofs.Common.{replicate, ap, ◌∙◌}
use Rattle.archive.specs.Meanings.{Meaning, stored_all}
use Rattle.consolidation.specs.Items.{item}
use Rattle.consolidation.specs.declared.item.Item.{Item}
use Rattle.consolidation.specs.declared.mean.Mean.{Mean}
use Rattle.layers.specs.Coarser.{coarser, fit_factor}
use Rattle.figures.specs.Worked.{none, joined, tower}
use Rattle.figures.proofs.five_over_twelve.Goals as goal

pub returns : goal.returns
returns c =
    let point = item c.hold.result 1 1 in
    let over : _ → Meaning (Item Mean) → Meaning (Item Mean) = λ f m. coarser joined m (fit_factor f m.width) 0 none in
    let low = c.new-2.ensures.value tt ∙ ap (over 12) c.new.ensures in
    let middle = c.new-2.ensures.well tt in
    let well = c.new-tower.ensures.well middle in
    let made = c.new-tower.ensures.value middle ∙ ap (over 5) low in
    record {
      well = c.store_all.ensures.kept well;
      means =
          c.store_all.ensures.value well
          ∙ ap (λ m. stored_all none joined m (replicate 61 point)) made
          ∙ ap (λ x. stored_all none joined tower (replicate 61 (item x 1 1))) c.hold.ensures.held;
    }
