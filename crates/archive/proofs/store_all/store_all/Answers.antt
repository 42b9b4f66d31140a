use Rattle.std.proofs.Common.{◌<◌, ap, ◌∙◌, subst, take_all}
use Rattle.archive.specs.Meanings.{stored_all}
use Rattle.archive.proofs.Grouping.{law_of_archives}
use Rattle.archive.proofs.store_all.store_all.Goals as goal

pub returns : goal.returns
returns g c =
    let empty = g.A.Item.Monoid.empty in
    let joined = g.A.Item.Monoid.joined in
    let a = c.args.archive.now in
    let m = g.A.Archive.meaning a in
    let items = c.args.items.now in
    let all = take_all _ _ c.loop-item-test.false in
    let value = λ (w : g.A.Archive.well a). (c.loop-item.invariant w).1 ∙ ap (stored_all empty joined m) all in
    record {
      kept = λ w. (c.loop-item.invariant w).0;
      value = value;
      in_groups = λ width span allowance w is.
          let some : 0 < width = subst (λ n. 0 < n) (ap (λ m. m.width) is) (g.met.A.Archive.sound a w).some_width in
          value w ∙ ap (λ m. stored_all empty joined m items) is ∙ law_of_archives empty joined width span allowance items some;
    }
