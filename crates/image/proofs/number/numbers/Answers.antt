use Rattle.std.proofs.Common.{◌≡◌, ℕ, ◌+◌, ◌*◌, refl, arith, rules}
use Rattle.std.proofs.lemmas.List.FromFn.{fill_by_all}
use Rattle.image.specs.Numbers.{le32}
use Rattle.image.proofs.FromFn.{made_from}
use Rattle.image.proofs.Numbers.{le32_field}
use Rattle.image.proofs.number.numbers.Goals as goal

pub returns : goal.returns
returns g c =
    let s = c.args.bytes.now in
    let at = c.args.at in
    let number : ℕ → ℕ = λ k. le32 s (at + 4 * k) in
    let made = c.from_fn.ensures.items in
    fill_by_all number _ g.row.N 0 made.long (λ k below.
    made_from _ number (λ f. (f.0.now ≡ s) × (f.1.now ≡ at)) (λ f f' k y o e. search (rules, le32_field)) c.from_fn.result _ 0 g.row.N k k (refl, refl) made.each below (omega arith))
