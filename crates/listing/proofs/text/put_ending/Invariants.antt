use Rattle.std.proofs.Common.{◌∷◌, take}
use Rattle.std.specs.List.{flat_map}
use Rattle.std.specs.Fmt.{signed_decimal}
use Rattle.lent_bytes.specs.Texts.{Grown}
use Rattle.listing.proofs.text.put_ending.Given as goal

abbrev pub invariant-loop-number : goal.invariant-loop-number
invariant-loop-number l = Grown l.initial.text (flat_map (λ z. 32 ∷ signed_decimal z) (take l.number-index l.numbers)) l.text
