-- How long a number is in decimal.
use Rattle.std.proofs.Common.{◌≤◌, length, ℤ, arith, w64, SFits}
use Rattle.std.specs.Fmt.{signed_decimal}
use Rattle.std.proofs.lemmas.Fmt.{length_signed_le}

pub signed_length : (z : ℤ) → SFits w64 z → length (signed_decimal z) ≤ 20
signed_length z fits = length_signed_le 19 z (omega arith) fits.sfits
