-- An archive under an allowance of its own. Assumes nothing.
use Rattle.std.specs.Prelude.{ℕ, min, cond, nat_lt}
use Rattle.std.proofs.Common.{le_trans}
use Rattle.std.proofs.Math.Nat.{min-le_right}
use Rattle.archive.specs.Meanings.{Meaning, Sound}

-- an allowance is at most 1,000
abbrev pub fit_allowance : ℕ → ℕ
fit_allowance allowance = cond (nat_lt 1000 allowance) 1000 allowance

-- of two allowances the smaller counts
abbrev pub limited : {M : Type 0} → (allowance : ℕ) → Meaning M → Meaning M
limited allowance m = record {
  width = m.width;
  span = m.span;
  allowance = min allowance m.allowance;
  begun = m.begun;
  part = m.part;
  rows = m.rows;
}

pub limited_sound : {M : Type 0} (allowance : ℕ) (m : Meaning M) → Sound m → Sound (limited allowance m)
limited_sound allowance m s = record {
  some_width = s.some_width;
  most_width = s.most_width;
  most_span = s.most_span;
  most_allowance = le_trans (min-le_right allowance m.allowance) s.most_allowance;
  still_open = s.still_open;
  within_span = s.within_span;
}
