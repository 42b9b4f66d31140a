-- What is refused at laying out, and by which number. Assumes nothing.
use Rattle.std.specs.Prelude.{ℕ, Bool, cond, Ok, Err, Result}
use Rattle.archive.specs.declared.refusal.Refusal.{Refusal}
use Rattle.archive.specs.declared.refusal.Refusal.TheVariants.{Factor, Span, Allowance}

abbrev pub number_of_refusal : Refusal → ℕ
number_of_refusal Factor = 4
number_of_refusal Span = 5
number_of_refusal Allowance = 6

-- a refusal, exactly when something is wrong
abbrev pub refused_if : Bool → Refusal → Result (Unit {0}) Refusal
refused_if wrong refusal = cond wrong (Err refusal) (Ok tt)
