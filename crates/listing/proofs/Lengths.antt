-- How long a listing can be. Assumes nothing.
use Rattle.std.proofs.Common.{◌≡◌, ℕ, ◌+◌, ◌*◌, ◌^◌, ◌<◌, ◌≤◌, List, [], ◌∷◌, length, get_or, ℤ, pos, None, codes, decimal, Option, refl, arith, length-append}
use mir.Facts.{sfits_to_z}
use Rattle.std.specs.List.{flat_map}
use Rattle.std.specs.Fmt.{signed_decimal}
use Rattle.std.proofs.lemmas.Fmt.{length-decimal-le}
use Rattle.decimal.proofs.Lengths.{signed_length}
use Rattle.element.specs.declared.fault.ElementFault.{ElementFault}
use Rattle.element.specs.declared.fault.ElementFault.TheVariants.{WeightAboveOne, AmountWithoutWeight, AmountTooWide}
use Rattle.element.specs.declared.kind.Kind.{Kind}
use Rattle.element.specs.declared.kind.Kind.TheVariants.{Min, Max, Last, Mean}
use Rattle.element.specs.Faults.{number_of_element_fault}
use Rattle.element.specs.Kinds.{number_of_kind}
use Rattle.image.specs.declared.fault.BadElement.{BadElement}
use Rattle.image.specs.declared.fault.ImageFault.{ImageFault}
use Rattle.image.specs.declared.fault.ImageFault.TheVariants.{Length, Kind as KindFault, Span, Held, Head, Offset, Total, Element}
use Rattle.image.specs.Faults.{number_of_fault, byte_of_fault}
use Rattle.image.specs.Headers.{header_in}
use Rattle.image.specs.Images.{image_fault, places}
use Rattle.image.specs.Numbers.{le32}
use Rattle.image.specs.Rows.{row_start, amount_at, weight_at, known_at, of_at}
use Rattle.image.proofs.Places.{length-places}
use Rattle.image.proofs.Reading.{header_sound}
use Rattle.listing.specs.Lines.{line}
use Rattle.listing.specs.Listing.{header_line, row_line, shown, details, refusal}

-- the digits of a number below 10 ^ k
digits : (k n : ℕ) → 0 < k → n < 10 ^ k → n < 2 ^ 64 → length (decimal n) ≤ k
digits k n some below fits = length-decimal-le k n some below fits

line_length : (word : List ℕ) (a b c : ℕ) → length (line word (pos a ∷ pos b ∷ pos c ∷ [])) ≡ length word + length (decimal a) + length (decimal b) + length (decimal c) + 4
line_length word a b c = simp length-append (omega arith)

abbrev spaced : ℤ → List ℕ
spaced z = 32 ∷ signed_decimal z

few : (f : ElementFault) → number_of_element_fault f < 10 ^ 10
few WeightAboveOne = omega arith
few AmountWithoutWeight = omega arith
few AmountTooWide = omega arith

-- a kind has one digit
one_digit : (kind : Kind) → number_of_kind kind < 10
one_digit Min = omega arith
one_digit Max = omega arith
one_digit Last = omega arith
one_digit Mean = omega arith

module _ (s : List ℕ) (bytes : (i : ℕ) → get_or s i 0 < 2 ^ 8) where
  small : (at : ℕ) → le32 s at < 2 ^ 32
  small at = omega (arith, bytes at, bytes (at + 1), bytes (at + 2), bytes (at + 3))

  ten_digits : (at : ℕ) → length (decimal (le32 s at)) ≤ 10
  ten_digits at = let fits = small at in digits 10 (le32 s at) (omega arith) (omega arith) (omega arith)

  amount_length : (place : ℕ) → length (signed_decimal (amount_at s place)) ≤ 20
  amount_length place =
      signed_length (amount_at s place) (sfits_to_z (record { fits = omega (arith, small (row_start place), small (row_start place + 4)) }))

  row_length : (place : ℕ) → length (row_line s place) ≤ 54
  row_length place =
      omega (arith, line_length (signed_decimal (amount_at s place)) (weight_at s place) (known_at s place) (of_at s place), amount_length place, ten_digits (row_start place + 8), ten_digits (row_start place + 12), ten_digits (row_start place + 16))

  rows_length : (ps : List ℕ) → length (flat_map (row_line s) ps) ≤ length ps * 54
  rows_length [] = omega arith
  rows_length (p ∷ ps) = omega (arith, length-append (row_line s p) (flat_map (row_line s) ps), row_length p, rows_length ps)

  -- the header's line and those of at most 3,000 rows
  pub shown_length : (kind : Kind) (fault : ℤ → ℕ → Option ElementFault) → image_fault (number_of_kind kind) fault s ≡ None → length (shown s) ≤ 162018
  shown_length kind fault none =
      let h = header_in s in
      let sound = header_sound (number_of_kind kind) fault s none in
      let kind_digits : length (decimal h.kind) ≤ 1 = digits 1 h.kind (omega arith) (omega (arith, sound.of_kind, one_digit kind)) (omega (arith, sound.of_kind, one_digit kind)) in
      let span_digits : length (decimal h.span) ≤ 4 = digits 4 h.span (omega arith) (omega (arith, sound.few_rows)) (omega (arith, sound.few_rows)) in
      let held_digits : length (decimal h.held) ≤ 4 = digits 4 h.held (omega arith) (omega (arith, sound.few_rows, sound.held_within)) (omega (arith, sound.few_rows, sound.held_within)) in
      omega (arith, length-append (header_line s) (flat_map (row_line s) (places h)), line_length (codes "image") h.kind h.span h.held, kind_digits, span_digits, held_digits, rows_length (places h), length-places h, sound.few_rows, sound.held_within)

-- what follows the number and the byte of a fault
details_length : (f : ImageFault) → ((bad : BadElement) → f ≡ Element bad → bad.place < 2 ^ 32) → length (flat_map spaced (details f)) ≤ 22
details_length Length small = omega arith
details_length KindFault small = omega arith
details_length Span small = omega arith
details_length Held small = omega arith
details_length Head small = omega arith
details_length Offset small = omega arith
details_length Total small = omega arith
details_length (Element bad) small =
    let fits = small bad refl in
    let place : length (decimal bad.place) ≤ 10 = digits 10 bad.place (omega arith) (omega arith) (omega arith) in
    let what = digits 10 (number_of_element_fault bad.fault) (omega arith) (few bad.fault) (omega (arith, few bad.fault)) in
    simp length-append (omega arith)

pub refusal_length : (f : ImageFault) → number_of_fault f < 2 ^ 32 → byte_of_fault f < 2 ^ 32 → ((bad : BadElement) → f ≡ Element bad → bad.place < 2 ^ 32) → length (refusal f) ≤ 162018
refusal_length f number byte small =
    let number_digits : length (decimal (number_of_fault f)) ≤ 10 = digits 10 (number_of_fault f) (omega arith) (omega arith) (omega arith) in
    let byte_digits : length (decimal (byte_of_fault f)) ≤ 10 = digits 10 (byte_of_fault f) (omega arith) (omega arith) (omega arith) in
    let more = details_length f small in
    simp length-append (omega arith)
