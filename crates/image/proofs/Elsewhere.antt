-- What is read of bytes that were not written. Assumes nothing.
use Rattle.std.proofs.Common.{◌≡◌, ℕ, ◌+◌, ◌*◌, ◌<◌, ◌≤◌, List, length, get_or, ℤ, Option, arith, w64, to_z}
use Rattle.lent_bytes.specs.Placed.{placed}
use Rattle.lent_bytes.proofs.Placing.{get_or-placed_before, get_or-placed_after}
use Rattle.consolidation.specs.Items.{item}
use Rattle.element.specs.declared.fault.ElementFault.{ElementFault}
use Rattle.image.specs.Headers.{header_in}
use Rattle.image.specs.Numbers.{le32}
use Rattle.image.proofs.Numbers.{le32_same}
use Rattle.image.specs.Rows.{row_start, amount_at, weight_at, known_at, of_at, fault_at, item_at}

-- two lists have the same bytes, from one place up to another
abbrev pub Alike : List ℕ → List ℕ → (from end : ℕ) → Type 0
Alike s t from end = (k : ℕ) → from ≤ k → k < end → get_or t k 0 ≡ get_or s k 0

pub alike_before : (s : List ℕ) (at : ℕ) (text : List ℕ) (from end : ℕ) → at ≤ length s → end ≤ at → Alike s (placed s at text) from end
alike_before s at text from end room before k h l = get_or-placed_before s at k text room (omega arith)

pub alike_after : (s : List ℕ) (at : ℕ) (text : List ℕ) (from end : ℕ) → at + length text ≤ length s → at + length text ≤ from → Alike s (placed s at text) from end
alike_after s at text from end room after k h l = get_or-placed_after s at k text room (omega arith)

module _ (s t : List ℕ) where
  pub le32_alike : (at from end : ℕ) → Alike s t from end → from ≤ at → at + 4 ≤ end → le32 t at ≡ le32 s at
  le32_alike at from end same first last = le32_same t s at at (λ m h. same (at + m) (omega arith) (omega arith))

  pub header_alike : Alike s t 0 24 → header_in t ≡ header_in s
  header_alike same =
      let kind = le32_alike 0 0 24 same (omega arith) (omega arith) in
      let span = le32_alike 4 0 24 same (omega arith) (omega arith) in
      let held = le32_alike 8 0 24 same (omega arith) (omega arith) in
      let head = le32_alike 12 0 24 same (omega arith) (omega arith) in
      let offset = le32_alike 16 0 24 same (omega arith) (omega arith) in
      let total = le32_alike 20 0 24 same (omega arith) (omega arith) in
      λ i. record { kind = kind i; span = span i; held = held i; head = head i; offset = offset i; total = total i }

  module _ (place : ℕ) (same : Alike s t (row_start place) (row_start place + 20)) where
    amount_alike : amount_at t place ≡ amount_at s place
    amount_alike =
        let at = row_start place in
        let low = le32_alike at at (at + 20) same (omega arith) (omega arith) in
        let high = le32_alike (at + 4) at (at + 20) same (omega arith) (omega arith) in
        λ i. to_z w64 (low i + high i * 4294967296)

    number_alike : (more : ℕ) → more + 4 ≤ 20 → le32 t (row_start place + more) ≡ le32 s (row_start place + more)
    number_alike more within = le32_alike (row_start place + more) (row_start place) (row_start place + 20) same (omega arith) (omega arith)

    pub fault_alike : (fault : ℤ → ℕ → Option ElementFault) → fault_at fault t place ≡ fault_at fault s place
    fault_alike fault =
        let weight : weight_at t place ≡ weight_at s place = number_alike 8 (omega arith) in
        λ i. fault (amount_alike i) (weight i)

    pub item_alike : {E : Type 0} (decoded : ℤ → ℕ → E) → item_at decoded t place ≡ item_at decoded s place
    item_alike decoded =
        let weight : weight_at t place ≡ weight_at s place = number_alike 8 (omega arith) in
        let known : known_at t place ≡ known_at s place = number_alike 12 (omega arith) in
        let all : of_at t place ≡ of_at s place = number_alike 16 (omega arith) in
        λ i. item (decoded (amount_alike i) (weight i)) (known i) (all i)
