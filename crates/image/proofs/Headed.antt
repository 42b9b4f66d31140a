-- A header that is written, and read again. Assumes nothing.
use Rattle.std.proofs.Common.{◌≡◌, ℕ, ◌+◌, ◌*◌, ◌^◌, ◌<◌, ◌≤◌, List, length, sym, ap, ◌∙◌, arith}
use Rattle.std.proofs.lemmas.Nat.{from_le_bytes-to_le_bytes_4}
use Rattle.archive.specs.declared.cursor.Cursor.{Cursor}
use Rattle.lent_bytes.specs.Placed.{placed}
use Rattle.image.specs.Headers.{header_in}
use Rattle.image.specs.Rings.{header_of, turn_bytes}
use Rattle.image.proofs.Elsewhere.{alike_before, alike_after, le32_alike}
use Rattle.image.proofs.Numbers.{le32_placed}

-- the two numbers that change
pub turn_back : (kind : ℕ) (c d : Cursor) (s : List ℕ) → 24 ≤ length s → header_in s ≡ header_of kind c → d.span ≡ c.span → d.held < 2 ^ 32 → d.head < 2 ^ 32 → header_in (placed s 8 (turn_bytes d)) ≡ header_of kind d
turn_back kind c d s room is same fits_held fits_head =
    let t = placed s 8 (turn_bytes d) in
    let before = alike_before s 8 (turn_bytes d) 0 8 (omega arith) (omega arith) in
    let after = alike_after s 8 (turn_bytes d) 16 24 (omega arith) (omega arith) in
    let first = le32_alike s t 0 0 8 before (omega arith) (omega arith) ∙ ap (λ h. h.kind) is in
    let span = le32_alike s t 4 0 8 before (omega arith) (omega arith) ∙ ap (λ h. h.span) is ∙ sym same in
    let held = le32_placed s 8 0 (turn_bytes d) (omega arith) (omega arith) ∙ from_le_bytes-to_le_bytes_4 d.held fits_held in
    let head = le32_placed s 8 4 (turn_bytes d) (omega arith) (omega arith) ∙ from_le_bytes-to_le_bytes_4 d.head fits_head in
    let offset = le32_alike s t 16 16 24 after (omega arith) (omega arith) ∙ ap (λ h. h.offset) is in
    let total = le32_alike s t 20 16 24 after (omega arith) (omega arith) ∙ ap (λ h. h.total) is ∙ ap (λ n. 24 + 20 * n) (sym same) in
    λ i. record { kind = first i; span = span i; held = held i; head = head i; offset = offset i; total = total i }
