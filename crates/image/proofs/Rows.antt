-- A row that is written, and read again. Assumes nothing.
use Rattle.std.proofs.Common.{◌≡◌, ℕ, ◌+◌, [], ◌∷◌, ◌/◌, ◌%◌, ◌^◌, ◌<◌, ◌≤◌, List, length, ℤ, None, Option, sym, ap, ◌∙◌, add-zero, arith, w64, SFits, to_z, of_z}
use Rattle.std.specs.Int.{to_le_bytes}
use Rattle.std.specs.List.{flat_map}
use Rattle.std.proofs.lemmas.Nat.{from_le_bytes-to_le_bytes_4}
use Rattle.std.proofs.lemmas.Int.{ints, to_z-of_z}
use Rattle.consolidation.specs.Items.{item}
use Rattle.consolidation.specs.declared.item.Item.{Item}
use Rattle.lent_bytes.specs.Placed.{placed}
use Rattle.lent_bytes.proofs.Placing.{placed_more}
use Rattle.element.specs.declared.fault.ElementFault.{ElementFault}
use Rattle.image.specs.Numbers.{le32, le64, bytes32, bytes64}
use Rattle.image.specs.Rows.{row_start, amount_at, weight_at, known_at, of_at, fault_at, item_at, row_bytes, RowWritten}
use Rattle.image.proofs.Numbers.{bytes64_le, le32_placed}

module _ (amount : ℤ) (weight known all : ℕ) where
  -- its four numbers, one after the other
  pub row_placed : (s b₁ b₂ : List ℕ) (at : ℕ) → at + 20 ≤ length s → b₁ ≡ placed s at (to_le_bytes w64 (of_z w64 amount)) → b₂ ≡ placed b₁ (at + 8) (flat_map bytes32 (weight ∷ known ∷ all ∷ []))
      → b₂ ≡ placed s at (row_bytes amount weight known all)
  row_placed s b₁ b₂ at room p₁ p₂ =
      let a = bytes64 (of_z w64 amount) in
      let counts = flat_map bytes32 (weight ∷ known ∷ all ∷ []) in
      p₂ ∙ ap (λ l. placed l (at + 8) counts) (p₁ ∙ ap (placed s at) (bytes64_le (of_z w64 amount))) ∙ placed_more s at (at + 8) a counts (omega arith) (omega arith)

  -- what is read of them
  pub record ReadBack (t : List ℕ) (place : ℕ) : Type 0 where
    pub amount_back : amount_at t place ≡ amount
    pub weight_back : weight_at t place ≡ weight
    pub known_back : known_at t place ≡ known
    pub of_back : of_at t place ≡ all

  pub read_back : (s : List ℕ) (place : ℕ) → row_start place + 20 ≤ length s → SFits w64 amount → weight < 2 ^ 32 → known < 2 ^ 32 → all < 2 ^ 32 → ReadBack (placed s (row_start place) (row_bytes amount weight known all)) place
  read_back s place room fa fw fk fo =
      let at = row_start place in
      let row = row_bytes amount weight known all in
      let t = placed s at row in
      let n = of_z w64 amount in
      let in-w64 : n < 2 ^ 64 = omega (arith, ints) in
      let low : le32 t at ≡ n % 4294967296 = ap (le32 t) (sym (add-zero at)) ∙ le32_placed s at 0 row (omega arith) (omega arith) ∙ from_le_bytes-to_le_bytes_4 (n % 4294967296) (omega arith) in
      let high : le32 t (at + 4) ≡ n / 4294967296 = le32_placed s at 4 row (omega arith) (omega arith) ∙ from_le_bytes-to_le_bytes_4 (n / 4294967296) (omega arith) in
      let whole : le64 t at ≡ n = omega arith in
      record {
        amount_back = ap (to_z w64) whole ∙ to_z-of_z w64 amount fa;
        weight_back = le32_placed s at 8 row (omega arith) (omega arith) ∙ from_le_bytes-to_le_bytes_4 weight fw;
        known_back = le32_placed s at 12 row (omega arith) (omega arith) ∙ from_le_bytes-to_le_bytes_4 known fk;
        of_back = le32_placed s at 16 row (omega arith) (omega arith) ∙ from_le_bytes-to_le_bytes_4 all fo;
      }

module _ {E : Type 0} (amount : E → ℤ) (weight : E → ℕ) (fault : ℤ → ℕ → Option ElementFault) (decoded : ℤ → ℕ → E) where
  -- an item, by what it is encoded to
  pub row_written : (s t : List ℕ) (place : ℕ) (x : Item E) (a : ℤ) (w : ℕ) → row_start place + 20 ≤ length s → SFits w64 a → w < 2 ^ 32 → x.known < 2 ^ 32 → x.of < 2 ^ 32
      → (a ≡ amount x.element) × (w ≡ weight x.element) → (fault a w ≡ None) × (decoded a w ≡ x.element)
      → t ≡ placed s (row_start place) (row_bytes a w x.known x.of) → RowWritten amount weight fault decoded s place x t
  row_written s t place x a w room fa fw fk fo told back is =
      let at = row_start place in
      let read = read_back a w x.known x.of s place room fa fw fk fo in
      record {
        room = room;
        bytes = is ∙ (λ i. placed s at (row_bytes (told.0 i) (told.1 i) x.known x.of));
        sound = ap (λ l. fault_at fault l place) is ∙ (λ i. fault (read.amount_back i) (read.weight_back i)) ∙ back.0;
        back = ap (λ l. item_at decoded l place) is ∙ (λ i. item (decoded (read.amount_back i) (read.weight_back i)) (read.known_back i) (read.of_back i)) ∙ ap (λ e. item e x.known x.of) back.1;
      }
