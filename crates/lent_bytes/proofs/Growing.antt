-- A text that grows more than once. Assumes nothing.
use Rattle.std.proofs.Common.{◌≡◌, ℕ, List, [], ◌++◌, length, take, drop, refl, sym, ap, ◌∙◌, add-zero, arith, length-append, take-append-drop}
use Rattle.lent_bytes.specs.declared.text.Text.{Text}
use Rattle.lent_bytes.specs.Placed.{placed}
use Rattle.lent_bytes.specs.Texts.{Grown, NoRoom}
use Rattle.lent_bytes.proofs.Placing.{length-placed, placed_more}

-- it stays as long as it is
pub grown_length : {s t : Text} {more : List ℕ} → Grown s more t → length t.bytes.now ≡ length s.bytes.now
grown_length {s} {t} {more} g = ap length g.bytes ∙ length-placed s.bytes.now s.end more g.room

-- nothing is put
pub grown_none : (s : Text) → Grown s [] s
grown_none s = record {
  lent = refl;
  room = omega arith;
  end = sym (add-zero s.end);
  bytes = sym (ap (λ k. take s.end s.bytes.now ++ drop k s.bytes.now) (add-zero s.end) ∙ take-append-drop s.end s.bytes.now);
}

-- a text, and then another
pub grown_more : {s t u : Text} {xs ys : List ℕ} → Grown s xs t → Grown t ys u → Grown s (xs ++ ys) u
grown_more {s} {t} {u} {xs} {ys} p q =
    let long = grown_length p in
    let room = q.room in
    let start = p.end in
    let both = length-append xs ys in
    record {
      lent = q.lent ∙ p.lent;
      room = omega arith;
      end = q.end ∙ omega arith;
      bytes = q.bytes ∙ ap (λ l. placed l t.end ys) p.bytes ∙ placed_more s.bytes.now s.end t.end xs ys p.end (omega arith);
    }

-- or the other does not fit
pub grown_short : {s t : Text} {xs : List ℕ} (ys : List ℕ) → Grown s xs t → NoRoom t ys → NoRoom s (xs ++ ys)
grown_short {s} {t} {xs} ys p short = omega (arith, grown_length p, p.end, length-append xs ys)
