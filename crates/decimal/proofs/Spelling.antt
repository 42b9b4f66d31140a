-- A number spelled at the end of a scratch buffer, from its last digit to its sign.
use Rattle.std.proofs.Common.{◌≡◌, ℕ, ◌+◌, ◌-◌, ◌/◌, ◌%◌, ◌^◌, ◌<◌, ◌≤◌, List, ◌∷◌, ◌++◌, length, drop, set, ℤ, pos, negsuc, nat_abs, ◌<ℤ◌, decimal, sym, ap, ◌∙◌, append_assoc, arith, length-append, length-drop}
use Rattle.std.specs.Fmt.{signed_decimal}
use Rattle.std.proofs.lemmas.Fmt.{decimal_digit, decimal_step, decimal_nonempty, length-decimal-le}
use Rattle.std.proofs.lemmas.List.{drop-set}
use Rattle.std.proofs.lemmas.Int.{ints}

-- a byte put before what stands from `start` on
pub put_before : (scratch : List ℕ) (start byte : ℕ) → 0 < start → start ≤ length scratch → drop (start - 1) (set scratch (start - 1) byte) ≡ byte ∷ drop start scratch
put_before scratch start byte some within =
    let next : start - 1 + 1 ≡ start = omega arith in
    drop-set scratch (start - 1) byte (omega arith) ∙ ap (λ k. byte ∷ drop k scratch) next

-- where all of `value` but for `rest` stands from `start` on, `rest`'s last digit is the next to put
pub record Left (value rest start : ℕ) (scratch : List ℕ) : Type 0 where
  pub some : 0 < start
  pub more : 10 ≤ rest → decimal value ≡ decimal (rest / 10) ++ drop (start - 1) (set scratch (start - 1) (48 + rest % 10))
  pub done : rest < 10 → drop (start - 1) (set scratch (start - 1) (48 + rest % 10)) ≡ decimal value

pub left : (value rest start : ℕ) (scratch : List ℕ) → value < 2 ^ 64 → rest < 2 ^ 64 → length scratch ≡ 20 → start ≤ 20 → decimal value ≡ decimal rest ++ drop start scratch → Left value rest start scratch
left value rest start scratch fits small long within e =
    let most = length-decimal-le 20 value (omega arith) (omega arith) fits in
    let one = decimal_nonempty rest small in
    let lens = ap length e ∙ length-append (decimal rest) (drop start scratch) in
    let back = length-drop start scratch in
    let first : 0 < start = omega arith in
    let put = put_before scratch start (48 + rest % 10) first (omega arith) in
    record {
      some = first;
      more = λ h. e ∙ ap (λ l. l ++ drop start scratch) (decimal_step rest h small) ∙ append_assoc (decimal (rest / 10)) _ _ ∙ ap (λ l. decimal (rest / 10) ++ l) (sym put);
      done = λ h.
          let same : rest % 10 ≡ rest = omega arith in
          put ∙ ap (λ d. (48 + d) ∷ drop start scratch) same ∙ ap (λ l. l ++ drop start scratch) (sym (decimal_digit rest h)) ∙ sym e;
    }

-- what stands from `start` on fills the buffer
pub fills : (scratch text : List ℕ) (start : ℕ) → length scratch ≡ 20 → start ≤ 20 → drop start scratch ≡ text → start + length text ≡ 20
fills scratch text start long within e = let lens = ap length e in let back = length-drop start scratch in omega arith

-- nineteen digits at most, so a place is left for a sign
pub room : (n start : ℕ) → n ≤ 2 ^ 63 → start + length (decimal n) ≡ 20 → 0 < start
room n start small fill =
    let short = length-decimal-le 19 n (omega arith) (omega arith) (omega arith) in
    omega arith

pub minus : (z : ℤ) (n : ℕ) → z <ℤ pos 0 → n ≡ nat_abs z → 45 ∷ decimal n ≡ signed_decimal z
minus (pos k) n below size = absurd (omega (arith, ints))
minus (negsuc k) n below size = ap (λ m. 45 ∷ decimal m) size
