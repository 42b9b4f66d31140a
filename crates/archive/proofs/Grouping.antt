-- The law of archives: what an archive holds that was given some items. Assumes nothing.
use Rattle.std.proofs.Common.{◌≡◌, ℕ, zero, suc, ◌+◌, ◌-◌, ◌*◌, ◌/◌, ◌%◌, ◌<◌, ◌≤◌, List, [], ◌∷◌, ◌++◌, map, length, get_or, sym, refl, ap, ◌∙◌, inl, inr, add-one, arith}
use lib.Arith.{digits_div, digits_mod}
use Rattle.std.specs.List.{range_with_len}
use Rattle.std.proofs.lemmas.Nat.{le-div}
use Rattle.std.proofs.lemmas.List.FromFn.{fill_by_all, map-range_with_len_more}
use Rattle.std.proofs.lemmas.Bool.{cases_lt, lt-ltb, le-ltb, cond-true, cond-false}
use Rattle.archive.specs.Gathers.{gather}
use Rattle.archive.specs.Groups.{row, upto, grouped}
use Rattle.archive.specs.Meanings.{Meaning, newest, fresh, grown, closed, stored, stored_all}
use Rattle.archive.proofs.Newest.{newest_all, newest_push}

-- the quotient and the remainder of a number that is written with both
pub place : (k w q b : ℕ) → b < w → k ≡ q * w + b → (k / w ≡ q) × (k % w ≡ b)
place k w q b h e = (ap (λ x. x / w) e ∙ digits_div q h, ap (λ x. x % w) e ∙ digits_mod q h)

module _ {M : Type 0} (empty : M) (joined : M → M → M) (w span allowance first : ℕ) (item : ℕ → M) where
  abbrev rows_before : ℕ → List M
  rows_before q = newest span (map (row empty joined w item) (range_with_len first (q - first)))

  -- the rows before the row q, and b items of that row
  abbrev reached : (q b : ℕ) → Meaning M
  reached q b = record { width = w; span = span; allowance = allowance; begun = b; part = gather empty joined item (q * w) b; rows = rows_before q }

  abbrev before : ℕ → Meaning M
  before = upto empty joined w span allowance first item

  before_at : (k q b : ℕ) → b < w → k ≡ q * w + b → before k ≡ reached q b
  before_at k q b h e =
      let p = place k w q b h e in
      ap (λ q. reached q (k % w)) p.0 ∙ ap (reached q) p.1

  -- an item that leaves the row open
  stored_in : (q b : ℕ) → b + 1 < w → stored empty joined (reached q b) (item (q * w + b)) ≡ reached q (b + 1)
  stored_in q b h =
      let m = reached q b in
      let part = gather empty joined item (q * w) (suc b) in
      let at : M → Meaning M = λ p. record { width = w; span = span; allowance = allowance; begun = b + 1; part = p; rows = rows_before q } in
      cond-true _ (grown m part) (closed empty m part) (lt-ltb (b + 1) w h) ∙ ap (λ n. at (gather empty joined item (q * w) n)) (sym (add-one b))

  -- an item that makes it a row
  stored_out : (q b : ℕ) → b + 1 ≡ w → first ≤ q → stored empty joined (reached q b) (item (q * w + b)) ≡ reached (q + 1) 0
  stored_out q b h l =
      let m = reached q b in
      let part = gather empty joined item (q * w) (suc b) in
      let all = map (row empty joined w item) (range_with_len first (q - first)) in
      let at : List M → Meaning M = λ rows. record { width = w; span = span; allowance = allowance; begun = 0; part = empty; rows = rows } in
      let more : q - first + 1 ≡ q + 1 - first = omega arith in
      cond-false _ (grown m part) (closed empty m part) (le-ltb (b + 1) w (omega arith))
      ∙ ap (λ n. at (newest span (newest span all ++ gather empty joined item (q * w) n ∷ []))) (sym (add-one b) ∙ h)
      ∙ ap at (newest_push span all (row empty joined w item q))
      ∙ ap (λ rows. at (newest span rows)) (sym (map-range_with_len_more (row empty joined w item) first (q - first) q (omega arith)))
      ∙ ap (λ n. at (newest span (map (row empty joined w item) (range_with_len first n)))) more

  -- one item more
  pub upto_more : 0 < w → (k : ℕ) → first * w ≤ k → stored empty joined (before k) (item k) ≡ before (k + 1)
  upto_more some k l =
      let q = k / w in
      let b = k % w in
      let is : k ≡ q * w + b = omega arith in
      let under : b < w = omega arith in
      ap (λ i. stored empty joined (before k) (item i)) is
      ∙ elim (cases_lt (b + 1) w) [
        | inl h ↦ stored_in q b h ∙ sym (before_at (k + 1) q (b + 1) h (omega arith))
        | inr h ↦ stored_out q b (omega arith) (le-div first k w some l) ∙ sym (before_at (k + 1) (q + 1) 0 some (omega arith))
      ]

  -- n items more
  pub upto_run : 0 < w → (k n : ℕ) → first * w ≤ k → stored_all empty joined (before k) (map item (range_with_len k n)) ≡ before (k + n)
  upto_run some k zero l = ap before (omega arith)
  upto_run some k (suc n) l =
      ap (λ m. stored_all empty joined m (map item (range_with_len (k + 1) n))) (upto_more some k l)
      ∙ upto_run some (k + 1) n (omega arith)
      ∙ ap before (omega arith)

  pub fresh_upto : 0 < w → fresh empty w span allowance ≡ before (first * w)
  fresh_upto some =
      let at : List M → Meaning M = λ rows. record { width = w; span = span; allowance = allowance; begun = 0; part = empty; rows = rows } in
      let none : 0 ≡ first - first = omega arith in
      ap at (sym (newest_all span [] (omega arith)))
      ∙ ap (λ n. at (newest span (map (row empty joined w item) (range_with_len first n)))) none
      ∙ sym (before_at (first * w) first 0 some (omega arith))

-- a list of items into a fresh archive
pub law_of_archives : {M : Type 0} (empty : M) (joined : M → M → M) (w span allowance : ℕ) (xs : List M) → 0 < w
    → stored_all empty joined (fresh empty w span allowance) xs ≡ grouped empty joined w span allowance xs
law_of_archives empty joined w span allowance xs some =
    let item = λ (i : ℕ). get_or xs i empty in
    let before = upto empty joined w span allowance 0 item in
    ap (λ m. stored_all empty joined m xs) (fresh_upto empty joined w span allowance 0 item some)
    ∙ ap (λ k. stored_all empty joined (before k) xs) (omega arith)
    ∙ ap (stored_all empty joined (before 0)) (fill_by_all item xs (length xs) empty refl (λ k h. refl))
    ∙ upto_run empty joined w span allowance 0 item some 0 (length xs) (omega arith)
    ∙ ap before (omega arith)
