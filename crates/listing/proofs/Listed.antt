-- The lines of the rows, and of a fault. Assumes nothing.
use Rattle.std.proofs.Common.{◌≡◌, ℕ, suc, ◌<◌, List, [], ◌∷◌, ◌++◌, length, map, get_or, ℤ, pos, None, Option, refl, arith}
use Rattle.std.specs.List.{flat_map}
use Rattle.std.specs.Fmt.{signed_decimal}
use Rattle.element.specs.declared.fault.ElementFault.{ElementFault}
use Rattle.image.specs.declared.fault.BadElement.{BadElement}
use Rattle.image.specs.declared.fault.ImageFault.{ImageFault}
use Rattle.image.specs.declared.fault.ImageFault.TheVariants.{Length, Kind, Span, Held, Head, Offset, Total, Element}
use Rattle.image.specs.Headers.{header_in}
use Rattle.image.specs.Images.{image_fault, places, rows_in}
use Rattle.image.specs.Rows.{amount_at, weight_at, known_at, of_at, fault_at, item_at}
use Rattle.image.proofs.Places.{length-places}
use Rattle.image.proofs.Reading.{place_sound}
use Rattle.listing.specs.Lines.{line}
use Rattle.listing.specs.Listing.{item_line, row_line, details}

module _ {E : Type 0} (fault : ℤ → ℕ → Option ElementFault) (s : List ℕ) (decoded : ℤ → ℕ → E) (amount : E → ℤ) (weight : E → ℕ)
    (told : (a : ℤ) (w : ℕ) → fault a w ≡ None → (amount (decoded a w) ≡ a) × (weight (decoded a w) ≡ w)) where
  -- what the items of these places tell is what the rows' bytes write
  each : (ps : List ℕ) → ((i : ℕ) → i < length ps → fault_at fault s (get_or ps i 0) ≡ None) → flat_map (item_line amount weight) (map (item_at decoded s) ps) ≡ flat_map (row_line s) ps
  each [] sound = refl
  each (p ∷ ps) sound =
      let tells = told (amount_at s p) (weight_at s p) (sound 0 (omega arith)) in
      let rest = each ps (λ i within. sound (suc i) (omega (arith, within))) in
      λ i. line (signed_decimal (tells.0 i)) (pos (tells.1 i) ∷ pos (known_at s p) ∷ pos (of_at s p) ∷ []) ++ rest i

  -- so it is with the rows of an image
  pub rows_listed : (kind : ℕ) → image_fault kind fault s ≡ None → flat_map (item_line amount weight) (rows_in decoded s) ≡ flat_map (row_line s) (places (header_in s))
  rows_listed kind none = each (places (header_in s)) (λ i within. place_sound kind fault s none i (omega (arith, length-places (header_in s))))

-- only a bad element has details
pub plain : (f : ImageFault) → ((bad : BadElement) → f ≡ Element bad → ⊥) → [] ≡ details f
plain Length not = refl
plain Kind not = refl
plain Span not = refl
plain Held not = refl
plain Head not = refl
plain Offset not = refl
plain Total not = refl
plain (Element bad) not = absurd (not bad refl)
