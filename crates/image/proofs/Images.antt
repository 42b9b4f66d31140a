-- The first fault of an image. Assumes nothing.
use Rattle.std.proofs.Common.{◌≡◌, ℕ, ◌+◌, ◌<◌, ◌≤◌, List, length, ℤ, Some, None, Ok, Err, Option, sym, ap, ◌∙◌, subst, arith}
use Rattle.std.specs.Option.{option_map}
use Rattle.image.specs.declared.fault.BadElement.{BadElement}
use Rattle.element.specs.declared.fault.ElementFault.{ElementFault}
use Rattle.image.specs.declared.fault.ImageFault.{ImageFault}
use Rattle.image.specs.declared.fault.ImageFault.TheVariants.{Element}
use Rattle.image.specs.declared.header.Header.{Header}
use Rattle.element.specs.Faults.{unless}
use Rattle.image.specs.Faults.{earliest}
use Rattle.image.specs.Headers.{header_in, front_fault, Sound}
use Rattle.image.specs.Images.{bad_element, image_fault}
use Rattle.image.specs.Rows.{row_start}
use Rattle.image.proofs.Faults.{or_first, or_second, unless_ok, unless_value, unless_err, unless_some, earliest_found}
use Rattle.image.proofs.Headers.{front_sound}

-- a header that was accepted
pub record Accepted (kind : ℕ) (s : List ℕ) (h : Header) : Type 0 where
  pub none : front_fault kind s ≡ None
  pub is : h ≡ header_in s
  pub sound : Sound kind (length s) h

module _ (kind : ℕ) (s : List ℕ) where
  pub accepted : (h : Header) → Ok h ≡ unless (front_fault kind s) (header_in s) → Accepted kind s h
  accepted h e =
      let none = unless_ok (front_fault kind s) (header_in s) h (sym e) in
      let is = unless_value (front_fault kind s) (header_in s) h (sym e) in
      record { none = none; is = is; sound = subst (Sound kind (length s)) (sym is) (front_sound kind s none) }

  -- its rows that are held lie within the bytes
  pub row_within : (h : Header) (place : ℕ) → Accepted kind s h → place < h.held → (row_start place + 20 ≤ length s) × (place < 3000)
  row_within h place a held = let sound = a.sound in (omega arith, omega arith)

  module _ (fault : ℤ → ℕ → Option ElementFault) where
    pub refused_front : (f : ImageFault) → Err f ≡ unless (front_fault kind s) (header_in s) → Err f ≡ unless (image_fault kind fault s) (header_in s)
    refused_front f e =
        unless_some (image_fault kind fault s) (header_in s) f (or_first (front_fault kind s) _ f (unless_err (front_fault kind s) (header_in s) f (sym e)))

    pub refused_row : (h : Header) (place : ℕ) (bad : BadElement) → Accepted kind s h → place < h.held → earliest (bad_element fault s) place ≡ None → bad_element fault s place ≡ Some bad → Err (Element bad) ≡ unless (image_fault kind fault s) (header_in s)
    refused_row h place bad a held before here =
        let first = earliest_found (bad_element fault s) place h.held bad held before here in
        unless_some (image_fault kind fault s) (header_in s) (Element bad)
        (or_second (front_fault kind s) _ a.none ∙ ap (λ k. option_map Element (earliest (bad_element fault s) k.held)) (sym a.is) ∙ ap (option_map Element) first)
