-- A fault that is listed. Assumes nothing.
use Rattle.std.proofs.Common.{◌≡◌, ℕ, ◌+◌, ◌^◌, ◌<◌, ◌≤◌, true, List, ◌∷◌, length, ℤ, pos, is_ok, Result, codes, ap, ◌∙◌, subst, w64, to_z}
use Rattle.image.specs.declared.fault.BadElement.{BadElement}
use Rattle.image.specs.declared.fault.ImageFault.{ImageFault}
use Rattle.image.specs.declared.fault.ImageFault.TheVariants.{Element}
use Rattle.image.specs.Faults.{number_of_fault, byte_of_fault}
use Rattle.lent_bytes.specs.declared.text.Full.{Full}
use Rattle.lent_bytes.specs.declared.text.Text.{Text}
use Rattle.lent_bytes.specs.Texts.{Grown}
use Rattle.listing.specs.Lines.{ending}
use Rattle.listing.specs.Listing.{details, refusal}
use Rattle.listing.specs.Texts.{Extends}
use Rattle.listing.proofs.Lengths.{refusal_length}
use Rattle.listing.proofs.Texts.{extends_line, fitting, widened}

-- its word stands, and then its numbers, each of 32 bits
pub refused : {s t : Text} (u : Text) (f : ImageFault) (number byte : ℕ) (rest : List ℤ) (r : Result Unit Full) → number < 2 ^ 32 → number ≡ number_of_fault f → byte < 2 ^ 32 → byte ≡ byte_of_fault f → rest ≡ details f → ((bad : BadElement) → f ≡ Element bad → bad.place < 2 ^ 32)
    → Grown s (codes "refused") t → Extends t (ending (to_z w64 number ∷ to_z w64 byte ∷ rest)) r u
    → Extends s (refusal f) r u × (s.end + 162018 ≤ length s.bytes.now → is_ok r ≡ true)
refused {s} {t} u f number byte rest r number_fits is_number byte_fits is_byte is_rest small word numbers =
    let text : Extends s (refusal f) r u =
    extends_line u _ (pos (number_of_fault f) ∷ pos (byte_of_fault f) ∷ details f) r (λ i. (widened number number_fits ∙ ap pos is_number) i ∷ (widened byte byte_fits ∙ ap pos is_byte) i ∷ is_rest i) word numbers in
    let short = refusal_length f (subst (λ n. n < 2 ^ 32) is_number number_fits) (subst (λ n. n < 2 ^ 32) is_byte byte_fits) small in
    (text, fitting s u (refusal f) r text short)
