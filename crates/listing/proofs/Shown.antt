-- An image that is shown. Assumes nothing.
use Rattle.std.proofs.Common.{◌≡◌, ℕ, ◌^◌, ◌<◌, ◌≤◌, List, length, get_or, ℤ, None, Ok, Err, Option, Result, IsErrAnd, sym, ap, ◌∙◌, subst}
use Rattle.element.specs.declared.fault.ElementFault.{ElementFault}
use Rattle.element.specs.declared.kind.Kind.{Kind}
use Rattle.element.specs.Kinds.{number_of_kind}
use Rattle.image.specs.Images.{image_fault}
use Rattle.lent_bytes.specs.declared.text.Text.{Text}
use Rattle.lent_bytes.specs.Texts.{NoRoom}
use Rattle.listing.specs.declared.stop.Stop.{Stop}
use Rattle.listing.specs.declared.stop.Stop.TheVariants.{Full}
use Rattle.listing.specs.Listing.{shown, shown_unless}
use Rattle.listing.specs.Shows.{Shows}
use Rattle.listing.proofs.Lengths.{shown_length}

-- the bytes s of an image that was opened are those that were given
module _ (kind : Kind) (fault : ℤ → ℕ → Option ElementFault) {s bytes : List ℕ} (same : s ≡ bytes) (sound : image_fault (number_of_kind kind) fault s ≡ None) where
  none : image_fault (number_of_kind kind) fault bytes ≡ None
  none = subst (λ x. image_fault (number_of_kind kind) fault x ≡ None) same sound

  pub listed : shown s ≡ shown_unless (image_fault (number_of_kind kind) fault bytes) bytes
  listed = ap shown same ∙ ap (λ f. shown_unless f bytes) (sym none)

  -- what is shown does not fit
  pub shows_full : ((i : ℕ) → get_or bytes i 0 < 2 ^ 8) → (before after : Text) (r : Result Unit Stop) → IsErrAnd r (λ e. e ≡ Full) → NoRoom before (shown s) → Shows (shown_unless (image_fault (number_of_kind kind) fault bytes) bytes) before r after
  shows_full fits before after (Ok _) is short = absurd is
  shows_full fits before after (Err e) is short =
      let full : Shows (shown_unless (image_fault (number_of_kind kind) fault bytes) bytes) before (Err Full) after =
      (subst (NoRoom before) listed short, subst (λ f. length (shown_unless f bytes) ≤ 162018) (sym none) (shown_length bytes fits kind fault none)) in
      subst (λ e. Shows (shown_unless (image_fault (number_of_kind kind) fault bytes) bytes) before (Err e) after) (sym is) full
