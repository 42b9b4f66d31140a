-- The header of an image, and the first fault of it. Assumes nothing.
use Rattle.std.specs.Prelude.{◌≡◌, ℕ, ◌+◌, ◌*◌, ◌<◌, ◌≤◌, Bool, cond, not, ◌||◌, List, length, Option, Result, ◌==◌, nat_lt}
use Rattle.std.specs.Bool.{then_some}
use Rattle.std.specs.Option.{ok_or}
use Rattle.std.specs.Result.{result_and}
use Rattle.archive.specs.Rings.{wrong_span}
use Rattle.image.specs.declared.fault.ImageFault.{ImageFault}
use Rattle.image.specs.declared.fault.ImageFault.TheVariants.{Length, Kind as KindFault, Span, Held, Head, Offset, Total}
use Rattle.image.specs.declared.header.Header.{Header}
use Rattle.element.specs.declared.kind.Kind.{Kind}
use Rattle.element.specs.Faults.{◌or◌, unless}
use Rattle.element.specs.Kinds.{kind_numbered}
use Rattle.image.specs.Numbers.{le32}

abbrev pub header_in : List ℕ → Header
header_in s = record { kind = le32 s 0; span = le32 s 4; held = le32 s 8; head = le32 s 12; offset = le32 s 16; total = le32 s 20 }

abbrev pub length_fault : ℕ → Option ImageFault
length_fault len = then_some (nat_lt len 24 || nat_lt 60024 len) Length

abbrev pub kind_fault : ℕ → Header → Option ImageFault
kind_fault kind h = then_some (not (h.kind == kind)) KindFault

abbrev pub span_fault : Header → Option ImageFault
span_fault h = then_some (wrong_span h.span) Span

abbrev pub held_fault : Header → Option ImageFault
held_fault h = then_some (nat_lt h.span h.held) Held

-- below the span the head is the number of rows held; a full ring has it at any place
abbrev pub head_kept : Header → Bool
head_kept h = cond (nat_lt h.held h.span) (h.head == h.held) (nat_lt h.head h.span)

abbrev pub head_fault : Header → Option ImageFault
head_fault h = then_some (not (head_kept h)) Head

abbrev pub offset_fault : Header → Option ImageFault
offset_fault h = then_some (not (h.offset == 24)) Offset

abbrev pub total_fault : ℕ → Header → Option ImageFault
total_fault len h = then_some (not (h.total == 24 + 20 * h.span) || not (h.total == len)) Total

-- in this order, the first that applies
abbrev pub header_fault : (kind len : ℕ) → Header → Option ImageFault
header_fault kind len h = kind_fault kind h or span_fault h or held_fault h or head_fault h or offset_fault h or total_fault len h

-- of the length, and then of the header
abbrev pub front_fault : (kind : ℕ) → List ℕ → Option ImageFault
front_fault kind s = length_fault (length s) or header_fault kind (length s) (header_in s)

-- which kind the bytes say they are
abbrev pub kind_read : List ℕ → Result Kind ImageFault
kind_read s = result_and (unless {X = Unit {0}} (length_fault (length s)) tt) (ok_or (kind_numbered (header_in s).kind) KindFault)

-- what a header without a fault keeps to
pub record Sound (kind len : ℕ) (h : Header) : Type 0 where
  pub of_kind : h.kind ≡ kind
  pub some_rows : 1 ≤ h.span
  pub few_rows : h.span ≤ 3000
  pub held_within : h.held ≤ h.span
  pub head_next : h.held < h.span → h.head ≡ h.held
  pub head_round : h.held ≡ h.span → h.head < h.span
  pub rows_after : h.offset ≡ 24
  pub whole : h.total ≡ 24 + 20 * h.span
  pub long : len ≡ h.total
