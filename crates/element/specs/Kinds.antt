-- The numbers of the kinds. Assumes nothing.
use Rattle.std.specs.Prelude.{◌≡◌, ℕ, cond, Some, None, Option, Result, IfErr, ◌==◌}
use Rattle.std.specs.Result.{result_ok}
use Rattle.element.specs.declared.kind.Kind.{Kind}
use Rattle.element.specs.declared.kind.UnknownKind.{UnknownKind}
use Rattle.element.specs.declared.kind.Kind.TheVariants.{Min, Max, Last, Mean}

abbrev pub number_of_kind : Kind → ℕ
number_of_kind Min = 1
number_of_kind Max = 2
number_of_kind Last = 3
number_of_kind Mean = 4

abbrev pub kind_numbered : ℕ → Option Kind
kind_numbered n = cond (n == 1) (Some Min) (cond (n == 2) (Some Max) (cond (n == 3) (Some Last) (cond (n == 4) (Some Mean) None)))

-- the kind with a number; where there is none, the number is handed back
abbrev pub Numbers : ℕ → Result Kind UnknownKind → Type 0
Numbers n r = (result_ok r ≡ kind_numbered n) × IfErr r (λ e. e.0 ≡ n)
