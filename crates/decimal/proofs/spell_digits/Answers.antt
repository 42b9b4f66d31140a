use Rattle.std.proofs.Common.{◌++◌, decimal, sym, ap, ◌∙◌, append-nil, arith}
use Rattle.std.proofs.lemmas.List.{drop_all, length-set}
use Rattle.decimal.proofs.Spelling.{Left, left, fills}
use Rattle.decimal.proofs.spell_digits.Goals as goal
use Rattle.decimal.proofs.spell_digits.Goals.{At-loop-rest}

here : (c : At-loop-rest) → Left c.args.value c.loop-rest.rest c.loop-rest.start c.loop-rest.scratch
here c = left _ _ _ _ (omega arith) (omega arith) c.loop-rest.invariant.0 c.loop-rest.invariant.1 c.loop-rest.invariant.3

pub loop-rest-init : goal.loop-rest-init
loop-rest-init c = (
  c.told-scratch,
  omega arith,
  omega arith,
  sym (ap (λ l. decimal c.args.value ++ l) (drop_all 20 c.args.scratch.now (omega arith)) ∙ append-nil _),
)

pub overflow_sub-start : goal.overflow_sub-start
overflow_sub-start c = (here c).some

pub returns-then-rest-eq0 : goal.returns-then-rest-eq0
returns-then-rest-eq0 c =
    let spelled = (here (goal.at.returns-then-rest-eq0 c).At-loop-rest).done (omega arith) in
    record { text = spelled; start = fills _ _ _ (simp length-set (omega arith)) (omega arith) spelled }

pub loop-rest-preserved : goal.loop-rest-preserved
loop-rest-preserved c =
    (simp length-set (omega arith), omega arith, omega arith, (here (goal.at.loop-rest-preserved c).At-loop-rest).more (omega arith))
