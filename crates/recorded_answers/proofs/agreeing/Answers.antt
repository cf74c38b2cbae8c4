use Rattle.std.proofs.Common.{◌≡◌, length, sym, ◌∙◌, arith}
use Rattle.recorded_answers.specs.laws.Compare.{common_step, common_differs, common_short, common_end}
use Rattle.recorded_answers.proofs.agreeing.Goals as goal

pub loop-i-init : goal.loop-i-init
loop-i-init c = (omega arith, omega arith)

pub returns-then-theirs-i-clause-value : goal.returns-then-theirs-i-clause-value
returns-then-theirs-i-clause-value c =
    let a = c.args in sym (common_short a.theirs.now a.mine.now c.loop-i.i (omega arith)) ∙ c.loop-i.invariant.1

pub returns-then-theirs-i-2-clause-value : goal.returns-then-theirs-i-2-clause-value
returns-then-theirs-i-2-clause-value c =
    let a = c.args in
    sym (common_differs a.theirs.now a.mine.now c.loop-i.i (omega arith) (omega arith) c.if-theirs-i-2.true) ∙ c.loop-i.invariant.1

pub loop-i-preserved : goal.loop-i-preserved
loop-i-preserved c =
    let a = c.args in
    (omega arith, sym (common_step a.theirs.now a.mine.now c.loop-i.i (omega arith) (omega arith) c.if-theirs-i-2.false) ∙ c.loop-i.invariant.1)

pub returns-clause-value : goal.returns-clause-value
returns-clause-value c =
    let a = c.args in
    let l = c.loop-i in
    let e : length a.mine.now ≡ l.i = omega arith in
    e ∙ sym (common_end a.theirs.now a.mine.now l.i (omega arith)) ∙ l.invariant.1
