use Rattle.std.proofs.Common.{rules, ◌≡◌, ◌∙◌, sym, arith, Err}
use Rattle.layout.specs.RowByRow.{row_by_row}
use Rattle.layout.proofs.laws.Loops.{loop_start, loop_enter, loop_next, loop_stop, loop_leave, loop_finish}
use Rattle.layout_placing.specs.Reading.{Job, Going, visit}
use Rattle.layout_reading.specs.laws.Outcome.{job_of, state_of, stepped}
use Rattle.layout_reading.proofs.laws.Places.{stop_stays}
use Rattle.layout_reading.proofs.reading.read_blocks.Goals as goal

pub loop-y-init : goal.loop-y-init
loop-y-init c = loop_start _ _ _ _

pub loop-x-init : goal.loop-x-init
loop-x-init c = c.loop-y.invariant ∙ loop_enter _ _ _ _ _ c.loop-y-test.true

pub returns-in_err-used : goal.returns-in_err-used
returns-in_err-used c =
    let a = c.args in
    let J : Job = job_of a.job.now in
    let e : row_by_row (visit J) J.bw J.bh (Going (state_of 0 a.kinds.now a.hf_mul.now a.sigma.now)) ≡ stepped (Err c.in_err-used.field-0.0) c.visit.new.kinds c.visit.new.hf_mul c.visit.new.sigma =
    c.loop-x.invariant ∙ loop_stop _ _ _ _ _ _ _ (stop_stays J _ c.visit.new.kinds c.visit.new.hf_mul c.visit.new.sigma) c.loop-x-test.true c.in_err-used.ensures in
    rw e (search rules)

pub loop-x-preserved : goal.loop-x-preserved
loop-x-preserved c = c.loop-x.invariant ∙ loop_next _ _ _ _ _ _ _ c.loop-x-test.true c.in_ok-used.ensures

pub loop-y-preserved : goal.loop-y-preserved
loop-y-preserved c = c.loop-x.invariant ∙ loop_leave _ _ _ _ _ _ (omega arith)

pub returns : goal.returns
returns c = sym (c.loop-y.invariant ∙ loop_finish _ _ _ _ _ (omega arith))
