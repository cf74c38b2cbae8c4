use Rattle.std.proofs.Common.{rules, ◌≡◌, refl, ◌∙◌, sym, arith, Ok}
use Rattle.layout.proofs.laws.Loops.{loop_enter, loop_next, loop_stop, loop_leave, loop_finish}
use Rattle.layout_placing.proofs.laws.Cells.{scan_start}
use Rattle.layout_reading.proofs.laws.ScanSteps.{refusal_stays}
use Rattle.layout_reading.proofs.scan.scan.Goals as goal

pub rows-init : goal.rows-init
rows-init c = let a = c.args in (refl, scan_start a.job.now.bw a.job.now.bh a.divided a.job.now.lookups.now a.job.now.sharpness.now a.x a.y a.w a.h _)

pub loop-dx-init : goal.loop-dx-init
loop-dx-init c = (c.rows.invariant.0, c.rows.invariant.1 ∙ loop_enter _ _ _ _ _ c.rows-test.true)

pub loop-dx-preserved : goal.loop-dx-preserved
loop-dx-preserved c =
    let e : c.take_cell-outcome.result ≡ Ok tt = search rules in
    (e, c.loop-dx.invariant.1 ∙ loop_next _ _ _ _ _ _ _ c.loop-dx-test.true (rw e at c.take_cell-outcome.ensures))

pub rows-preserved : goal.rows-preserved
rows-preserved c = (c.loop-dx.invariant.0, c.loop-dx.invariant.1 ∙ loop_leave _ _ _ _ _ _ (omega arith))

pub returns-then-is_err : goal.returns-then-is_err
returns-then-is_err c =
    let a = c.args in
    sym
    (c.loop-dx.invariant.1
    ∙ loop_stop _ _ _ _ _ _ _ (refusal_stays a.job.now.bw a.job.now.bh a.divided a.job.now.lookups.now a.job.now.sharpness.now c.take_cell-outcome.result _ _ a.x a.y (search rules)) c.loop-dx-test.true c.take_cell-outcome.ensures)

pub returns-after-rows : goal.returns-after-rows
returns-after-rows c = rw c.rows.invariant.0 (sym (c.rows.invariant.1 ∙ loop_finish _ _ _ _ _ (omega arith)))
