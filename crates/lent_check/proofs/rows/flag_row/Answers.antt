use mathlib.Core.Path.{◌∙◌}
use Prim.Native.Nat.{◌≤◌, ◌+◌, ◌*◌}
use native.Mathlib.Nat.{mul-le-mul}
use lib.Arith.{digits_lt}
use lib.ListN.{length-set}
use native.Mathlib.Omega.{arith}
use Rattle.layout.specs.Grid.{block_at}
use Rattle.lent_check.specs.laws.Listing.{flagged_next}
use Rattle.lent_check.proofs.rows.flag_row.Goals as goal

pub overflow_mul-start : goal.overflow_mul-start
overflow_mul-start c =
    let a = c.args in
    let p = c.requires in
    let h : a.y ≤ 256 = omega arith in
    let m : a.y * a.bw ≤ 256 * 256 = mul-le-mul h p.0 in
    omega arith

pub loop-x-init : goal.loop-x-init
loop-x-init c = (c.requires.3, λ i h. absurd (omega arith))

pub overflow_add-start : goal.overflow_add-start
overflow_add-start c =
    let a = c.args in
    let d = digits_lt {q = a.y} {m = a.y + 1} {r = c.loop-x.x} {c = a.bw} (omega arith) (omega arith) in
    omega arith

pub bounds-kinds-start : goal.bounds-kinds-start
bounds-kinds-start c =
    let a = c.args in
    let d = digits_lt {q = a.y} {m = a.y + 1} {r = c.loop-x.x} {c = a.bw} (omega arith) (omega arith) in
    omega arith

pub loop-x-preserved : goal.loop-x-preserved
loop-x-preserved c =
    let a = c.args in
    let l = c.loop-x in
    (length-set l.flags l.x c.larger.result ∙ l.invariant.0, flagged_next (block_at a.kinds.now a.bw) a.y l.x c.larger.result l.flags (omega (arith, l.invariant.0)) c.larger.ensures l.invariant.1)

pub returns : goal.returns
returns c = λ i h. c.loop-x.invariant.1 i (omega arith)
