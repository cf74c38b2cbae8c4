use mathlib.Core.Path.{◌∙◌, ap, sym}
use Prim.Native.Nat.{ℕ, ◌≤◌, ◌-◌, ◌+◌, ◌*◌, max}
use native.Mathlib.Nat.{mul-le-mul}
use lib.Arith.{digits_lt}
use lib.ListN.{get_or, set}
use native.Mathlib.Omega.{arith}
use Rattle.layout.specs.Grid.{block_at}
use Rattle.lent_check.specs.laws.Closing.{closing, close_start, close_next, close_end}
use Rattle.lent_check.proofs.laws.Most.{most}
use Rattle.lent_check.proofs.rows.close_row.Goals as goal

pub overflow_mul-start : goal.overflow_mul-start
overflow_mul-start c =
    let a = c.args in
    let p = c.requires in
    let h : a.y ≤ 256 = omega arith in
    let m : a.y * a.bw ≤ 256 * 256 = mul-le-mul h p.0 in
    omega arith

pub loop-x-init : goal.loop-x-init
loop-x-init c = let a = c.args in close_start a.bw (block_at a.kinds.now a.bw) a.y a.depth.now

pub overflow_add-start : goal.overflow_add-start
overflow_add-start c =
    let a = c.args in
    let d = digits_lt {q = a.y} {m = a.y + 1} {r = c.loop-x.x} {c = a.bw} (omega arith) (omega arith) in
    omega arith

pub bounds-kinds-start : goal.bounds-kinds-start
bounds-kinds-start c =
    let a = c.args in
    let d = digits_lt {q = a.y} {m = a.y + 1} {r = c.loop-x.x} {c = a.bw} (omega arith) (omega arith) in
    omega arith

pub loop-x-preserved : goal.loop-x-preserved
loop-x-preserved c =
    let a = c.args in
    let l = c.loop-x in
    let k = block_at a.kinds.now a.bw in
    let v = get_or l.depth l.x 0 in
    let e = c.max-gaps.ensures ∙ most l.gaps _ ∙ ap (max l.gaps) c.gap.ensures in
    l.invariant ∙ close_next a.bw k a.y l.gaps l.x l.depth (omega arith)
    ∙ ap (λ (m : ℕ). closing a.bw k a.y m (l.x + 1) (set l.depth l.x (v - 1))) (sym e)
    ∙ ap (λ (m : ℕ). closing a.bw k a.y c.max-gaps.result (l.x + 1) (set l.depth l.x m)) (sym c.saturating_sub.ensures)

pub returns : goal.returns
returns c =
    let a = c.args in
    let l = c.loop-x in
    sym (l.invariant ∙ close_end a.bw (block_at a.kinds.now a.bw) a.y l.gaps l.x l.depth (omega arith))
