use mathlib.Core.Path.{refl, ◌∙◌, sym}
use Prim.Native.Nat.{◌+◌, ◌*◌, ◌<◌}
use lib.Arith.{digits_lt}
use lib.ListN.{length-set}
use Rattle.lent_cut.proofs.laws.CutSteps.{copy_start}
use Rattle.layout.proofs.laws.Fill.{write}
use Rattle.layout.proofs.laws.Loops.{loop_enter, loop_next, loop_leave, loop_finish}
use borrow.Author.Rules.{rules}
use native.Mathlib.Omega.{arith}
use Rattle.lent_cut.proofs.cut.copy_cells.Invariants.{from}
use Rattle.lent_cut.proofs.cut.copy_cells.Goals.{In-loop-x}
use Rattle.lent_cut.proofs.cut.copy_cells.Goals as goal

-- the cell is in the layout, and its place in the group
inside : (c : In-loop-x) → let a = c.args in let x = c.loop-x.x in let y = c.loop-y.y in
    ((a.first_y + y) * a.bw + (a.first_x + x) < (a.first_y + a.group_bh) * a.bw) × (y * a.group_bw + x < a.group_bh * a.group_bw)
inside c =
    let a = c.args in
    let x = c.loop-x.x in
    let y = c.loop-y.y in
    (digits_lt {q = a.first_y + y} {m = a.first_y + a.group_bh} {r = a.first_x + x} {c = a.bw} (omega arith) (omega arith), digits_lt {q = y} {m = a.group_bh} {r = x} {c = a.group_bw} (omega arith) (omega arith))

pub loop-y-init : goal.loop-y-init
loop-y-init c =
    let a = c.args in
    let k = from a.kinds.now a.bw a.first_x a.first_y in
    let m = from a.hf_mul.now a.bw a.first_x a.first_y in
    (omega arith, omega arith, copy_start k a.group_bw a.group_bh a.out_kinds.now (omega arith), copy_start m a.group_bw a.group_bh a.out_hf_mul.now (omega arith))

pub loop-x-init : goal.loop-x-init
loop-x-init c =
    let a = c.args in
    let o = c.loop-y in
    let k = from a.kinds.now a.bw a.first_x a.first_y in
    let m = from a.hf_mul.now a.bw a.first_x a.first_y in
    (o.invariant.0, o.invariant.1, o.invariant.2 ∙ loop_enter (write k a.group_bw a.group_bh) a.group_bw a.group_bh o.y o.out_kinds (omega arith), o.invariant.3 ∙ loop_enter (write m a.group_bw a.group_bh) a.group_bw a.group_bh o.y o.out_hf_mul (omega arith))

pub overflow_mul-i : goal.overflow_mul-i
overflow_mul-i c = omega (arith, inside (goal.at.overflow_mul-i c).In-loop-x)

pub overflow_add-i-in-loop-x : goal.overflow_add-i-in-loop-x
overflow_add-i-in-loop-x c = omega (arith, inside (goal.at.overflow_add-i-in-loop-x c).In-loop-x)

pub overflow_add-i-in-loop-x-2 : goal.overflow_add-i-in-loop-x-2
overflow_add-i-in-loop-x-2 c = omega (arith, inside (goal.at.overflow_add-i-in-loop-x-2 c).In-loop-x)

pub overflow_mul-j : goal.overflow_mul-j
overflow_mul-j c = omega (arith, inside (goal.at.overflow_mul-j c).In-loop-x)

pub overflow_add-j : goal.overflow_add-j
overflow_add-j c = omega (arith, inside (goal.at.overflow_add-j c).In-loop-x)

pub bounds-kinds-i : goal.bounds-kinds-i
bounds-kinds-i c = omega (arith, inside (goal.at.bounds-kinds-i c).In-loop-x)

pub bounds-out_kinds-j : goal.bounds-out_kinds-j
bounds-out_kinds-j c = omega (arith, inside (goal.at.bounds-out_kinds-j c).In-loop-x)

pub offset_bounds-hf_mul-i : goal.offset_bounds-hf_mul-i
offset_bounds-hf_mul-i c = let d = inside (goal.at.offset_bounds-hf_mul-i c).In-loop-x in search rules

pub bounds-hf_mul-i : goal.bounds-hf_mul-i
bounds-hf_mul-i c = omega (arith, inside (goal.at.bounds-hf_mul-i c).In-loop-x)

pub offset_bounds-out_hf_mul-j : goal.offset_bounds-out_hf_mul-j
offset_bounds-out_hf_mul-j c = let d = inside (goal.at.offset_bounds-out_hf_mul-j c).In-loop-x in search rules

pub bounds-out_hf_mul-j : goal.bounds-out_hf_mul-j
bounds-out_hf_mul-j c = omega (arith, inside (goal.at.bounds-out_hf_mul-j c).In-loop-x)

pub loop-x-preserved : goal.loop-x-preserved
loop-x-preserved c =
    let a = c.args in
    let o = c.loop-y in
    let l = c.loop-x in
    let k = from a.kinds.now a.bw a.first_x a.first_y in
    let m = from a.hf_mul.now a.bw a.first_x a.first_y in (
      length-set l.out_kinds (o.y * a.group_bw + l.x) (k l.x o.y) ∙ l.invariant.0,
      length-set l.out_hf_mul (o.y * a.group_bw + l.x) (m l.x o.y) ∙ l.invariant.1,
      l.invariant.2 ∙ loop_next (write k a.group_bw a.group_bh) a.group_bw a.group_bh o.y l.x l.out_kinds _ (omega arith) refl,
      l.invariant.3 ∙ loop_next (write m a.group_bw a.group_bh) a.group_bw a.group_bh o.y l.x l.out_hf_mul _ (omega arith) refl,
    )

pub loop-y-preserved : goal.loop-y-preserved
loop-y-preserved c =
    let a = c.args in
    let o = c.loop-y in
    let l = c.loop-x in
    let k = from a.kinds.now a.bw a.first_x a.first_y in
    let m = from a.hf_mul.now a.bw a.first_x a.first_y in
    (l.invariant.0, l.invariant.1, l.invariant.2 ∙ loop_leave (write k a.group_bw a.group_bh) a.group_bw a.group_bh o.y l.x l.out_kinds (omega arith), l.invariant.3 ∙ loop_leave (write m a.group_bw a.group_bh) a.group_bw a.group_bh o.y l.x l.out_hf_mul (omega arith))

pub returns : goal.returns
returns c =
    let a = c.args in
    let o = c.loop-y in
    let k = from a.kinds.now a.bw a.first_x a.first_y in
    let m = from a.hf_mul.now a.bw a.first_x a.first_y in
    (sym (o.invariant.2 ∙ loop_finish (write k a.group_bw a.group_bh) a.group_bw a.group_bh o.y o.out_kinds (omega arith)), sym (o.invariant.3 ∙ loop_finish (write m a.group_bw a.group_bh) a.group_bw a.group_bh o.y o.out_hf_mul (omega arith)))
