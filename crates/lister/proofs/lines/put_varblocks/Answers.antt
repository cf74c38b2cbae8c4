use mathlib.Core.List.{[], ◌++◌}
use Rattle.lister.specs.laws.Lines.{lines_left, lines_start, lines_next, lines_turn, lines_end, goes_start, goes_same, goes_on, goes_far, goes_end}
use Rattle.lister.specs.laws.Texts.{line_at}
use Rattle.text.specs.Text.{Puts}
use mathlib.Core.List.{List}
use mathlib.Core.Path.{subst}
use native.Mathlib.Omega.{arith}
use mathlib.Core.Path.{◌≡◌, ◌∙◌, ap, sym}
use mathlib.Core.List.{◌++◌}
use Prim.Native.Nat.{ℕ, ◌+◌}
use Rattle.lister.proofs.lines.put_varblocks.Goals as goal

pub loop-y-init : goal.loop-y-init
loop-y-init c =
    let a = c.args in
    (omega arith, omega arith, goes_start a.out.now (lines_left a.bw a.kinds.now a.hf_mul.now a.bh 0 0) a.at)

pub loop-x-init : goal.loop-x-init
loop-x-init c =
    let a = c.args in
    let o = c.loop-y in
    (o.invariant.0, omega arith, goes_start o.out (lines_left a.bw a.kinds.now a.hf_mul.now a.bh 0 o.y) o.to)

pub loop-x-preserved : goal.loop-x-preserved
loop-x-preserved c =
    let a = c.args in
    let o = c.loop-y in
    let l = c.loop-x in
    let e = lines_next a.bw a.kinds.now a.hf_mul.now a.bh l.x o.y (omega arith) (omega arith) in
    let s = goes_same o.out (lines_left a.bw a.kinds.now a.hf_mul.now a.bh 0 o.y) l.out (lines_left a.bw a.kinds.now a.hf_mul.now a.bh l.x o.y) (line_at a.bw a.kinds.now a.hf_mul.now l.x o.y ++ lines_left a.bw a.kinds.now a.hf_mul.now a.bh (l.x + 1) o.y) o.to l.to e l.invariant.2 in
    (omega (arith, c.put_block-to.ensures.place), omega arith, goes_on o.out (lines_left a.bw a.kinds.now a.hf_mul.now a.bh 0 o.y) l.out c.put_block-to.new.out (line_at a.bw a.kinds.now a.hf_mul.now l.x o.y) (lines_left a.bw a.kinds.now a.hf_mul.now a.bh (l.x + 1) o.y) o.to l.to c.put_block-to.result s c.put_block-to.ensures)

pub loop-y-preserved : goal.loop-y-preserved
loop-y-preserved c =
    let a = c.args in
    let o = c.loop-y in
    let l = c.loop-x in
    let x : l.x ≡ a.bw = omega arith in
    let e = ap (λ (z : ℕ). lines_left a.bw a.kinds.now a.hf_mul.now a.bh z o.y) x ∙ lines_turn a.bw a.kinds.now a.hf_mul.now a.bh o.y (omega arith) in
    let f = goes_far a.out.now (lines_left a.bw a.kinds.now a.hf_mul.now a.bh 0 0) o.out (lines_left a.bw a.kinds.now a.hf_mul.now a.bh 0 o.y) l.out (lines_left a.bw a.kinds.now a.hf_mul.now a.bh l.x o.y) a.at o.to l.to o.invariant.2 l.invariant.2 in
    (l.invariant.0, omega arith, goes_same a.out.now (lines_left a.bw a.kinds.now a.hf_mul.now a.bh 0 0) l.out (lines_left a.bw a.kinds.now a.hf_mul.now a.bh l.x o.y) (lines_left a.bw a.kinds.now a.hf_mul.now a.bh 0 (o.y + 1)) a.at l.to e f)

pub returns : goal.returns
returns c =
    let a = c.args in
    let o = c.loop-y in
    let y : o.y ≡ a.bh = omega arith in
    let e = ap (λ (z : ℕ). lines_left a.bw a.kinds.now a.hf_mul.now a.bh 0 z) y ∙ lines_end a.bw a.kinds.now a.hf_mul.now a.bh in
    let f = goes_end a.out.now (lines_left a.bw a.kinds.now a.hf_mul.now a.bh 0 0) o.out a.at o.to o.invariant.0 (goes_same a.out.now (lines_left a.bw a.kinds.now a.hf_mul.now a.bh 0 0) o.out (lines_left a.bw a.kinds.now a.hf_mul.now a.bh 0 o.y) [] a.at o.to e o.invariant.2) in
    subst (λ (s : List ℕ). Puts a.out.now a.at s o.out o.to) (sym (lines_start a.bw a.kinds.now a.hf_mul.now a.bh)) f
