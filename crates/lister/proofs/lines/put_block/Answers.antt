use Rattle.text.specs.laws.Text.{puts_none}
use Rattle.layout.specs.Grid.{block_at}
use borrow.Author.Tests.{le-leb, lt-leb}
use lib.Arith.{digits_lt}
use native.Mathlib.Omega.{arith}
use Rattle.lister.proofs.lines.put_block.Goals as goal

pub overflow_mul-i : goal.overflow_mul-i
overflow_mul-i c =
    let a = c.args in
    omega (arith, digits_lt {q = a.y} {m = a.bh} {r = a.x} {c = a.bw} (omega arith) (omega arith))

pub overflow_add-i : goal.overflow_add-i
overflow_add-i c =
    let a = c.args in
    omega (arith, digits_lt {q = a.y} {m = a.bh} {r = a.x} {c = a.bw} (omega arith) (omega arith))

pub bounds-kinds-i : goal.bounds-kinds-i
bounds-kinds-i c =
    let a = c.args in
    omega (arith, digits_lt {q = a.y} {m = a.bh} {r = a.x} {c = a.bw} (omega arith) (omega arith))

pub returns-then-kind-lt2 : goal.returns-then-kind-lt2
returns-then-kind-lt2 c =
    let a = c.args in
    rw (lt-leb 2 (block_at a.kinds.now a.bw a.x a.y) c.if-kind-lt2.true) (puts_none a.out.now a.at (omega arith))

pub offset_bounds-hf_mul-i : goal.offset_bounds-hf_mul-i
offset_bounds-hf_mul-i c =
    let a = c.args in
    omega (arith, digits_lt {q = a.y} {m = a.bh} {r = a.x} {c = a.bw} (omega arith) (omega arith))

pub bounds-hf_mul-i : goal.bounds-hf_mul-i
bounds-hf_mul-i c =
    let a = c.args in
    omega (arith, digits_lt {q = a.y} {m = a.bh} {r = a.x} {c = a.bw} (omega arith) (omega arith))

pub returns : goal.returns
returns c =
    let a = c.args in
    rw (le-leb 2 (block_at a.kinds.now a.bw a.x a.y) c.if-kind-lt2.false) (rw c.from.ensures at c.put_varblock.ensures)
