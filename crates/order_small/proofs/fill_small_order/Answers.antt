use Rattle.order_natural.specs.laws.Filling.{SizeKnown}
use Rattle.order_natural.proofs.laws.Filling.{size_known, no_room, laid_filled}
use Rattle.order_small.specs.laws.Small.{no_small, as_any, first_long, first_laid}
use native.Mathlib.Omega.{arith}
use mathlib.Core.Path.{refl}
use mathlib.Core.Bool.{true, false}
use Rattle.order_small.proofs.fill_small_order.Goals.{After-block_size-size}
use Rattle.order_small.proofs.fill_small_order.Goals as goal

-- the order's size
size : (c : After-block_size-size) → SizeKnown c.block_size-size.result
size c = size_known c.args.order c.block_size-size.result c.block_size-size.ensures (omega arith)

pub returns-then-order-ge7 : goal.returns-then-order-ge7
returns-then-order-ge7 c = let a = c.args in no_small a.lists.now a.order (omega arith)

pub returns-then-lists-n : goal.returns-then-lists-n
returns-then-lists-n c =
    let a = c.args in
    as_any a.lists.now a.order (omega arith) false a.lists.now (no_room a.lists.now a.order (omega arith) c.block_size-size.result c.block_size-size.ensures c.if-lists-n.true)

pub put_small-requires : goal.put_small-requires
put_small-requires c =
    let a = c.args in
    (omega arith, first_long a.lists.now a.order c.block_size-size.result c.block_size-size.ensures (omega arith) c.if-lists-n.false)

pub returns : goal.returns
returns c =
    let a = c.args in
    let l = first_laid a.lists.now a.order c.block_size-size.result c.block_size-size.ensures (omega arith) c.if-lists-n.false c.put_small.new.list _ c.put_small.ensures.0 refl in
    as_any a.lists.now a.order (omega arith) true c.copy_twice.new.lists (laid_filled a.lists.now a.order (omega arith) c.block_size-size.result c.block_size-size.ensures _ c.copy_twice.new.lists c.if-lists-n.false l c.copy_twice.ensures)

pub overflow_mul-n : goal.overflow_mul-n
overflow_mul-n c = omega (arith, (size (goal.at.overflow_mul-n c).After-block_size-size).most)

pub overflow_mul-n-2 : goal.overflow_mul-n-2
overflow_mul-n-2 c = omega (arith, (size (goal.at.overflow_mul-n-2 c).After-block_size-size).most)

pub overflow_mul-n-3 : goal.overflow_mul-n-3
overflow_mul-n-3 c = omega (arith, (size (goal.at.overflow_mul-n-3 c).After-block_size-size).most)
