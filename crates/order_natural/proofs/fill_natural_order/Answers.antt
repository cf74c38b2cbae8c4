use Rattle.order_natural.specs.laws.Filling.{SizeKnown}
use Rattle.order_natural.proofs.laws.Filling.{size_known, no_order, no_room, laid_filled}
use Rattle.std.proofs.Common.{arith}
use Rattle.order_natural.proofs.fill_natural_order.Goals.{After-block_size-size}
use Rattle.order_natural.proofs.fill_natural_order.Goals as goal

-- the order's size
size : (c : After-block_size-size) → SizeKnown c.block_size-size.result
size c = size_known c.args.order c.block_size-size.result c.block_size-size.ensures (omega arith)

pub returns-then-lists-size : goal.returns-then-lists-size
returns-then-lists-size c =
    let a = c.args in
    no_room a.lists.now a.order (omega arith) c.block_size-size.result c.block_size-size.ensures c.if-lists-size.true

pub put_natural-requires : goal.put_natural-requires
put_natural-requires c = let s = size (goal.at.put_natural-requires c).After-block_size-size in (s.size, s.narrow, omega (arith, s.least, c.if-lists-size.false))

pub returns : goal.returns
returns c =
    let a = c.args in
    laid_filled a.lists.now a.order (omega arith) c.block_size-size.result c.block_size-size.ensures c.put_natural.new.list c.copy_twice.new.lists c.if-lists-size.false c.put_natural.ensures c.copy_twice.ensures

pub returns-then-order-ge13 : goal.returns-then-order-ge13
returns-then-order-ge13 c = let a = c.args in no_order a.lists.now a.order c.if-order-ge13.true

pub overflow_mul-size : goal.overflow_mul-size
overflow_mul-size c = omega (arith, (size (goal.at.overflow_mul-size c).After-block_size-size).most)

pub overflow_mul-size-2 : goal.overflow_mul-size-2
overflow_mul-size-2 c = omega (arith, (size (goal.at.overflow_mul-size-2 c).After-block_size-size).most)

pub overflow_mul-size-3 : goal.overflow_mul-size-3
overflow_mul-size-3 c = omega (arith, (size (goal.at.overflow_mul-size-3 c).After-block_size-size).most)
