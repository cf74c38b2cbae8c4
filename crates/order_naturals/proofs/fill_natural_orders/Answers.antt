use Rattle.order_naturals.specs.Naturals.{naturals}
use Rattle.order_naturals.specs.laws.Naturals.{from_order, order_start, order_turn, order_at, order_laid, all_written, none_written}
use Rattle.order_natural.specs.laws.Filling.{three_of}
use Rattle.laws.specs.laws.Lists.{part_long}
use Rattle.laws.specs.laws.Laid.{halfway_start, halfway_turn}
use borrow.Rule.Slice.PartMut.{put_mid}
use mathlib.Core.Path.{refl, ◌≡◌, ◌∙◌, sym}
use Rattle.order_store.specs.Store.{stored}
use Rattle.order_store.specs.laws.Offsets.{first_start}
use Rattle.order_sizes.specs.BlockSizes.{BLOCK_SIZES}
use borrow.Author.Rules.{rules}
use native.Mathlib.Omega.{arith}
use Prim.Native.Nat.{◌≤◌, ◌-◌, ◌+◌, ◌*◌}
use lib.ListN.{length}
use Rattle.order_naturals.proofs.fill_natural_orders.Goals.{After-block_size-size}
use Rattle.order_naturals.proofs.fill_natural_orders.Goals as goal

pub returns-then-store-ne-NUMBERS : goal.returns-then-store-ne-NUMBERS
returns-then-store-ne-NUMBERS c = none_written c.args.store.now c.if-store-ne-NUMBERS.true

pub loop-k-init : goal.loop-k-init
loop-k-init c = (c.if-store-ne-NUMBERS.false, c.if-store-ne-NUMBERS.false, sym first_start, rw order_start (halfway_start c.args.store.now 0 (stored (naturals BLOCK_SIZES))))

-- the three lists of an order end inside the store
room : (c : After-block_size-size) → let s = c.block_size-size.result in (c.loop-k.first + 3 * (2 * (s.width * s.height)) ≤ 787968) × (length c.loop-k.store ≡ 787968)
room c = let l = c.loop-k in ((order_at l.k (omega arith) c.block_size-size.result c.block_size-size.ensures l.first l.invariant.2).room, l.invariant.0)

pub fill_order-requires : goal.fill_order-requires
fill_order-requires c =
    let l = c.loop-k in
    let o = order_at l.k (omega arith) c.block_size-size.result c.block_size-size.ensures l.first l.invariant.2 in
    (omega arith, part_long l.store l.first (l.first + 3 * (2 * (c.block_size-size.result.width * c.block_size-size.result.height))) (omega arith) (omega (arith, o.room, l.invariant.0)) ∙ omega (arith, o.size))

pub loop-k-preserved : goal.loop-k-preserved
loop-k-preserved c =
    let l = c.loop-k in
    let o = order_at l.k (omega arith) c.block_size-size.result c.block_size-size.ensures l.first l.invariant.2 in
    let e = l.first + 3 * (2 * (c.block_size-size.result.width * c.block_size-size.result.height)) in
    let st = put_mid l.first (e - l.first) l.store c.fill_order.new.lists in
    let p = order_laid l.k (omega arith) c.block_size-size.result c.block_size-size.ensures l.first l.invariant.2 l.store st l.invariant.0 c.fill_order.new.lists c.fill_order.ensures refl in
    (search rules, l.invariant.1, o.next, halfway_turn c.args.store.now l.store st 0 (stored (naturals BLOCK_SIZES)) l.first e (three_of l.k) (from_order (l.k + 1)) (from_order l.k) (order_turn l.k (omega arith)) l.invariant.3 p)

pub returns : goal.returns
returns c =
    let l = c.loop-k in
    all_written l.store c.args.store.now l.k l.first (omega arith) l.invariant.1 l.invariant.3

pub overflow_mul-e : goal.overflow_mul-e
overflow_mul-e c = omega (arith, room (goal.at.overflow_mul-e c).After-block_size-size)

pub overflow_mul-e-in-loop-k : goal.overflow_mul-e-in-loop-k
overflow_mul-e-in-loop-k c = omega (arith, room (goal.at.overflow_mul-e-in-loop-k c).After-block_size-size)

pub overflow_mul-e-in-loop-k-2 : goal.overflow_mul-e-in-loop-k-2
overflow_mul-e-in-loop-k-2 c = omega (arith, room (goal.at.overflow_mul-e-in-loop-k-2 c).After-block_size-size)

pub overflow_add-e : goal.overflow_add-e
overflow_add-e c = omega (arith, room (goal.at.overflow_add-e c).After-block_size-size)

pub offset_bounds-store-first : goal.offset_bounds-store-first
offset_bounds-store-first c = omega (arith, room (goal.at.offset_bounds-store-first c).After-block_size-size)

pub slice_bounds-fill_order-end : goal.slice_bounds-fill_order-end
slice_bounds-fill_order-end c = omega (arith, room (goal.at.slice_bounds-fill_order-end c).After-block_size-size)
