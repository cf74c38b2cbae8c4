use Rattle.order_sizes.specs.BlockSizes.{BLOCK_SIZES, width_of, height_of}
use Rattle.order_natural.specs.Natural.{natural}
use Rattle.order_small.specs.laws.Coordinates.{coordinate_of}
use Rattle.order_small.specs.laws.Small.{as_many, as_order}
use Rattle.std.proofs.Common.{◌≡◌, arith}
use Rattle.order_small.proofs.put_small.Goals as goal

-- each stretch has as many digits as its order has numbers, and they stand for these: both sides are computed
pub put_stretch-requires : goal.put_stretch-requires
unfolding BLOCK_SIZES width_of height_of natural coordinate_of
put_stretch-requires c = as_many 0 c.in-0.is c.requires.1

pub put_stretch-requires-in-1 : goal.put_stretch-requires-in-1
unfolding BLOCK_SIZES width_of height_of natural coordinate_of
put_stretch-requires-in-1 c = as_many 1 c.in-1.is c.requires.1

pub put_stretch-requires-in-2 : goal.put_stretch-requires-in-2
unfolding BLOCK_SIZES width_of height_of natural coordinate_of
put_stretch-requires-in-2 c = as_many 2 c.in-2.is c.requires.1

pub put_stretch-requires-in-3 : goal.put_stretch-requires-in-3
unfolding BLOCK_SIZES width_of height_of natural coordinate_of
put_stretch-requires-in-3 c = as_many 3 c.in-3.is c.requires.1

pub put_stretch-requires-in-4 : goal.put_stretch-requires-in-4
unfolding BLOCK_SIZES width_of height_of natural coordinate_of
put_stretch-requires-in-4 c = as_many 4 c.in-4.is c.requires.1

pub put_stretch-requires-in-5 : goal.put_stretch-requires-in-5
unfolding BLOCK_SIZES width_of height_of natural coordinate_of
put_stretch-requires-in-5 c = as_many 5 c.in-5.is c.requires.1

pub put_stretch-requires-in_default : goal.put_stretch-requires-in_default
unfolding BLOCK_SIZES width_of height_of natural coordinate_of
put_stretch-requires-in_default c = let six : c.args.order ≡ 6 = omega arith in as_many 6 six c.requires.1

pub returns-in-0 : goal.returns-in-0
unfolding BLOCK_SIZES width_of height_of natural coordinate_of
returns-in-0 c = as_order 0 c.in-0.is (omega arith) c.put_stretch.ensures

pub returns-in-1 : goal.returns-in-1
unfolding BLOCK_SIZES width_of height_of natural coordinate_of
returns-in-1 c = as_order 1 c.in-1.is (omega arith) c.put_stretch-in-1.ensures

pub returns-in-2 : goal.returns-in-2
unfolding BLOCK_SIZES width_of height_of natural coordinate_of
returns-in-2 c = as_order 2 c.in-2.is (omega arith) c.put_stretch-in-2.ensures

pub returns-in-3 : goal.returns-in-3
unfolding BLOCK_SIZES width_of height_of natural coordinate_of
returns-in-3 c = as_order 3 c.in-3.is (omega arith) c.put_stretch-in-3.ensures

pub returns-in-4 : goal.returns-in-4
unfolding BLOCK_SIZES width_of height_of natural coordinate_of
returns-in-4 c = as_order 4 c.in-4.is (omega arith) c.put_stretch-in-4.ensures

pub returns-in-5 : goal.returns-in-5
unfolding BLOCK_SIZES width_of height_of natural coordinate_of
returns-in-5 c = as_order 5 c.in-5.is (omega arith) c.put_stretch-in-5.ensures

pub returns-in_default : goal.returns-in_default
unfolding BLOCK_SIZES width_of height_of natural coordinate_of
returns-in_default c = let six : c.args.order ≡ 6 = omega arith in as_order 6 six (omega arith) c.put_stretch-in_default.ensures
