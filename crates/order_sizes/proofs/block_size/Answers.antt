use Rattle.order_sizes.specs.BlockSizes.{BLOCK_SIZES}
use Rattle.order_sizes.specs.laws.BlockSizes.{block_size_at, block_size_beyond}
use borrow.Author.Rules.{rules}
use native.Mathlib.Omega.{arith}
use Rattle.order_sizes.proofs.block_size.Goals as goal

pub returns-then-order-lt13 : goal.returns-then-order-lt13
unfolding BLOCK_SIZES
returns-then-order-lt13 c = block_size_at c.args.order

pub returns-else-order-lt13 : goal.returns-else-order-lt13
returns-else-order-lt13 c = block_size_beyond c.args.order (omega arith)
