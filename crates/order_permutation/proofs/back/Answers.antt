use Rattle.std.proofs.Common.{arith}
use Rattle.order_permutation.specs.laws.Blocks.{sum_back}
use Rattle.order_permutation.proofs.back.Goals as goal

pub overflow_sub-block : goal.overflow_sub-block
overflow_sub-block c = let k = sum_back c.args.count.now c.loop-before.block c.args.d (omega (arith, c.requires.0, c.loop-before.invariant.0)) (omega (arith, c.loop-before.invariant.1)) in omega (arith, k.0)

pub overflow_sub-before : goal.overflow_sub-before
overflow_sub-before c = let k = sum_back c.args.count.now c.loop-before.block c.args.d (omega (arith, c.requires.0, c.loop-before.invariant.0)) (omega (arith, c.loop-before.invariant.1)) in omega (arith, k.1, c.from-before.ensures, c.loop-before.invariant.1)

pub loop-before-smaller : goal.loop-before-smaller
loop-before-smaller c = let k = sum_back c.args.count.now c.loop-before.block c.args.d (omega (arith, c.requires.0, c.loop-before.invariant.0)) (omega (arith, c.loop-before.invariant.1)) in omega (arith, k.0)

pub loop-before-preserved : goal.loop-before-preserved
loop-before-preserved c =
    let k = sum_back c.args.count.now c.loop-before.block c.args.d (omega (arith, c.requires.0, c.loop-before.invariant.0)) (omega (arith, c.loop-before.invariant.1)) in
    (omega (arith, c.loop-before.invariant.0), omega (arith, k.1, c.from-before.ensures, c.loop-before.invariant.1))
