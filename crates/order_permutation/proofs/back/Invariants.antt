use Rattle.std.specs.Prelude.{◌≡◌, ◌<◌}
use Rattle.order_permutation.specs.laws.Blocks.{sum_to}
use Rattle.order_permutation.proofs.back.Given as goal

abbrev pub invariant-loop-before : goal.invariant-loop-before
invariant-loop-before l = (l.block < 64) × (l.before ≡ sum_to l.block l.count)

abbrev pub decreases-loop-before : goal.decreases-loop-before
decreases-loop-before l = l.block
