use Rattle.std.specs.Prelude.{◌≡◌, ◌≤◌, ◌-◌}
use Rattle.order_permutation.specs.laws.Blocks.{sum_to}
use Rattle.order_permutation.proofs.find.Given as goal

abbrev pub invariant-loop-before : goal.invariant-loop-before
invariant-loop-before l = (l.before ≡ sum_to l.block l.count) × (l.before ≤ l.d)

abbrev pub decreases-loop-before : goal.decreases-loop-before
decreases-loop-before l = 64 - l.block
