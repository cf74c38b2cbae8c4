use Rattle.std.specs.Prelude.{◌≡◌, ◌<◌}
use Rattle.order_permutation.specs.laws.Blocks.{sum_to}
use Rattle.order_permutation.specs.laws.Drawing.{Drawing}
use Rattle.order_permutation.proofs.draw.Given as goal

abbrev pub invariant-loop-k : goal.invariant-loop-k
invariant-loop-k l = Drawing l.span l.size l.skip l.digits l.initial.list l.count l.list l.k × (l.spot.block < 64) × (l.spot.before ≡ sum_to l.spot.block l.count)
