use Rattle.std.specs.Prelude.{◌≡◌, ◌&&◌, drop}
use Rattle.order_permutation.specs.laws.Permuted.{all_below}
use Rattle.order_permutation.proofs.all_below.Given as goal

abbrev pub invariant-loop-x : goal.invariant-loop-x
invariant-loop-x l = (l.all && all_below l.n (drop l.x-index l.list)) ≡ all_below l.n l.list
