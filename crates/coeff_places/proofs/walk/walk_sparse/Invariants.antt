use Rattle.std.proofs.Common.{◌-◌, ◌^◌, drop}
use Rattle.coeff_walk.specs.Walk.{walk}
use Rattle.coeff_walk.specs.laws.Outcome.{spot_cells}
use Rattle.coeff_walk.specs.laws.Sparse.{Sparse}
use Rattle.coeff_places.proofs.walk.walk_sparse.Given as goal

abbrev pub invariant-loop-k : goal.invariant-loop-k
invariant-loop-k l =
    Sparse l.spot l.list l.symbols l.at l.coeff_map l.shift l.initial.log l.initial.grid (walk l.shift (2 ^ l.spot.exponent) l.coeff_map (spot_cells l.spot l.list) 0 l.initial.prev l.initial.left (drop l.at l.symbols) l.at l.initial.log l.initial.grid) l.stop l.log l.grid l.left l.prev l.k

abbrev pub decreases-loop-k : goal.decreases-loop-k
decreases-loop-k l =
    l.stop - l.k
