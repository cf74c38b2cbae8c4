use Rattle.std.proofs.Common.{◌≡◌, ◌+◌, ◌*◌, ◌^◌, ◌≤◌, length, drop}
use Rattle.coeff_walk.specs.Walk.{walk}
use Rattle.coeff_walk.specs.laws.Outcome.{spot_cells}
use Rattle.coeff_places.proofs.walk.walk_dense.Given as goal

abbrev pub invariant-loop-k : goal.invariant-loop-k
invariant-loop-k l =
    (l.left ≤ 63 * 2 ^ l.spot.exponent)
    × (l.prev ≤ 1)
    × (length l.log ≡ length l.initial.log)
    × (length l.grid ≡ length l.initial.grid)
    × (walk l.shift (2 ^ l.spot.exponent) l.coeff_map (drop l.k (spot_cells l.spot l.list)) l.k l.prev l.left (drop (l.at + l.k) l.symbols) (l.at + l.k) l.log l.grid
    ≡ walk l.shift (2 ^ l.spot.exponent) l.coeff_map (spot_cells l.spot l.list) 0 l.initial.prev l.initial.left (drop l.at l.symbols) l.at l.initial.log l.initial.grid)
