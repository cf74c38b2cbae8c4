use Rattle.coeff_walk.specs.laws.Runs.{Zeros}
use Rattle.coeff_places.proofs.walk.skip_zeros.Given as goal

abbrev pub invariant-loop-k : goal.invariant-loop-k
invariant-loop-k l = Zeros l.exponent l.map_from l.symbols l.at l.from l.stop l.initial.log l.k l.log
