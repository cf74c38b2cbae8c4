use Rattle.std.specs.Prelude.{◌≡◌, map, take}
use Rattle.order_small.specs.laws.Coordinates.{coordinate_of}
use Rattle.order_small.proofs.put_stretch.Given as goal

abbrev pub invariant-loop-j : goal.invariant-loop-j
invariant-loop-j l = take l.j l.list ≡ take l.j (map coordinate_of l.stretch)
