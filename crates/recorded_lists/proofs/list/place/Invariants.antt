-- The lists that are left lead to the place behind all.
use Rattle.std.proofs.Common.{◌≡◌, ◌-◌}
use Rattle.recorded_lists.specs.Lists.{place_of}
use Rattle.recorded_lists.proofs.list.place.Given as goal

abbrev pub invariant-loop : goal.invariant-loop
invariant-loop l = place_of l.words l.at (l.k - l.counter) ≡ place_of l.words l.from l.k
