use Rattle.order_copies.specs.laws.Copies.{Copied}
use mathlib.Core.Path.{◌≡◌}
use Prim.Native.Nat.{◌≤◌, ◌-◌, ◌/◌}
use lib.ListN.{length}
use Rattle.order_copies.proofs.copy_twice.Given as goal

abbrev pub invariant-loop-b : goal.invariant-loop-b
invariant-loop-b l = (l.n ≡ length l.initial.lists / 3) × (l.b ≤ l.n) × Copied l.initial.lists l.n l.lists l.b

abbrev pub decreases-loop-b : goal.decreases-loop-b
decreases-loop-b l = l.n - l.b
