use lib.Seq.{paste, paste-zero}
use Rattle.context_places.specs.laws.Copies.{copy_more}
use borrow.Author.Rules.{rules}
use native.Mathlib.Omega.{arith}
use mathlib.Core.Path.{◌≡◌, ◌∙◌, ap}
use Prim.Native.Nat.{◌≤◌, ◌-◌}
use Rattle.context_places.proofs.placed.Given as goal

abbrev pub invariant-loop-k : goal.invariant-loop-k
invariant-loop-k l = (l.k ≤ 15) × (l.out ≡ paste l.initial.out l.first l.list l.k)

abbrev pub decreases-loop-k : goal.decreases-loop-k
decreases-loop-k l = 15 - l.k
