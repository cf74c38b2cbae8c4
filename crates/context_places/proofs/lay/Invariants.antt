use borrow.Author.Rules.{rules}
use native.Mathlib.Omega.{arith}
use mathlib.Core.Path.{◌≡◌, ◌∙◌, refl}
use Prim.Native.Nat.{◌≤◌, ◌-◌}
use lib.ListN.{length, take, length-set}
use Rattle.context_thresholds.specs.Thresholds.{pad}
use Rattle.context_places.specs.laws.Copies.{pad_copied, pad_cleared, pad_whole}
use Rattle.context_places.proofs.lay.Given as goal

abbrev pub invariant-loop-i : goal.invariant-loop-i
invariant-loop-i l = (length l.list ≤ 2496) × (length l.out ≡ 2496) × (l.i ≤ length l.list) × (take l.i l.out ≡ take l.i (pad 2496 l.list))

abbrev pub decreases-loop-i : goal.decreases-loop-i
decreases-loop-i l = length l.list - l.i

abbrev pub invariant-loop-i-2 : goal.invariant-loop-i-2
invariant-loop-i-2 l = (length l.list ≤ 2496) × (length l.out ≡ 2496) × (length l.list ≤ l.i) × (l.i ≤ 2496) × (take l.i l.out ≡ take l.i (pad 2496 l.list))

abbrev pub decreases-loop-i-2 : goal.decreases-loop-i-2
decreases-loop-i-2 l = 2496 - l.i
