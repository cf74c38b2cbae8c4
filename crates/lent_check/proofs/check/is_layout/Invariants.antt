use mathlib.Core.Path.{◌≡◌}
use Prim.Native.Nat.{◌≤◌}
use lib.ListN.{length}
use Rattle.layout.specs.Check.{is_layout}
use Rattle.lent_check.specs.laws.Rows.{rows_left}
use Rattle.lent_check.proofs.check.is_layout.Given as goal

abbrev pub invariant-loop-y : goal.invariant-loop-y
invariant-loop-y l = (l.bw ≤ length l.depth) × (is_layout l.bw l.bh l.kinds l.hf_mul ≡ rows_left l.kinds l.hf_mul l.bw l.bh l.y l.depth)
