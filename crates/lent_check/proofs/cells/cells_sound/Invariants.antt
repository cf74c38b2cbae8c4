use mathlib.Core.Path.{◌≡◌}
use Prim.Native.Nat.{◌≤◌, ◌*◌}
use Rattle.lent_check.specs.laws.Flaws.{flaws}
use Rattle.lent_check.proofs.cells.cells_sound.Given as goal

abbrev pub invariant-loop-i : goal.invariant-loop-i
invariant-loop-i l = (l.flaws ≤ 2 * l.i) × (l.flaws ≡ flaws l.kinds l.hf_mul l.i)
