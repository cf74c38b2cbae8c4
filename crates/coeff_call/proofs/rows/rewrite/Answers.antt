use Rattle.coeff_walk.proofs.laws.Counts.{row_filled}
use Rattle.std.proofs.Common.{length, take, drop, length-take-le, length-drop}
use native.Mathlib.Omega.{arith}
use mathlib.Core.Path.{◌≡◌}
use Prim.Native.Nat.{◌+◌, ◌-◌, ◌≤◌}
use Rattle.coeff_call.proofs.rows.rewrite.Goals as goal

pub returns : goal.returns
returns c =
    let a = c.args in
    let h : a.x + a.n ≤ length a.row.now = omega arith in
    let z : a.x + a.n - a.x ≡ a.n = omega arith in
    let m : length (take a.n (drop a.x a.row.now)) ≡ a.n = length-take-le a.n (drop a.x a.row.now) (rw (length-drop a.x a.row.now) (omega arith)) in
    rw (c.fill.ensures.after (λ y e. e), z, m) (row_filled a.row.now a.x a.n a.v h)
