-- A preset's part of the cluster map as it is handed on.
use Rattle.std.specs.Prelude.{◌≡◌, List, ℕ, ◌+◌, ◌*◌, ◌-◌, ◌<◌, ◌≤◌, length, take, drop}
use Rattle.std.proofs.Common.{mul-le-mul, arith, length-drop, length-take-le}

pub part_long : (s : List ℕ) (w n : ℕ) → w * n + w ≤ length s → length (take w (drop (w * n) s)) ≡ w
part_long s w n h = length-take-le w (drop (w * n) s) (let l = length-drop (w * n) s in omega arith)

-- the part as it is cut
pub part_cut : (s : List ℕ) (w n : ℕ) → take (w * n + w - w * n) (drop (w * n) s) ≡ take w (drop (w * n) s)
part_cut s w n = let e : w * n + w - w * n ≡ w = omega arith in rw e

-- it ends early
pub part_ends : (clusters n : ℕ) → clusters ≤ 16 → n < 256 → 495 * clusters * n + 495 * clusters ≤ 2035440
part_ends clusters n c h = omega (arith, mul-le-mul {n₁ = 495 * clusters} {m₁ = n} {n₂ = 7920} {m₂ = 256} (omega arith) (omega arith))
