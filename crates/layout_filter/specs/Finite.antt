-- Every filter strength under the limits is finite: its size is at most 65,504 × 65,536 × 65,504
-- (document 01, Layout and filter strength).
use Rattle.std.specs.Prelude.{ℕ, ◌*◌, ◌≤◌, Float}
use Rattle.std.specs.Float.{nan, inf, fin}
use Rattle.std.specs.Float.Ieee.{up, down}

-- finite, and from -n to n
unfoldable pub Within : ℕ → Float → Type 0
Within n nan = ⊥
Within n (inf s) = ⊥
Within n (fin s m e) = m * up e ≤ n * down e

abbrev pub SIGMA_MOST : ℕ
SIGMA_MOST = 65504 * 65536 * 65504
