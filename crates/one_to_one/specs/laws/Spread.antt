-- A list behind its first places: each cell that is not low-frequency once, and no other.
use Rattle.std.specs.Prelude.{◌≡◌, Bool, ℕ, ◌*◌, ◌<◌, length}
use mathlib.Core.List.Memᴰ
use mathlib.Core.List.{List}
use Rattle.dct_select.specs.Transforms.{across, down}
use Rattle.order_natural.specs.Places.{Place}
use Rattle.coeff_group.specs.laws.Cells.{Distinct, In}

-- the places qs of a varblock of w × h blocks: each cell of its rectangle but for the low-frequency ones, once
pub record Spread (turn : Bool) (w h : ℕ) (qs : List Place) : Type 0 where
  pub size : length qs ≡ 63 * (w * h)
  pub inside : (q : Place) → In q qs → (across turn q.0 q.1 < 8 * w) × (down turn q.0 q.1 < 8 * h)
  pub upper : (q : Place) → In q qs → across turn q.0 q.1 < w → down turn q.0 q.1 < h → ⊥
  pub distinct : Distinct qs
  pub whole : (dx dy : ℕ) → dx < 8 * w → dy < 8 * h → (dx < w → dy < h → ⊥) → (q : Place) × In q qs × (across turn q.0 q.1 ≡ dx) × (down turn q.0 q.1 ≡ dy)
