-- The sides of a kind (document 01, Layout): 1 to 32 blocks.
use Rattle.std.specs.Prelude.{ℕ, ◌-◌, ◌≤◌, ◌<◌}
use Rattle.dct_select.specs.Transforms.{wide, high}
use Rattle.dct_select.specs.laws.Sides.{wide_some, wide_most_lem, high_some, high_most_lem}

-- each side of a varblock is 1 to 32 blocks
pub wide_sized : (t : ℕ) → t < 27 → (1 ≤ wide t) × (wide t ≤ 32)
wide_sized t h = (wide_some t h, wide_most_lem t h)

pub high_sized : (t : ℕ) → t < 27 → (1 ≤ high t) × (high t ≤ 32)
high_sized t h = (high_some t h, high_most_lem t h)
