-- The varblocks of a layout, as rectangles.
use Rattle.std.specs.Prelude.{◌≡◌, refl, List, ℕ, ◌+◌, ◌*◌, ◌-◌, ◌<◌, ◌≤◌}
use Rattle.std.proofs.Common.{arith, mul-le-mul}
use Rattle.dct_select.specs.Transforms.{wide, high}
use Rattle.dct_select.specs.laws.Sides.{wide_most_lem, high_most_lem}
use Rattle.layout.specs.Grid.{block_at}
use Rattle.layout.specs.Valid.{Covers, Layout}
use Rattle.layout.specs.Varblocks.{Varblock, varblock, varblocks_of}
use Rattle.layout.specs.Lent.{lent_layout, HasVarblock}
use Rattle.layout.specs.Listed.{Among}
use Rattle.layout.proofs.laws.Listed.{listed}

module _ {bw bh : ℕ} {kinds hf_mul : List ℕ} (lay : Layout bw bh kinds hf_mul) where
  module _ (v : Varblock) (i : Among v (varblocks_of bw bh kinds hf_mul)) where
    pub has : HasVarblock (lent_layout bw bh kinds hf_mul) v
    has = (listed (lent_layout bw bh kinds hf_mul) v).0 i

    corner : 2 ≤ block_at kinds bw v.x v.y
    corner = let e = has.is_type in omega arith

    pub type_is : v.type ≡ block_at kinds bw v.x v.y - 2
    type_is = let e = has.is_type in omega arith

    pub known : v.type < 27
    known = let e = has.is_type in let k = (lay.valid.fits v.x v.y has.in_x has.in_y corner).known in omega arith

    pub right : v.x + wide v.type ≤ bw
    right = rw type_is (lay.valid.fits v.x v.y has.in_x has.in_y corner).in_x

    pub bottom : v.y + high v.type ≤ bh
    bottom = rw type_is (lay.valid.fits v.x v.y has.in_x has.in_y corner).in_y

    pub few : wide v.type * high v.type ≤ 1024
    few = mul-le-mul {n₁ = wide v.type} {m₁ = high v.type} {n₂ = 32} {m₂ = 32} (wide_most_lem v.type known) (high_most_lem v.type known)

    pub covers : (x y : ℕ) → v.x ≤ x → x < v.x + wide v.type → v.y ≤ y → y < v.y + high v.type → Covers (block_at kinds bw) v.x v.y x y
    covers x y a b c d = record { corner = corner; from_x = a; to_x = rw type_is at b; from_y = c; to_y = rw type_is at d }

  -- a corner of the grid is the corner of one of them
  pub at_corner : (x y : ℕ) → x < bw → y < bh → 2 ≤ block_at kinds bw x y → Among (varblock x y (block_at kinds bw x y - 2) (block_at hf_mul bw x y)) (varblocks_of bw bh kinds hf_mul)
  at_corner x y a b k = (listed (lent_layout bw bh kinds hf_mul) (varblock x y (block_at kinds bw x y - 2) (block_at hf_mul bw x y))).1 (record { in_x = a; in_y = b; is_type = omega arith; is_hf_mul = refl })
