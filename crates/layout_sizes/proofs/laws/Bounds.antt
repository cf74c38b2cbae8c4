-- The grid of blocks: within the limits it has at most 256 blocks each way, and none exactly along a side of no pixels.
use Rattle.std.specs.Prelude.{◌≡◌, Bool, true, false, ◌↔◌, List, ℕ, ◌≤◌, T, leb}
use Rattle.std.proofs.Common.{inl, inr, arith, leb→le}
use Rattle.std.specs.Float.Ieee.Fits.{and_l, and_r}
use Rattle.layout.specs.Empty.{Empty}
use Rattle.layout_sizes.specs.Blocks.{size_fits, blocks, even_if, any_either, bw_in, bh_in}
use Rattle.layout_sizes.specs.laws.Bounds.{NoBw}

side : (even : Bool) (pixels : ℕ) → pixels ≤ 2048 → even_if even (blocks pixels) ≤ 256
side true pixels h = omega arith
side false pixels h = omega arith

-- a side has no blocks exactly if it has no pixels; made even, none stay none (document 02, No. 2)
none : (even : Bool) (pixels : ℕ) → (even_if even (blocks pixels) ≡ 0) ↔ (pixels ≡ 0)
none true pixels = (λ e. omega arith, λ e. omega arith)
none false pixels = (λ e. omega arith, λ e. omega arith)

pub no_bw : NoBw
unfolding bw_in
no_bw width modes = none (any_either modes 1 2) width

pub no_bh : (height : ℕ) (modes : List ℕ) → (bh_in height modes ≡ 0) ↔ (height ≡ 0)
unfolding bh_in
no_bh height modes = none (any_either modes 1 3) height

-- so a grid has no blocks exactly if the strip has no pixels, whatever the modes
pub without_pixels : (width height : ℕ) (modes : List ℕ) → Empty (bw_in width modes) (bh_in height modes) ↔ Empty width height
without_pixels width height modes = (there, back)
  where
    there : Empty (bw_in width modes) (bh_in height modes) → Empty width height
    there (inl e) = inl ((no_bw width modes).0 e)
    there (inr e) = inr ((no_bh height modes).0 e)

    back : Empty width height → Empty (bw_in width modes) (bh_in height modes)
    back (inl e) = inl ((no_bw width modes).1 e)
    back (inr e) = inr ((no_bh height modes).1 e)

module _ (width height : ℕ) (fits : size_fits width height ≡ true) where
  sides : (width ≤ 2048) × (height ≤ 2048)
  sides =
      let t : T (size_fits width height) = rw fits tt in
      (leb→le width 2048 (and_l (leb width 2048) (leb height 2048) t), leb→le height 2048 (and_r (leb width 2048) (leb height 2048) t))

  pub bw_most : (modes : List ℕ) → bw_in width modes ≤ 256
  unfolding bw_in
  bw_most modes = side (any_either modes 1 2) width sides.0

  pub bh_most : (modes : List ℕ) → bh_in height modes ≤ 256
  unfolding bh_in
  bh_most modes = side (any_either modes 1 3) height sides.1
