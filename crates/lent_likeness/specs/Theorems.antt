-- What the theorems on the likeness test speak of (document 01, Layout, "Added by us"; document 02, No. 12).
use Rattle.std.specs.Prelude.{◌≡◌, false, ℕ, ◌*◌, ◌<◌, T, length, get_or}
use Rattle.layout.specs.Valid.{Layout}
use Rattle.lent_sides.specs.Limits.{Sided}
use Rattle.lent_lists.specs.Finite.{finite_pattern}
use Rattle.lent_likeness.specs.Like.{FilteredLayout}

-- a lent layout that no check refuses: sides of at most 256, a layout, and for each block a sigma that is finite
pub record Sound (L : FilteredLayout) : Type 0 where
  pub sides : Sided 256 L.layout.bw L.layout.bh
  pub layout : Layout L.layout.bw L.layout.bh L.layout.kinds L.layout.hf_mul
  pub sigma_length : length L.sigma ≡ L.layout.bh * L.layout.bw
  pub finite : (i : ℕ) → i < length L.sigma → T (finite_pattern (get_or L.sigma i 0))

-- one of the sigma that are lent, however many, is not finite
pub record NotFinite (L : FilteredLayout) : Type 0 where
  pub place : ℕ
  pub lent : place < length L.sigma
  pub not_finite : finite_pattern (get_or L.sigma place 0) ≡ false
