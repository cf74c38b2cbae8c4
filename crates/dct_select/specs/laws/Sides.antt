-- The sides of a transform's varblock against its order's (document 01, Orders and Coefficients): as many places, the same sides,
-- and each place of the order, turned or not, inside the varblock.
use Rattle.std.specs.Prelude.{◌≡◌, refl, Bool, true, false, ◌↔◌, T}
use Rattle.std.proofs.Math.Bool.{cond}
use Prim.Native.Nat.{ℕ, ◌*◌, ◌/◌, ◌≤◌, ◌<◌, min, max}
use Rattle.std.proofs.Common.{arith}
use Rattle.std.proofs.Math.Dec.{ltb, eqb, leb, leb→le, ltb→lt, eqb→eq}
use Rattle.dct_select.specs.Transforms.{TRANSFORMS, wide, high, order_of, turns, across, down}
use Rattle.order_sizes.specs.BlockSizes.{BLOCK_SIZES, width_of, height_of}
use Rattle.dct_select.specs.laws.Rules.{below_27}

-- an order's width and height as the sides of a varblock, swapped where it turns
pub data OrderSides (turn : Bool) (w h width height : ℕ) : Type 0 where
  swapped : turn ≡ true → height ≡ 8 * w → width ≡ 8 * h → OrderSides turn w h width height
  straight : turn ≡ false → width ≡ 8 * w → height ≡ 8 * h → OrderSides turn w h width height

module _ (t : ℕ) (known : t < 27) where
  pub order_lt : order_of t < 13
  unfolding order_of TRANSFORMS
  order_lt = ltb→lt (order_of t) 13 (below_27 (λ (t : ℕ). ltb (order_of t) 13) tt t known)

  -- a side is 1 to 32 blocks
  pub wide_some : 1 ≤ wide t
  unfolding wide TRANSFORMS
  wide_some = leb→le 1 (wide t) (below_27 (λ (t : ℕ). leb 1 (wide t)) tt t known)

  pub high_some : 1 ≤ high t
  unfolding high TRANSFORMS
  high_some = leb→le 1 (high t) (below_27 (λ (t : ℕ). leb 1 (high t)) tt t known)

  pub wide_most_lem : wide t ≤ 32
  unfolding wide TRANSFORMS
  wide_most_lem = leb→le (wide t) 32 (below_27 (λ (t : ℕ). leb (wide t) 32) tt t known)

  pub high_most_lem : high t ≤ 32
  unfolding high TRANSFORMS
  high_most_lem = leb→le (high t) 32 (below_27 (λ (t : ℕ). leb (high t) 32) tt t known)

  -- the order's sides are the larger and the smaller of the varblock's
  pub larger_side : width_of (order_of t) ≡ 8 * max (wide t) (high t)
  unfolding width_of order_of wide high TRANSFORMS BLOCK_SIZES
  larger_side =
      eqb→eq (width_of (order_of t)) (8 * max (wide t) (high t))
      (below_27 (λ (t : ℕ). eqb (width_of (order_of t)) (8 * max (wide t) (high t))) tt t known)

  pub smaller_side : height_of (order_of t) ≡ 8 * min (wide t) (high t)
  unfolding height_of order_of wide high TRANSFORMS BLOCK_SIZES
  smaller_side =
      eqb→eq (height_of (order_of t)) (8 * min (wide t) (high t))
      (below_27 (λ (t : ℕ). eqb (height_of (order_of t)) (8 * min (wide t) (high t))) tt t known)

  pub places : width_of (order_of t) * height_of (order_of t) ≡ 64 * (wide t * high t)
  unfolding width_of height_of order_of wide high TRANSFORMS BLOCK_SIZES
  places =
      eqb→eq (width_of (order_of t) * height_of (order_of t)) (64 * (wide t * high t))
      (below_27 (λ (t : ℕ). eqb (width_of (order_of t) * height_of (order_of t)) (64 * (wide t * high t))) tt t known)

  -- what turns is no wider than high, what does not turn is no higher than wide
  by_turn : T (cond (turns t) (leb (wide t) (high t)) (leb (high t) (wide t)))
  unfolding turns wide high TRANSFORMS
  by_turn = below_27 (λ (t : ℕ). cond (turns t) (leb (wide t) (high t)) (leb (high t) (wide t))) tt t known

  turned : turns t ≡ true → wide t ≤ high t
  turned e = leb→le (wide t) (high t) (rw e at by_turn)

  unturned : turns t ≡ false → high t ≤ wide t
  unturned e = leb→le (high t) (wide t) (rw e at by_turn)

  pub sides_of : OrderSides (turns t) (wide t) (high t) (width_of (order_of t)) (height_of (order_of t))
  sides_of = go (turns t) refl
    where
      go : (b : Bool) → turns t ≡ b → OrderSides (turns t) (wide t) (high t) (width_of (order_of t)) (height_of (order_of t))
      go true e = let n = turned e in swapped e (omega (arith, smaller_side)) (omega (arith, larger_side))
      go false e = let n = unturned e in straight e (omega (arith, larger_side)) (omega (arith, smaller_side))

module _ (t : ℕ) (known : t < 27) (x y : ℕ) where
  -- a place of the order is a cell of the varblock
  pub inside : x < width_of (order_of t) → y < height_of (order_of t) → (across (turns t) x y < 8 * wide t) × (down (turns t) x y < 8 * high t)
  inside h l = go (turns t) refl
    where
      go : (b : Bool) → turns t ≡ b → (across (turns t) x y < 8 * wide t) × (down (turns t) x y < 8 * high t)
      go true e = let n = turned t known e in rw e (omega (arith, larger_side t known, smaller_side t known), omega (arith, larger_side t known, smaller_side t known))
      go false e = let n = unturned t known e in rw e (omega (arith, larger_side t known, smaller_side t known), omega (arith, larger_side t known, smaller_side t known))

  -- the order's corner of one place in 64 is the varblock's corner, as many cells wide and high as it has blocks
  pub corner : (x < width_of (order_of t) / 8) × (y < height_of (order_of t) / 8) ↔ (across (turns t) x y < wide t) × (down (turns t) x y < high t)
  corner = go (turns t) refl
    where
      go : (b : Bool) → turns t ≡ b → (x < width_of (order_of t) / 8) × (y < height_of (order_of t) / 8) ↔ (across (turns t) x y < wide t) × (down (turns t) x y < high t)
      go true e = let n = turned t known e in let a = larger_side t known in let b = smaller_side t known in
          rw e (λ h. (omega arith, omega arith), λ h. (omega arith, omega arith))
      go false e = let n = unturned t known e in let a = larger_side t known in let b = smaller_side t known in
          rw e (λ h. (omega arith, omega arith), λ h. (omega arith, omega arith))
