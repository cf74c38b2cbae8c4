-- A column that was placed: what it is, and what its varblock changes.
use Rattle.std.specs.Prelude.{◌≡◌, List}
use Prim.Native.Nat.{ℕ, ◌+◌, ◌*◌, ◌≤◌, ◌<◌}
use Rattle.std.proofs.Math.ListN.{length}
use Rattle.dct_select.specs.Transforms.{wide, high}
use Rattle.layout.specs.Grid.{block_at}
use Rattle.layout.specs.laws.Order.{Here}
use Rattle.layout_filter.specs.Strength.{divided_by}
use Rattle.layout_column.specs.laws.Judged.{Fitting}
use Rattle.layout_placing.specs.Scan.{Taking, scan}
use Rattle.layout_placing.specs.Reading.{Job, Placed}
use Rattle.layout_accepted.specs.laws.Took.{InRect}

-- a varblock of type t and hf_mul h is put at (x, y)
pub record Puts (bw : ℕ) (K M K' M' : ℕ → ℕ → ℕ) (t h x y : ℕ) : Type 0 where
  pub at_corner : K' x y ≡ 2 + t
  pub in_body : (a b : ℕ) → (Here x y a b → ⊥) → InRect x y (wide t) (high t) a b → K' a b ≡ 1
  pub elsewhere : (a b : ℕ) → a < bw → (InRect x y (wide t) (high t) a b → ⊥) → K' a b ≡ K a b
  pub hf_mul_corner : M' x y ≡ h
  pub hf_mul_other : (a b : ℕ) → a < bw → (Here x y a b → ⊥) → M' a b ≡ M a b

-- a column of type t and hf_mul h that was placed at (x, y), with p before and q after it
pub record Column (J : Job) (x y : ℕ) (p q : Placed) (t h : ℕ) : Type 0 where
  pub fits : Fitting t h x y
  pub in_x : x + wide t ≤ J.bw
  pub in_y : y + high t ≤ J.bh
  pub free : (a b : ℕ) → InRect x y (wide t) (high t) a b → block_at p.kinds J.bw a b ≡ 0
  pub puts : Puts J.bw (block_at p.kinds J.bw) (block_at p.hf_mul J.bw) (block_at q.kinds J.bw) (block_at q.hf_mul J.bw) t h x y
  pub length_k : length q.kinds ≡ J.bh * J.bw
  pub length_m : length q.hf_mul ≡ J.bh * J.bw
  pub used_is : q.used ≡ p.used + 1
  pub taken : List ℕ
  pub scan_is : scan J.bw J.bh (divided_by J.filter h) J.lookups J.sharpness x y (wide t) (high t) (Taking p.kinds p.sigma) ≡ Taking taken q.sigma

-- where a cell stands to a rectangle
pub data Spot (x y w h a b : ℕ) : Type 0 where
  corner : Here x y a b → Spot x y w h a b
  body : (Here x y a b → ⊥) → InRect x y w h a b → Spot x y w h a b
  beyond : (InRect x y w h a b → ⊥) → Spot x y w h a b
