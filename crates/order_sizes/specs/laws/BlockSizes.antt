-- The sizes of the 13 orders in cells (document 01, Orders; `hf_pass.rs`).
use Rattle.std.specs.Prelude.{◌≡◌, map, ℕ, ◌≤◌, get_or}
use Rattle.std.proofs.Math.ListN.{get_or-eq_default}
use Rattle.laws.specs.laws.Lists.{get_d_map}
use Rattle.order_sizes.specs.declared.OrderSize.{OrderSize}
use Rattle.order_sizes.specs.BlockSizes.{BLOCK_SIZES, height_of, width_of}

abbrev pub order_size : ℕ → ℕ → OrderSize
order_size w h = record { width = w; height = h }

-- of an order, 0 and 0 above 12
abbrev pub block_size : ℕ → OrderSize
block_size k = order_size (width_of k) (height_of k)

-- the sizes of the orders, as the code has them
pub block_size_at : (k : ℕ) → get_or (map (λ (s : ℕ × ℕ). order_size s.0 s.1) BLOCK_SIZES) k (order_size 0 0) ≡ block_size k
unfolding width_of height_of
block_size_at k = get_d_map (λ (s : ℕ × ℕ). order_size s.0 s.1) BLOCK_SIZES k (0, 0)

pub block_size_beyond : (k : ℕ) → 13 ≤ k → order_size 0 0 ≡ block_size k
unfolding width_of height_of BLOCK_SIZES
block_size_beyond k h = rw (get_or-eq_default BLOCK_SIZES (0, 0) {n = k} h)
