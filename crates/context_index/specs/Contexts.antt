-- Block contexts (document 01, Block contexts and Coefficients; `HfBlockContext` of `lf.rs`, `write_hf_coeff` of `hf_coeff.rs`).
use Rattle.std.specs.Prelude.{ℕ, ◌+◌, ◌*◌, ◌%◌, ◌^◌, Bool, cond, List, [], ◌∷◌, length, nat_lt, slice_index}
use Rattle.context_record.specs.Record.{bsize_of}

-- Signed 32-bit numbers are given as their bit patterns.
pub record Contexts : Type 0 where
  -- thresholds of the LF numbers of channels 0, 1 and 2
  pub lf_thresholds0 : List ℕ
  pub lf_thresholds1 : List ℕ
  pub lf_thresholds2 : List ℕ
  -- thresholds of hf_mul
  pub qf_thresholds : List ℕ
  -- block context of each index
  pub context_map : List ℕ

-- the product of the three (length + 1), the number of LF indices
unfoldable pub lf_size_of : List ℕ → List ℕ → List ℕ → ℕ
lf_size_of t0 t1 t2 = (length t0 + 1) * (length t1 + 1) * (length t2 + 1)

abbrev pub lf_size : Contexts → ℕ
lf_size C = lf_size_of C.lf_thresholds0 C.lf_thresholds1 C.lf_thresholds2

-- bsize of these lists
abbrev pub bsize : Contexts → ℕ
bsize C = bsize_of (length C.lf_thresholds0 ∷ length C.lf_thresholds1 ∷ length C.lf_thresholds2 ∷ length C.qf_thresholds ∷ [])

-- a > b as signed numbers (Bounds, greater-signed)
abbrev pub greater : ℕ → ℕ → Bool
greater a b = nat_lt ((b + 2 ^ 31) % 2 ^ 32) ((a + 2 ^ 31) % 2 ^ 32)

-- how many thresholds q is greater than
unfoldable pub above : List ℕ → ℕ → ℕ
above [] q = 0
above (t ∷ ts) q = cond (greater q t) 1 0 + above ts q

-- of hf_mul
abbrev pub qf_index : Contexts → ℕ → ℕ
qf_index C hf_mul = above C.qf_thresholds hf_mul

-- LF numbers q0, q1, q2 against lists t0, t1, t2: channels in the order 0, 2, 1
unfoldable pub lf_index_in : List ℕ → List ℕ → List ℕ → ℕ → ℕ → ℕ → ℕ
lf_index_in t0 t1 t2 q0 q1 q2 = (above t0 q0 * (length t2 + 1) + above t2 q2) * (length t1 + 1) + above t1 q1

abbrev pub lf_index : Contexts → ℕ → ℕ → ℕ → ℕ
lf_index C = lf_index_in C.lf_thresholds0 C.lf_thresholds1 C.lf_thresholds2

-- 0 where there are no LF grids
abbrev pub lf_index_of : Contexts → Bool → ℕ → ℕ → ℕ → ℕ
lf_index_of C there q0 q1 q2 = cond there (lf_index C q0 q1 q2) 0

-- entry of the context map: n-th channel walked (from 0), order, qf index of so many, LF index of so many
unfoldable pub entry_of : ℕ → ℕ → ℕ → ℕ → ℕ → ℕ → ℕ
entry_of qfs lfs n order qf_at lf_at = ((n * 13 + order) * qfs + qf_at) * lfs + lf_at

abbrev pub entry_in : Contexts → ℕ → ℕ → ℕ → ℕ → ℕ
entry_in C = entry_of (length C.qf_thresholds + 1) (lf_size C)

-- of the n-th channel walked, in a varblock of an order with its hf_mul and LF numbers q0, q1, q2, if there are any
abbrev pub block_entry : Contexts → ℕ → ℕ → ℕ → Bool → ℕ → ℕ → ℕ → ℕ
block_entry C n order hf_mul there q0 q1 q2 = entry_in C n order (qf_index C hf_mul) (lf_index_of C there q0 q1 q2)

abbrev pub block_context : Contexts → ℕ → ℕ → ℕ → Bool → ℕ → ℕ → ℕ → ℕ
block_context C n order hf_mul there q0 q1 q2 = slice_index C.context_map (block_entry C n order hf_mul there q0 q1 q2)
