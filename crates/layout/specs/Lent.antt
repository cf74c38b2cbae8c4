-- A layout as it is lent, and its varblocks (document 01, Layout, "Added by us").
use Rattle.std.specs.Prelude.{◌≡◌, List, ℕ, ◌+◌, ◌<◌}
use Rattle.layout.specs.Grid.{block_at}
use Rattle.layout.specs.Varblocks.{Varblock}

-- sides in blocks, kinds and hf_mul row by row
pub record LentLayout : Type 0 where
  pub bw : ℕ
  pub bh : ℕ
  pub kinds : List ℕ
  pub hf_mul : List ℕ

abbrev pub lent_layout : ℕ → ℕ → List ℕ → List ℕ → LentLayout
lent_layout bw bh kinds hf_mul = record { bw = bw; bh = bh; kinds = kinds; hf_mul = hf_mul }

abbrev pub kind_at : LentLayout → ℕ → ℕ → ℕ
kind_at L x y = block_at L.kinds L.bw x y

abbrev pub hf_mul_at : LentLayout → ℕ → ℕ → ℕ
hf_mul_at L x y = block_at L.hf_mul L.bw x y

-- v is one of the layout's varblocks: its corner, transform number and hf_mul
pub record HasVarblock (L : LentLayout) (v : Varblock) : Type 0 where
  pub in_x : v.x < L.bw
  pub in_y : v.y < L.bh
  pub is_type : kind_at L v.x v.y ≡ 2 + v.type
  pub is_hf_mul : hf_mul_at L v.x v.y ≡ v.hf_mul
