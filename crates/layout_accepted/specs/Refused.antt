-- What a refused layout call hands back and leaves (document 01, Refused): 1, 2 and 11 write nothing; 4 to 10 hand back the free block
-- and leave layout and sigma all zero.
use Rattle.std.specs.Prelude.{◌≡◌, true, false, List, ℕ, ◌*◌, ◌≤◌, ◌<◌, length, get_or, replicate}
use Rattle.refusal.specs.declared.Said.{Said}
use Rattle.refusal.specs.Said as refusals
use Rattle.dct_select.specs.Transforms.{COUNT}
use Rattle.layout.specs.Grid.{block_at}
use Rattle.layout.specs.Valid.{Cells, Covers, Fits, Owned}
use Rattle.layout.specs.RowByRow.{Before}
use Rattle.layout_sizes.specs.Blocks.{size_fits}
use Rattle.layout_placing.specs.Reading.{Job, Placed, Stopped, column, reading}
use Rattle.layout_call.specs.Call.{Inputs, job_of, parameters_fit, all_lengths_fit, layout_of}
use Rattle.layout_accepted.specs.Outcome.{bw_of, bh_of}

-- what was placed so far: as in a layout, but for cells that are free
pub record Part (bw bh : ℕ) (K M : Cells) : Type 0 where
  pub fits : (a b : ℕ) → a < bw → b < bh → 2 ≤ K a b → Fits bw bh a b (K a b) (M a b)
  pub bare : (a b : ℕ) → a < bw → b < bh → K a b < 2 → M a b ≡ 0
  pub full : (a b c d : ℕ) → a < bw → b < bh → Covers K c d a b → 0 < K a b
  pub owned : (a b : ℕ) → a < bw → b < bh → 0 < K a b → Owned K a b

module _ (J : Job) where
  -- at (x, y): the blocks before it are taken, and corners are before it
  pub record Sofar (x y : ℕ) (p : Placed) : Type 0 where
    pub length_k : length p.kinds ≡ J.bh * J.bw
    pub length_m : length p.hf_mul ≡ J.bh * J.bw
    pub part : Part J.bw J.bh (block_at p.kinds J.bw) (block_at p.hf_mul J.bw)
    pub done : (a b : ℕ) → a < J.bw → b < J.bh → Before a b x y → 0 < block_at p.kinds J.bw a b
    pub behind : (a b : ℕ) → a < J.bw → b < J.bh → 2 ≤ block_at p.kinds J.bw a b → Before a b x y

-- 4 to 10, at a block of the grid
pub record AtBlock (bw bh : ℕ) (r : Said) : Type 0 where
  pub least : 4 ≤ r.number
  pub most : r.number ≤ 10
  pub in_x : r.x < bw
  pub in_y : r.y < bh

module _ (J : Job) where
  -- the next column is refused at the free block; the blocks before it, row by row, are taken by what was placed
  pub record AtFree (r : Said) : Type 0 where
    pub before : Placed
    pub sofar : Sofar J r.x r.y before
    pub free : block_at before.kinds J.bw r.x r.y ≡ 0
    pub stops : column J r.x r.y before ≡ Stopped before.used r

  -- the next column is there, and its type is unknown: as a whole 32-bit number none of 0 to 26 (document 02, No. 5)
  abbrev pub UnknownNext : Placed → Type 0
  UnknownNext p = (p.used < length J.types) × (COUNT ≤ get_or J.types p.used 0)

module _ (i : Inputs) (kinds hf_mul sigma : List ℕ) where
  -- before work: position 0, 0, and nothing is written
  pub record BeforeWork (n : ℕ) (r : Said) : Type 0 where
    pub said_is : r ≡ refusals.said_at n 0 0
    pub kinds_kept : (layout_of i kinds hf_mul sigma).kinds ≡ kinds
    pub hf_mul_kept : (layout_of i kinds hf_mul sigma).hf_mul ≡ hf_mul
    pub sigma_kept : (layout_of i kinds hf_mul sigma).sigma ≡ sigma

  -- while reading: 4 to 10 at the free block, and all is zero
  pub record AtWork (r : Said) : Type 0 where
    pub block : AtBlock (bw_of i) (bh_of i) r
    pub free : AtFree (job_of i) r
    -- as many columns were placed
    pub reads : reading (job_of i) ≡ Stopped free.before.used r
    pub kinds_zero : (layout_of i kinds hf_mul sigma).kinds ≡ replicate (bh_of i * bw_of i) 0
    pub hf_mul_zero : (layout_of i kinds hf_mul sigma).hf_mul ≡ replicate (bh_of i * bw_of i) 0
    pub sigma_zero : (layout_of i kinds hf_mul sigma).sigma ≡ replicate (bh_of i * bw_of i) 0

  pub data Refuses (r : Said) : Type 0 where
    size : size_fits i.width i.height ≡ false → BeforeWork 2 r → Refuses r
    parameter : size_fits i.width i.height ≡ true → parameters_fit i ≡ false → BeforeWork 11 r → Refuses r
    lengths : size_fits i.width i.height ≡ true → parameters_fit i ≡ true → all_lengths_fit i kinds hf_mul sigma ≡ false → BeforeWork 1 r → Refuses r
    work : size_fits i.width i.height ≡ true → parameters_fit i ≡ true → all_lengths_fit i kinds hf_mul sigma ≡ true → AtWork r → Refuses r
