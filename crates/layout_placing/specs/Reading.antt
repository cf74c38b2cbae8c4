-- The layout reading (document 01, Layout and filter strength): blocks are visited row by row, a free block takes the next column.
use Rattle.std.specs.Prelude.{cond, List, ℕ, ◌+◌, ◌*◌, ltb, eqb, length, get_or, set, replicate, Float, Option}
use Rattle.refusal.specs.declared.Said.{Said}
use Rattle.refusal.specs.Said as refusals
use Rattle.refusal.specs.Answer.{Answer, unless, answered_by}
use Rattle.dct_select.specs.Transforms.{wide, high}
use Rattle.layout.specs.RowByRow.{row_by_row}
use Rattle.layout.specs.Grid.{block_at}
use Rattle.layout_filter.specs.declared.Filter.{Filter}
use Rattle.layout_filter.specs.declared.ScaledMultiplier.{ScaledMultiplier}
use Rattle.layout_filter.specs.Strength.{scaled_by, divided_by}
use Rattle.layout_column.specs.Columns.{hf_mul_of, column_checks}
use Rattle.layout_placing.specs.Scan.{Scan, Taking, Left, scan}

-- what is read: a grid of bw x bh blocks, columns, a sharpness number per block, the filter with its multiplier × 65536 / scale,
-- and the look-up numbers
pub record Job : Type 0 where
  pub bw : ℕ
  pub bh : ℕ
  pub types : List ℕ
  pub muls : List ℕ
  pub sharpness : List ℕ
  pub filter : Option ScaledMultiplier
  pub lookups : List Float

-- columns used so far, and what they have placed: kinds, hf_mul, bit patterns of sigma
pub record Placed : Type 0 where
  pub used : ℕ
  pub kinds : List ℕ
  pub hf_mul : List ℕ
  pub sigma : List ℕ

-- Stopped n s: refused with s, n columns having been placed before
pub data Placing : Type 0 where
  Going : Placed → Placing
  Stopped : ℕ → Said → Placing

-- refused with n at the free block (x, y)
abbrev pub stop_at : ℕ → ℕ → ℕ → Placed → Placing
stop_at n x y p = Stopped p.used (refusals.said_at n x y)

-- after the scan of the rectangle: the corner gets its kind and hf_mul
abbrev pub placed : ℕ → ℕ → ℕ → ℕ → ℕ → Placed → Scan → Placing
placed bw kind h x y p (Left n cx cy) = stop_at n x y p
placed bw kind h x y p (Taking kinds sigma) =
    Going (record {
      used = p.used + 1;
      kinds = set kinds (y * bw + x) kind;
      hf_mul = set p.hf_mul (y * bw + x) h;
      sigma = sigma;
    })

module _ (bw bh : ℕ) (filter : Option ScaledMultiplier) (lookups : List Float) (sharpness : List ℕ) where
  -- a varblock of w x n blocks at the free block (x, y)
  unfoldable pub place : ℕ → ℕ → ℕ → ℕ → ℕ → ℕ → Placed → Placing
  place kind h w n x y p = placed bw kind h x y p (scan bw bh (divided_by filter h) lookups sharpness x y w n (Taking p.kinds p.sigma))

module _ (J : Job) where
  abbrev pub place_in : ℕ → ℕ → ℕ → ℕ → ℕ → ℕ → Placed → Placing
  place_in = place J.bw J.bh J.filter J.lookups J.sharpness

  -- type and hf_mul of the next column
  abbrev pub next_type : Placed → ℕ
  next_type p = get_or J.types p.used 0

  abbrev pub next_hf_mul : Placed → ℕ
  next_hf_mul p = hf_mul_of (get_or J.muls p.used 0)

  -- there is a next column, and it fits at the block (x, y)
  abbrev pub next_checks : ℕ → ℕ → Placed → Answer Unit
  next_checks x y p = unless 4 (ltb p.used (length J.types)) (column_checks (next_type p) (next_hf_mul p) x y)

  -- the free block (x, y) takes the next column: it is refused there, or its varblock is placed
  unfoldable pub column : ℕ → ℕ → Placed → Placing
  column x y p =
      answered_by (next_checks x y p) (λ (s : Said). stop_at s.number x y p)
      (λ (u : Unit). place_in (2 + next_type p) (next_hf_mul p) (wide (next_type p)) (high (next_type p)) x y p)

  abbrev pub visit : ℕ → ℕ → Placing → Placing
  visit x y (Stopped n s) = Stopped n s
  visit x y (Going p) = cond (eqb (block_at p.kinds J.bw x y) 0) (column x y p) (Going p)

  -- all free, hf_mul 0, sigma +0.0
  abbrev pub zeros : List ℕ
  zeros = replicate (J.bh * J.bw) 0

  abbrev pub start : Placed
  start = record { used = 0; kinds = zeros; hf_mul = zeros; sigma = zeros }

  unfoldable pub reading : Placing
  reading = row_by_row visit J.bw J.bh (Going start)

abbrev pub job_with : ℕ → ℕ → List ℕ → List ℕ → List ℕ → Option ScaledMultiplier → List Float → Job
job_with bw bh types muls sharpness filter lookups =
    record { bw = bw; bh = bh; types = types; muls = muls; sharpness = sharpness; filter = filter; lookups = lookups }

-- the job of a filter that is not scaled yet
abbrev pub job_by : ℕ → ℕ → List ℕ → List ℕ → List ℕ → Filter → List Float → ℕ → Job
job_by bw bh types muls sharpness filter lookups scale = job_with bw bh types muls sharpness (scaled_by filter scale) lookups
