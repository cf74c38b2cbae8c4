-- A group as the code reads it: what is required, and what is still due.
use Rattle.std.specs.Prelude.{◌≡◌, length, drop, Result, Ok, Err}
use Rattle.std.proofs.Math.Bool.{true}
use mathlib.Core.List.{List}
use Prim.Native.Nat.{ℕ, ◌+◌, ◌*◌, ◌-◌, ◌≤◌}
use Rattle.layout.specs.Grid.{block_at}
use Rattle.layout.specs.Valid.{Cells, Layout}
use Rattle.layout.specs.Varblocks.{corners_row, corners_from, area}
use Rattle.layout.specs.Varblocks as layout
use Rattle.order_store.specs.Store.{PLACES}
use Rattle.context_record.specs.Record.{fit}
use Rattle.refusal.specs.declared.Refusal.{Refusal}
use Rattle.coeff_group.specs.PassGroup.{PassGroup, varblocks}
use Rattle.coeff_group.specs.Group.{PerChannel, zero_rows, Reading, going, refused, read_group}

abbrev pub walk_of : Reading → Result ℕ Refusal
walk_of (going us at log grids rows) = Ok at
walk_of (refused why at log grids) = Err (why at)

abbrev pub log_by : Reading → List ℕ
log_by (going us at log grids rows) = log
log_by (refused why at log grids) = log

abbrev pub grids_by : Reading → PerChannel
grids_by (going us at log grids rows) = grids
grids_by (refused why at log grids) = grids

-- what is handed back of a reading
pub record GroupShown (r : Result ℕ Refusal) (log : List ℕ) (G : PerChannel) (R : Reading) : Type 0 where
  pub answer : r ≡ walk_of R
  pub logged : log ≡ log_by R
  pub cells : G ≡ grids_by R

-- what the checks before work leave
pub record GroupReady (P : PassGroup) (clusters preset_map shift log : ℕ) : Type 0 where
  pub narrow : P.bw ≤ 32
  pub below : P.bh ≤ 32
  pub layout : Layout P.bw P.bh P.kinds P.hf_mul
  pub contexts : fit P.contexts ≡ true
  pub clustered : clusters ≡ P.contexts.num_block_clusters
  pub few : clusters ≤ 16
  pub whole : length P.store ≡ 2 * PLACES
  pub entries : preset_map ≡ 495 * clusters
  pub shifts : shift ≤ 3
  pub room : 192 * (P.bw * P.bh) ≤ log

module _ (P : PassGroup) where
  abbrev pub K : Cells
  K = block_at P.kinds P.bw

  abbrev pub M : Cells
  M = block_at P.hf_mul P.bw

-- the varblocks from block x of row y on, and from row y on
abbrev pub rows_from : PassGroup → ℕ → List layout.Varblock
rows_from P y = corners_from (K P) (M P) P.bw (P.bh - y) y

abbrev pub row_from : PassGroup → ℕ → ℕ → List layout.Varblock
row_from P x y = corners_row (K P) (M P) (P.bw - x) x y (rows_from P (y + 1))

-- the whole reading
abbrev pub whole_of : ℕ → ℕ → List ℕ → PassGroup → List ℕ → List ℕ → PerChannel → Reading
whole_of shift clusters preset_map P symbols log G = read_group shift clusters preset_map P (varblocks P) (going symbols 0 log G zero_rows)

-- what is still due: the varblocks vs, from where the reading stands, give the whole
pub record Due (shift clusters : ℕ) (preset_map : List ℕ) (P : PassGroup) (symbols : List ℕ) (most : ℕ) (whole : Reading) (vs : List layout.Varblock) (at₀ : ℕ) (rows : PerChannel) (log : List ℕ) (G : PerChannel) : Type 0 where
  pub due : read_group shift clusters preset_map P vs (going (drop at₀ symbols) at₀ log G rows) ≡ whole
  pub three : length rows ≡ 3
  pub room : at₀ + 192 * area vs ≤ most
