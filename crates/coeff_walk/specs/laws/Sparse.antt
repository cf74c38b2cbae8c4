-- The walk that skips zeros in runs, as its loop uses it: where it stands, one turn, and how it ends.
use Rattle.std.specs.Prelude.{◌≡◌, List, ℕ, ◌+◌, ◌*◌, ◌-◌, ◌/◌, ◌^◌, ◌<◌, ◌≤◌, length, get_or, drop}
use Rattle.coeff_context.specs.Context.{coeff_context, NUM_NONZERO}
use Rattle.coeff_walk.specs.Walk.{Walked, walk}
use Rattle.coeff_walk.specs.declared.spot.Spot.{Spot}
use Rattle.coeff_walk.specs.laws.Outcome.{spot_cells}

-- the walk stands at place k, below `stop`, up to which there are places and symbols; what is left to do gives the whole
pub record Sparse (spot : Spot) (list symbols : List ℕ) (at : ℕ) (coeff_map : List ℕ) (shift : ℕ) (log₀ grid₀ : List ℕ) (whole : Walked) (stop : ℕ) (log grid : List ℕ) (left prev k : ℕ) : Type 0 where
  pub below : k ≤ stop
  pub due : left ≤ 32 * 2 ^ spot.exponent
  pub flagged : prev ≤ 1
  pub log_long : length log ≡ length log₀
  pub grid_long : length grid ≡ length grid₀
  pub places : stop ≤ length list / 2
  pub lent : stop ≤ length symbols - at
  pub last : stop < length list / 2 → stop ≡ length symbols - at
  pub same : walk shift (2 ^ spot.exponent) coeff_map (drop k (spot_cells spot list)) k prev left (drop (at + k) symbols) (at + k) log grid ≡ whole

-- what one turn needs
pub record Turn (spot : Spot) (list symbols : List ℕ) (at coeff_map log left prev k : ℕ) : Type 0 where
  pub due : 1 ≤ left
  pub counted : left - 1 < 32 * 2 ^ spot.exponent
  pub counts : left - 1 < 63 * 2 ^ spot.exponent
  pub placed : k < length list / 2
  pub place : k < length (spot_cells spot list)
  pub few : k < 63 * 2 ^ spot.exponent
  pub symbol : at + k < length symbols
  pub room : at + k < log
  pub context : coeff_context (2 ^ spot.exponent) (left - 1) k prev < 458
  pub entry : 2 * get_or NUM_NONZERO ((left - 1) / 2 ^ spot.exponent) 0 ≤ coeff_map
