-- The coefficients behind a count, as they are lent: what fits, and their reading.
use Rattle.std.specs.Prelude.{Bool, cond, ◌&&◌, List, ℕ, ◌*◌, ◌-◌, ◌/◌, ◌^◌, ◌≤◌, leb, eqb, length, drop}
use Rattle.refusal.specs.declared.Refusal.TheVariants.{Length, Count}
use Rattle.coeff_walk.specs.declared.spot.Spot.{Spot}
use Rattle.coeff_walk.specs.Walk.{Walked, stopped, walk}
use Rattle.coeff_walk.specs.laws.Outcome.{spot_cells}

-- limits: a first cell and a width of at most 256, at most 2^10 blocks
abbrev pub spot_small : Spot → (shift : ℕ) → Bool
spot_small spot shift =
    leb spot.width 256
    && leb spot.x 256
    && leb spot.y 256
    && leb spot.exponent 10
    && leb shift 3

-- limits, a list of at most 63 places for each block (two numbers a place), the 458 entries of the coefficients, and a log with room for a symbol of each place
unfoldable pub lent_fits : Spot → (list_length at coeff_map_length shift log_length : ℕ) → Bool
lent_fits spot list_length at coeff_map_length shift log_length =
    spot_small spot shift
    && leb at log_length
    && (leb (list_length / 2) (63 * 2 ^ spot.exponent)
    && eqb coeff_map_length 458
    && leb (list_length / 2) (log_length - at))

-- the reading behind a count, `first_prev` if it is at most four for each block; nothing is read where what is lent does not fit
abbrev pub places_read : Spot → (list symbols : List ℕ) (at count : ℕ) → Bool → (coeff_map : List ℕ) (shift : ℕ) (log g : List ℕ) → Walked
places_read spot list symbols at count first_prev coeff_map shift log g =
    cond (lent_fits spot (length list) at (length coeff_map) shift (length log))
    (cond (leb count (63 * 2 ^ spot.exponent))
    (walk shift (2 ^ spot.exponent) coeff_map (spot_cells spot list) 0 (cond first_prev 1 0) count (drop at symbols) at log g)
    (stopped Count at log g))
    (stopped (λ n. Length) at log g)

-- the limits, each by itself
pub record SpotLimits (spot : Spot) (shift : ℕ) : Type 0 where
  pub width : spot.width ≤ 256
  pub in_x : spot.x ≤ 256
  pub in_y : spot.y ≤ 256
  pub exponent : spot.exponent ≤ 10
  pub shifts : shift ≤ 3
