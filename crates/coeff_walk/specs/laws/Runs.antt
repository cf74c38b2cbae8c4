-- Runs of zeros within the walk.
use Rattle.std.specs.Prelude.{◌≡◌, List, ℕ, ◌+◌, ◌*◌, ◌-◌, ◌/◌, ◌^◌, ◌<◌, ◌≤◌, length, drop}
use Rattle.std.proofs.Math.ListN.{get_or}
use Rattle.coeff_context.specs.Context.{NUM_NONZERO}
use Rattle.coeff_walk.specs.Walk.{walk}

-- the clusters of coefficients from the entry of a count on of which `left` are left
abbrev pub entries_for : ℕ → List ℕ → ℕ → List ℕ
entries_for exponent coeff_map left = drop (2 * get_or NUM_NONZERO ((left - 1) / 2 ^ exponent) 0) coeff_map

-- what a run of zeros below place `stop` requires
pub record ZerosReady (exponent symbols at from stop entries log : ℕ) : Type 0 where
  pub small : exponent ≤ 10
  pub begins : from ≤ stop
  pub places : stop ≤ 63 * 2 ^ exponent
  pub lent : at + stop ≤ symbols
  pub room : at + stop ≤ log
  pub enough : 60 < entries

-- places from `from` to below r are zeros and logged: the walk is the same from r on
pub record Zeros (exponent : ℕ) (entries symbols : List ℕ) (at from stop : ℕ) (log₀ : List ℕ) (r : ℕ) (log : List ℕ) : Type 0 where
  pub lower : from ≤ r
  pub upper : r ≤ stop
  pub long : length log ≡ length log₀
  pub skipped : (shift : ℕ) (coeff_map places : List ℕ) (left : ℕ) (g : List ℕ) → 0 < left → left ≤ 32 * 2 ^ exponent → entries ≡ entries_for exponent coeff_map left → stop ≤ length places
      → walk shift (2 ^ exponent) coeff_map (drop r places) r 0 left (drop (at + r) symbols) (at + r) log g
      ≡ walk shift (2 ^ exponent) coeff_map (drop from places) from 0 left (drop (at + from) symbols) (at + from) log₀ g
