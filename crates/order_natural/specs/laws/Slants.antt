-- Diagonals in closed form: what is kept of them is a place for each row that is a multiple of s, outside the corner.
use Rattle.std.specs.Prelude.{◌≡◌, ℕ, zero, suc, ◌+◌, ◌-◌, ◌*◌, ◌%◌, ◌<◌, ◌≤◌, cond, List, [], ◌∷◌, ◌++◌, length, ◌==◌, ◌≢◌}
use Rattle.order_natural.specs.Places.{Place, flat}
use Rattle.order_natural.specs.Natural.{diagonal, keep}

-- how many multiples of s are below u
unfoldable pub multiples : ℕ → ℕ → ℕ
multiples s zero = 0
multiples s (suc u) = cond (u % s == 0) (suc (multiples s u)) (multiples s u)

-- the cells of the diagonal x + y = t in rows q * s, stored with y = q: n of them from q upwards, or from below q downwards
unfoldable pub ups : ℕ → ℕ → ℕ → ℕ → List Place
ups t s zero q = []
ups t s (suc n) q = (t - q * s, q) ∷ ups t s n (suc q)

unfoldable pub downs : ℕ → ℕ → ℕ → ℕ → List Place
downs t s zero q = []
downs t s (suc n) q = (t - (q - 1) * s, q - 1) ∷ downs t s n (q - 1)

-- a diagonal that crosses the corner: the rows on both sides of it
unfoldable pub near : ℕ → ℕ → ℕ → List Place
near w s d =
    let rest = multiples s (d - w) in
    let lowest = multiples s w in
    let highest = multiples s d in
    cond (d % 2 == 1) (downs (d - 1) s (highest - lowest) highest ++ downs (d - 1) s rest rest) (ups (d - 1) s rest 0 ++ ups (d - 1) s (highest - lowest) lowest)

-- with the numbers as the code has them
pub record Near (w s d rest lo hi : ℕ) : Type 0 where
  pub few : lo ≤ hi
  pub most : hi ≤ d
  pub less : rest ≤ d
  pub rows : (q : ℕ) → q < hi → q * s ≤ d - 1
  pub rows_left : (q : ℕ) → q < rest → q * s ≤ d - 1
  pub long : length (flat (near w s d)) ≡ 2 * (hi - lo) + 2 * rest
  pub down : d % 2 ≡ 1 → flat (near w s d) ≡ flat (downs (d - 1) s (hi - lo) hi) ++ flat (downs (d - 1) s rest rest)
  pub up : (d % 2 ≢ 1) → flat (near w s d) ≡ flat (ups (d - 1) s rest 0) ++ flat (ups (d - 1) s (hi - lo) lo)

-- with the rows as the code has them: from lo to below hi
pub record Slant (w s b d lo hi : ℕ) : Type 0 where
  pub few : lo ≤ hi
  pub most : hi ≤ d
  pub rows : (q : ℕ) → q < hi → q * s ≤ d - 1
  pub long : length (flat (keep w s (diagonal b d))) ≡ 2 * (hi - lo)
  pub down : d % 2 ≡ 1 → flat (keep w s (diagonal b d)) ≡ flat (downs (d - 1) s (hi - lo) hi)
  pub up : (d % 2 ≢ 1) → flat (keep w s (diagonal b d)) ≡ flat (ups (d - 1) s (hi - lo) lo)
