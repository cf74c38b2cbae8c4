-- What an accepted order call gives, and when a refused one stops.
use Rattle.std.specs.Prelude.{◌≡◌, List, [], ℕ, ◌+◌, ◌*◌, ◌<◌, length, get_or}
use Rattle.order_natural.specs.Places.{Place}
use Rattle.order_sizes.specs.BlockSizes.{BLOCK_SIZES, width_of, height_of}
use Rattle.order_call.specs.Orders.{plan, is_used}
use Rattle.order_call.specs.laws.Read.{ListGiven, Each}

-- 39 lists, those of order k at 3 k, 3 k + 1, 3 k + 2; each symbol is read or left
pub record Accepted (used : ℕ) (us : List ℕ) (ls : List (List Place)) (vs : List ℕ) (m : ℕ) : Type 0 where
  pub entries : Each (plan used 0 BLOCK_SIZES) ls
  pub many : length ls ≡ 39
  pub list : (k c : ℕ) → k < 13 → c < 3 → ListGiven (is_used used k) (width_of k) (height_of k) (get_or ls (3 * k + c) [])
  pub read : m + length vs ≡ length us
