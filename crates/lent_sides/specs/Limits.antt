-- Sides and lengths of a lent layout (document 01, Refused, 1 and 2).
use Rattle.std.specs.Prelude.{Bool, ◌&&◌, ℕ, ◌*◌, ◌≤◌, leb, eqb}

-- neither side is above the limit
unfoldable pub in_limits : ℕ → ℕ → ℕ → Bool
in_limits limit bw bh = leb bw limit && leb bh limit

-- as many kinds and as many hf_mul as cells
unfoldable pub lengths_fit : ℕ → ℕ → ℕ → ℕ → Bool
lengths_fit bw bh kinds hf_mul = eqb kinds (bh * bw) && eqb hf_mul (bh * bw)

pub record Sided (limit bw bh : ℕ) : Type 0 where
  pub bw_to : bw ≤ limit
  pub bh_to : bh ≤ limit
