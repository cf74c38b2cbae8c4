-- What the tests before work tell.
use Rattle.std.specs.Prelude.{◌≡◌, Bool, true, false, ◌&&◌, List, ℕ, length}
use Rattle.refusal.specs.Said.{said_at}
use Rattle.layout.specs.Check.{is_layout}
use Rattle.refusal.specs.Answer.{gives, refuses}
use Rattle.lent_check.specs.Calls.{check_of}
use Rattle.lent_sides.specs.Limits.{in_limits, lengths_fit}

-- sides of at most 256, lengths of as many cells, and the cells are a layout
unfoldable pub is_lent_layout : ℕ → ℕ → List ℕ → List ℕ → Bool
is_lent_layout bw bh kinds hf_mul = in_limits 256 bw bh && (lengths_fit bw bh (length kinds) (length hf_mul) && is_layout bw bh kinds hf_mul)

-- where the sides are in the limits and the lengths fit, only the cells are left to see
module _ (w h : ℕ) (kinds hf_mul : List ℕ) where
  pub lent_size : in_limits 256 w h ≡ false → is_lent_layout w h kinds hf_mul ≡ false
  unfolding is_lent_layout
  lent_size e = rw e

  module _ (e : in_limits 256 w h ≡ true) where
    pub lent_length : lengths_fit w h (length kinds) (length hf_mul) ≡ false → is_lent_layout w h kinds hf_mul ≡ false
    unfolding is_lent_layout
    lent_length f = rw (e, f)

    pub lent_cells : lengths_fit w h (length kinds) (length hf_mul) ≡ true → is_lent_layout w h kinds hf_mul ≡ is_layout w h kinds hf_mul
    unfolding is_lent_layout
    lent_cells f = rw (e, f)

-- The ends of the check.
module _ (limit w h : ℕ) (kinds hf_mul : List ℕ) where
  pub check_size : in_limits limit w h ≡ false → check_of limit w h kinds hf_mul ≡ refuses (said_at 2 0 0)
  unfolding check_of
  check_size e = rw e

  module _ (e : in_limits limit w h ≡ true) where
    pub check_length : lengths_fit w h (length kinds) (length hf_mul) ≡ false → check_of limit w h kinds hf_mul ≡ refuses (said_at 1 0 0)
    unfolding check_of
    check_length f = rw (e, f)

    pub check_fault : lengths_fit w h (length kinds) (length hf_mul) ≡ true → is_layout w h kinds hf_mul ≡ false → check_of limit w h kinds hf_mul ≡ refuses (said_at 18 0 0)
    unfolding check_of
    check_fault f g = rw (e, f, g)

    pub check_fine : lengths_fit w h (length kinds) (length hf_mul) ≡ true → is_layout w h kinds hf_mul ≡ true → check_of limit w h kinds hf_mul ≡ gives tt
    unfolding check_of
    check_fine f g = rw (e, f, g)
