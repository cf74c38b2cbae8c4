-- Digits counted from the front (document 01, Orders).
use Rattle.std.specs.Prelude.{◌≡◌, Bool, true, false, cond, List, [], ◌∷◌, ℕ, suc, ◌+◌, ◌-◌, ◌<◌, ◌≤◌, ltb, length, get_or, drop}
use Rattle.std.proofs.Math.Numerals.{add-one}
use native.Mathlib.Omega.{arith}
use Rattle.std.proofs.Common.{drop_of_length-le, drop-cons}
use borrow.Author.Tests.{lt-ltb, le-ltb}
use Rattle.order_digits.specs.laws.Leading.{leading}

pub leading_most : (ds : List ℕ) (left : ℕ) → leading ds left ≤ length ds
unfolding leading
leading_most [] left = omega arith
leading_most (d ∷ ds) left = go (ltb d left) (leading_most ds (left - 1))
  where
    go : (b : Bool) → leading ds (left - 1) ≤ length ds → cond b (suc (leading ds (left - 1))) 0 ≤ suc (length ds)
    go true h = omega arith
    go false h = omega arith

-- one turn, and the ways out, of a count from the front
module _ (ds : List ℕ) (left k : ℕ) where
  pub leading_turn : k < length ds → get_or ds k 0 < left - k → leading (drop k ds) (left - k) ≡ suc (leading (drop (k + 1) ds) (left - (k + 1)))
  unfolding leading
  leading_turn h b =
      let e : left - k - 1 ≡ left - (k + 1) = omega arith in
      rw (drop-cons ds k 0 h, lt-ltb (get_or ds k 0) (left - k) b, e, add-one k)

  pub leading_stop : k < length ds → left - k ≤ get_or ds k 0 → leading (drop k ds) (left - k) ≡ 0
  unfolding leading
  leading_stop h b = rw (drop-cons ds k 0 h, le-ltb (get_or ds k 0) (left - k) b)

  pub leading_end : length ds ≤ k → leading (drop k ds) (left - k) ≡ 0
  unfolding leading
  leading_end h = rw (drop_of_length-le ds h)

pub leading_start : (ds : List ℕ) (left : ℕ) → leading (drop 0 ds) (left - 0) ≡ leading ds left
leading_start ds left = let e : left - 0 ≡ left = omega arith in rw e
