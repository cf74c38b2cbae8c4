-- Thresholds counted one by one.
use Rattle.std.specs.Prelude.{◌≡◌, ℕ, suc, ◌+◌, ◌<◌, ◌≤◌, Bool, true, false, cond, List, ◌∷◌, length, take, drop, slice_index, refl}
use Rattle.std.proofs.Common.{add-one, arith, length-drop, drop_of_length-le, drop-cons, get_or-take, get_or-drop}
use Rattle.std.proofs.Math.ListN.{length-take}
use Rattle.context_index.specs.Contexts.{greater, above}

cons : (t : ℕ) (ts : List ℕ) (q : ℕ) → above (t ∷ ts) q ≡ cond (greater q t) 1 0 + above ts q
unfolding above
cons t ts q = refl

module _ (ts : List ℕ) (first m q : ℕ) (fits : first + m ≤ length ts) where
  -- one threshold, and those behind it
  pub above_step : (k : ℕ) → k < m
      → above (drop k (take m (drop first ts))) q
      ≡ cond (greater q (slice_index ts (first + k))) 1 0 + above (drop (k + 1) (take m (drop first ts))) q
  above_step k h =
      let l = take m (drop first ts) in
      let long : k < length l = omega (arith, length-take m (drop first ts), length-drop first ts) in
      rw (drop-cons l k 0 long, add-one k, get_or-take m (drop first ts) k 0 h, get_or-drop first ts k 0)
      (cons (slice_index ts (first + k)) (drop (suc k) l) q)

  pub above_end : (k : ℕ) → m ≤ k → above (drop k (take m (drop first ts))) q ≡ 0
  unfolding above
  above_end k h = rw (drop_of_length-le (take m (drop first ts)) {i = k} (omega (arith, length-take m (drop first ts))))

pub one_at_most : (b : Bool) → cond b 1 0 ≤ 1
one_at_most true = omega arith
one_at_most false = omega arith
