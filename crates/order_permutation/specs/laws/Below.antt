-- Digits below what remains, and numbers tested one by one.
use Rattle.std.specs.Prelude.{◌≡◌, Bool, cond, ◌&&◌, List, [], ◌∷◌, ℕ, suc, ◌+◌, ◌-◌, ◌<◌, ◌≤◌, ltb, length, get_or, drop}
use Rattle.std.proofs.Math.Path.{refl}
use Rattle.std.proofs.Common.{ap, sym, arith, drop_of_length-le, drop-cons, lt-ltb, le-ltb, ltb-true}
use Rattle.std.proofs.Math.Bool.{true, false}
use Rattle.std.proofs.Math.Numerals.{add-one}
use Rattle.order_permutation.specs.Digits.{Below}
use Rattle.order_digits.specs.laws.Leading.{leading}
use Rattle.order_permutation.specs.laws.Permuted.{all_below}

-- all digits are
pub leading_below : (ds : List ℕ) (left : ℕ) → leading ds left ≡ length ds → Below ds left
unfolding leading
leading_below [] left e = tt
leading_below (d ∷ ds) left e = go (ltb d left) refl e (leading_below ds (left - 1))
  where
    go : (b : Bool) → ltb d left ≡ b → cond b (suc (leading ds (left - 1))) 0 ≡ suc (length ds) → (leading ds (left - 1) ≡ length ds → Below ds (left - 1)) → (d < left) × Below ds (left - 1)
    go true t e r = (ltb-true d left t, r (omega arith))
    go false t e r = absurd (omega arith)

pub both : (all : Bool) (x n : ℕ) → x < n → all ≡ (all && ltb x n)
both true x n h = sym (lt-ltb x n h)
both false x n h = refl

pub neither : (all : Bool) (x n : ℕ) → n ≤ x → false ≡ (all && ltb x n)
neither true x n h = sym (le-ltb x n h)
neither false x n h = refl

-- a test of every number, one turn and the end
module _ (n : ℕ) (l : List ℕ) (i : ℕ) where
  pub below_turn : (all : Bool) → i < length l → ((all && ltb (get_or l i 0) n) && all_below n (drop (i + 1) l)) ≡ (all && all_below n (drop i l))
  unfolding all_below
  below_turn true h = rw (drop-cons l i 0 h, add-one i)
  below_turn false h = refl

  pub below_end : (all : Bool) → length l ≤ i → all ≡ (all && all_below n (drop i l))
  unfolding all_below
  below_end true h = rw (drop_of_length-le l h)
  below_end false h = refl

-- the next digit is below what remains
pub below_next : (ds : List ℕ) (left k : ℕ) → k < length ds → Below (drop k ds) (left - k) → (get_or ds k 0 < left - k) × Below (drop (k + 1) ds) (left - (k + 1))
below_next ds left k h b =
    let e : left - k - 1 ≡ left - (k + 1) = omega arith in
    let f : drop (suc k) ds ≡ drop (k + 1) ds = ap (λ (n : ℕ). drop n ds) (sym (add-one k)) in
    rw f at (rw e at (rw (drop-cons ds k 0 h) at b))
