-- What is left out of the square, and what is kept of it.
use Rattle.std.specs.Prelude.{◌≡◌, ℕ, ◌+◌, ◌*◌, ◌/◌, ◌%◌, ◌<◌, Bool, true, false, cond, not, ◌&&◌, List, [], ◌∷◌, ◌==◌, nat_lt, refl}
use Rattle.std.proofs.Common.{sym, ◌∙◌, mul-div_cancel, div-add-mod', arith, eqb-true}
use Rattle.std.proofs.Math.Decide.{ℕ_discrete}
use Rattle.order_natural.specs.Places.{Place, is, tally, count}
use Rattle.order_natural.specs.Natural.{listed, keep}
use Rattle.order_natural.specs.Order.{Hit}
use Rattle.order_natural.proofs.laws.Counts.{is_hit, is_miss}
use Rattle.order_natural.proofs.laws.Bools.{and_right}
use Rattle.order_natural.specs.laws.Keep.{counted}

module _ (w s x y : ℕ) (some : 0 < s) (r : List Place) (n : ℕ) where
  -- the cell that is asked for
  same_cell : (b : Bool) → count x y r ≡ counted b n → count x y (cond b ((x, y * s / s) ∷ r) r) ≡ counted b (1 + n)
  same_cell true e = rw (is_hit x y (x, y * s / s) (refl, sym (mul-div_cancel y some))) (omega arith)
  same_cell false e = e

  -- another cell
  other_cell : (a c : ℕ) (b : Bool) → listed w s (a, c) ≡ b → (Hit x (y * s) (a, c) → ⊥) → count x y (cond b ((a, c / s) ∷ r) r) ≡ count x y r
  other_cell a c true l o =
      let z : c % s ≡ 0 = eqb-true (c % s) 0 (and_right (not (nat_lt a w && nat_lt c w)) (c % s == 0) l) in
      let d = div-add-mod' c s in
      rw (is_miss x y (a, c / s) (λ h. o (h.0, rw h.1 (omega arith)))) (omega arith)
  other_cell a c false l o = refl

  step : (a c : ℕ) → count x y r ≡ counted (listed w s (x, y * s)) n
      → count x y (cond (listed w s (a, c)) ((a, c / s) ∷ r) r) ≡ counted (listed w s (x, y * s)) (tally (is x (y * s) (a, c)) + n)
  step a c e = go (ℕ_discrete x a) (ℕ_discrete (y * s) c)
    where
      other : (Hit x (y * s) (a, c) → ⊥) → count x y (cond (listed w s (a, c)) ((a, c / s) ∷ r) r) ≡ counted (listed w s (x, y * s)) (tally (is x (y * s) (a, c)) + n)
      other o =
          let z : 0 + n ≡ n = omega arith in
          other_cell a c (listed w s (a, c)) refl o ∙ e ∙ rw (is_miss x (y * s) (a, c) o, z)

      go : Dec (x ≡ a) → Dec (y * s ≡ c) → count x y (cond (listed w s (a, c)) ((a, c / s) ∷ r) r) ≡ counted (listed w s (x, y * s)) (tally (is x (y * s) (a, c)) + n)
      go (no i) j = other (λ h. i h.0)
      go (yes i) (no j) = other (λ h. j h.1)
      go (yes i) (yes j) =
          rw (is_hit x (y * s) (a, c) (i, j), ← i, ← j) (same_cell (listed w s (x, y * s)) e)

pub keep_count : (w s x y : ℕ) → 0 < s → (l : List Place) → count x y (keep w s l) ≡ counted (listed w s (x, y * s)) (count x (y * s) l)
keep_count w s x y h [] = sym (none (listed w s (x, y * s)))
  where
    none : (b : Bool) → counted b 0 ≡ 0
    none true = refl
    none false = refl
keep_count w s x y h (p ∷ l) = step w s x y h (keep w s l) (count x (y * s) l) p.0 p.1 (keep_count w s x y h l)
