-- Counts: their bounds and contexts, and the steps of rewriting a row of them.
use Rattle.std.specs.Prelude.{◌≡◌, refl, Bool, true, false, cond, List, [], ◌∷◌, ◌++◌, ℕ, zero, suc, ◌+◌, ◌*◌, ◌-◌, ◌/◌, ◌%◌, ◌^◌, ◌<◌, ◌≤◌, leb, length, get_or, set, take, drop, replicate}
use Rattle.std.proofs.Common.{ap, sym, ◌∙◌, append_assoc, add-one, length-set, arith, mul-le-mul, div-lt_iff_lt-mul, mod-eq_of_lt, le-leb, pow_mono}
use Rattle.std.proofs.lemmas.Bool.{lt-leb}
use Rattle.std.proofs.lemmas.List.{take-append-drop, drop-set-lt, drop-drop}
use Rattle.std.proofs.Math.Seq.{take-suc-set}
use Rattle.laws.specs.Lists.{fill_from}
use Rattle.coeff_walk.specs.Item.{predicted, count_index, count_over}

pub count_over_lem : (n blocks : ℕ) → 0 < blocks → n ≤ 63 * blocks → count_over n blocks ≤ 63
count_over_lem n blocks h l =
    let a : count_over n blocks < 64 = (div-lt_iff_lt-mul {k = blocks} {x = n + blocks - 1} {y = 64} h).1 (omega arith) in omega arith

pub index_small : (p : ℕ) → p ≤ 4294967295 → count_index p ≤ 4294967295
index_small p h = go (leb 8 p)
  where
    go : (b : Bool) → cond b (4 + p / 2) p ≤ 4294967295
    go true = omega arith
    go false = h

-- the entries of coefficients lie in the preset's 495 × clusters
pub part_entry : (block_context clusters : ℕ) → block_context < clusters → block_context * 458 + 37 * clusters + 458 ≤ 495 * clusters
part_entry block_context clusters h = omega arith

-- predictions by cases, as the code has them
pub predicted_y0 : (row : List ℕ) (x y : ℕ) → y ≡ 0 → (x ≡ 0 → ⊥) → get_or row (x - 1) 0 ≡ predicted row x y
predicted_y0 row zero y e f = absurd (f refl)
predicted_y0 row (suc x) y e f = let z : suc x - 1 ≡ x = omega arith in rw (e, z)

pub predicted_x0 : (row : List ℕ) (x y : ℕ) → (y ≡ 0 → ⊥) → x ≡ 0 → get_or row 0 0 ≡ predicted row x y
predicted_x0 row x zero e f = absurd (e refl)
predicted_x0 row x (suc y) e f = rw f

pub predicted_both : (row : List ℕ) (x y : ℕ) → (y ≡ 0 → ⊥) → (x ≡ 0 → ⊥) → (get_or row x 0 + get_or row (x - 1) 0 + 1) / 2 ≡ predicted row x y
predicted_both row x zero e f = absurd (e refl)
predicted_both row zero (suc y) e f = absurd (f refl)
predicted_both row (suc x) (suc y) e f = let z : suc x - 1 ≡ x = omega arith in rw z

-- a row with one number n times from x on, as a part of it is filled
pub row_filled : (row : List ℕ) (x n v : ℕ) → x + n ≤ length row → take x row ++ (replicate n v ++ drop n (drop x row)) ≡ fill_from row x n v
unfolding fill_from
row_filled row x zero v h = take-append-drop x row
row_filled row x (suc n) v h =
    let a : take (x + 1) (set row x v) ≡ take x row ++ (v ∷ []) = rw (add-one x) (take-suc-set row x v (omega arith)) in
    let b : drop (x + 1) (set row x v) ≡ drop (x + 1) row = drop-set-lt (x + 1) row x v (omega arith) in
    let d : drop n (drop (x + 1) row) ≡ drop (suc n) (drop x row) = drop-drop n (x + 1) row ∙ ap (λ (k : ℕ). drop k row) (omega arith) ∙ sym (drop-drop (suc n) x row) in
    let e : (take x row ++ (v ∷ [])) ++ (replicate n v ++ drop (suc n) (drop x row)) ≡ take x row ++ (v ∷ (replicate n v ++ drop (suc n) (drop x row))) = append_assoc (take x row) (v ∷ []) (replicate n v ++ drop (suc n) (drop x row)) in
    sym e ∙ (rw (a, b, d) at (row_filled (set row x v) (x + 1) n v (omega (arith, length-set row x v))))

pub few_yes : (n m : ℕ) → n ≤ m → ◌≡◌ {A = ℕ} 1 (cond (leb n m) 1 0)
few_yes n m h = rw (le-leb n m h)

pub few_no : (n m : ℕ) → m < n → ◌≡◌ {A = ℕ} 0 (cond (leb n m) 1 0)
few_no n m h = rw (lt-leb n m h)

-- powers of two up to 2^10
pub power_le : (exponent : ℕ) → exponent ≤ 10 → 2 ^ exponent ≤ 1024
power_le exponent h = pow_mono h

pub shifted_left : (a exponent : ℕ) → a ≤ 192 → exponent ≤ 10 → a * 2 ^ exponent % 2 ^ 64 ≡ a * 2 ^ exponent
shifted_left a exponent h l =
    mod-eq_of_lt (let b : a * 2 ^ exponent ≤ 192 * 1024 = mul-le-mul {n₁ = a} {m₁ = 2 ^ exponent} {n₂ = 192} {m₂ = 1024} h (power_le exponent l) in omega arith)

pub few_le : (n m : ℕ) → cond (leb n m) 1 0 ≤ 1
few_le n m = go (leb n m)
  where
    go : (b : Bool) → cond b 1 0 ≤ 1
    go true = omega arith
    go false = omega arith
