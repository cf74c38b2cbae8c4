-- Places and their stored numbers.
use Rattle.std.specs.Prelude.{◌≡◌, ℕ, zero, suc, ◌+◌, ◌-◌, ◌*◌, ◌/◌, ◌<◌, List, [], ◌∷◌, length, drop, slice_index, slice_index_or, refl}
use Rattle.std.proofs.Common.{ap, arith}
use Rattle.order_natural.specs.Places.{Place, flat, paired}

pub paired_flat : (l : List Place) → paired (flat l) ≡ l
unfolding paired
paired_flat [] = refl
paired_flat (p ∷ l) = ap (λ (r : List Place). p ∷ r) (paired_flat l)

pub flat_paired : (l : List ℕ) (n : ℕ) → length l ≡ 2 * n → flat (paired l) ≡ l
unfolding paired
flat_paired [] n e = refl
flat_paired (x ∷ []) n e = absurd (omega arith)
flat_paired (x ∷ y ∷ r) n e = ap (λ (l : List ℕ). x ∷ y ∷ l) (flat_paired r (n - 1) (omega arith))

pub length_paired : (l : List ℕ) → length (paired l) ≡ length l / 2
unfolding paired
length_paired [] = omega arith
length_paired (a ∷ []) = omega arith
length_paired (a ∷ b ∷ l) = let e : length (paired l) ≡ length l / 2 = length_paired l in omega arith

pub paired_drop : (k : ℕ) (l : List ℕ) → paired (drop (2 * k) l) ≡ drop k (paired l)
unfolding paired
paired_drop zero l = refl
paired_drop (suc k) [] = let e : 2 * suc k ≡ suc (suc (2 * k)) = omega arith in rw e
paired_drop (suc k) (a ∷ []) = let e : 2 * suc k ≡ suc (suc (2 * k)) = omega arith in rw e
paired_drop (suc k) (a ∷ b ∷ l) = let e : 2 * suc k ≡ suc (suc (2 * k)) = omega arith in rw e (paired_drop k l)

pub pair_at : (l : List ℕ) (k : ℕ) → k < length (paired l) → slice_index_or (paired l) k (0, 0) ≡ (slice_index l (2 * k), slice_index l (2 * k + 1))
unfolding paired
pair_at [] k h = absurd (omega arith)
pair_at (a ∷ []) k h = absurd (omega arith)
pair_at (a ∷ b ∷ l) zero h = refl
pair_at (a ∷ b ∷ l) (suc k) h =
    let e : 2 * suc k ≡ suc (suc (2 * k)) = omega arith in
    let f : suc (suc (2 * k)) + 1 ≡ suc (suc (2 * k + 1)) = omega arith in
    rw (e, f) (pair_at l k (omega arith))

pub paired_length : (l : List ℕ) (n : ℕ) → length l ≡ 2 * n → length (paired l) ≡ n
paired_length l n e = let p = length_paired l in omega arith
