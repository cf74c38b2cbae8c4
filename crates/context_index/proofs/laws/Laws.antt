-- Laws on counting thresholds.
use Rattle.std.specs.Prelude.{◌≡◌, ℕ, ◌+◌, ◌*◌, ◌<◌, ◌≤◌, min, Bool, true, false, cond, List, [], ◌∷◌, length, take, drop, slice_index, count_by, refl}
use Rattle.std.proofs.Common.{sym, mul-le-mul, le-mul_of_pos_right, arith, length-drop, ⊎_elim, take_all, take-take}
use Rattle.std.proofs.Math.ListN.{length-take}
use Rattle.std.proofs.lemmas.List.Recursion.{is_count_by}
use Rattle.laws.specs.laws.Cases.{le_or_lt}
use Rattle.context_index.specs.Contexts.{Contexts, greater, above, lf_index_in, lf_size_of, lf_size, qf_index, lf_index_of, entry_of}
use Rattle.context_index.specs.laws.Contexts.{block_contexts}
use Rattle.context_index.specs.Lists.{lf_list}

one_or_none : (b : Bool) (n : ℕ) → cond b 1 0 + n ≡ cond b (1 + n) n
one_or_none true n = omega arith
one_or_none false n = omega arith

-- the library's word for the same
pub above_is : (q : ℕ) (ts : List ℕ) → above ts q ≡ count_by (greater q) ts
unfolding above
above_is q ts = is_count_by (λ (l : List ℕ). above l q) (greater q) refl (λ t l. one_or_none (greater q t) (above l q)) ts

pub take_min : (n m : ℕ) (xs : List ℕ) → take (min n m) xs ≡ take n (take m xs)
take_min n m xs =
    ⊎_elim
    (λ (k : n ≤ m). let e : min n m ≡ n = omega arith in rw e (sym (take-take n m xs k)))
    (λ (k : m < n). let e : min n m ≡ m = omega arith in rw e (sym (take_all n (take m xs) (omega (arith, length-take m xs)))))
    (le_or_lt n m)

-- the length of a list in 15 places
pub part_length : (xs : List ℕ) (first n : ℕ) → first + 15 ≤ length xs → length (take n (take 15 (drop first xs))) ≡ min n 15
part_length xs first n h = omega (arith, length-take n (take 15 (drop first xs)), length-take 15 (drop first xs), length-drop first xs)

-- Products of sizes.
pub digits_le : {a b s t : ℕ} → a ≤ 15 → s ≤ 16 → b ≤ 15 → t ≤ 16 → (a * s ≤ 240) × ((a * s + b) * t ≤ 4080)
digits_le {a} {b} {s} ha hs hb ht =
    let h : a * s ≤ 240 = mul-le-mul ha hs in
    let k : a * s + b ≤ 255 = omega arith in
    (h, mul-le-mul k ht)

-- Entries of the context map.
pub entry_le : {qfs lfs n order qf : ℕ} → qfs ≤ 16 → lfs ≤ 4096 → n < 3 → order < 2496 → qf ≤ 15
    → ((n * 13 + order) * qfs ≤ 40336) × (((n * 13 + order) * qfs + qf) * lfs ≤ 165277696)
entry_le {qfs} {lfs} {n} {order} {qf} hq hl hn ho hf =
    let k : n * 13 + order ≤ 2521 = omega arith in
    let h : (n * 13 + order) * qfs ≤ 40336 = mul-le-mul k hq in
    let m : (n * 13 + order) * qfs + qf ≤ 40351 = omega arith in
    (h, mul-le-mul m hl)

pub entry_ge : (qfs lfs n order qf lf : ℕ) → 1 ≤ qfs → 1 ≤ lfs → order ≤ entry_of qfs lfs n order qf lf
unfolding entry_of
entry_ge qfs lfs n order qf lf hq hl =
    let a : n * 13 + order ≤ (n * 13 + order) * qfs = le-mul_of_pos_right (n * 13 + order) hq in
    let b : (n * 13 + order) * qfs + qf ≤ ((n * 13 + order) * qfs + qf) * lfs = le-mul_of_pos_right ((n * 13 + order) * qfs + qf) hl in
    omega arith

module _ (xs : List ℕ) (n0 n1 n2 q0 q1 q2 i0 i1 i2 s1 s2 : ℕ) (long : 45 ≤ length xs) where
  pub lf_index_is : i0 ≡ above (lf_list xs 0 n0) q0 → i1 ≡ above (lf_list xs 1 n1) q1 → i2 ≡ above (lf_list xs 2 n2) q2
      → s1 ≡ min n1 15 → s2 ≡ min n2 15
      → (i0 * (s2 + 1) + i2) * (s1 + 1) + i1 ≡ lf_index_in (lf_list xs 0 n0) (lf_list xs 1 n1) (lf_list xs 2 n2) q0 q1 q2
  unfolding lf_index_in
  lf_index_is e0 e1 e2 f1 f2 =
      rw (part_length xs 15 n1 (omega arith), part_length xs 30 n2 (omega arith), e0, e1, e2, f1, f2)

pub lf_size_is : (xs : List ℕ) (n0 n1 n2 : ℕ) → 45 ≤ length xs
    → lf_size_of (lf_list xs 0 n0) (lf_list xs 1 n1) (lf_list xs 2 n2) ≡ (min n0 15 + 1) * (min n1 15 + 1) * (min n2 15 + 1)
unfolding lf_size_of
lf_size_is xs n0 n1 n2 long =
    rw (part_length xs 0 n0 (omega arith), part_length xs 15 n1 (omega arith), part_length xs 30 n2 (omega arith))

-- the three block contexts of a varblock, by the sizes that the code computes
module _ (C : Contexts) (order hf_mul : ℕ) (there : Bool) (q0 q1 q2 : ℕ) (qfs lfs qf lf a b c : ℕ) where
  pub contexts_are : qfs ≡ length C.qf_thresholds + 1 → lfs ≡ lf_size C → qf ≡ qf_index C hf_mul → lf ≡ lf_index_of C there q0 q1 q2
      → a ≡ slice_index C.context_map (entry_of qfs lfs 0 order qf lf)
      → b ≡ slice_index C.context_map (entry_of qfs lfs 1 order qf lf)
      → c ≡ slice_index C.context_map (entry_of qfs lfs 2 order qf lf)
      → a ∷ b ∷ c ∷ [] ≡ block_contexts C order hf_mul there q0 q1 q2
  contexts_are e f g h x y z = rw (x, y, z, e, f, g, h)
