-- Bounds on block contexts: the entry stays below 39 × bsize, and in a fit record every block context is below num_block_clusters.
use Rattle.std.specs.Prelude.{◌≡◌, ℕ, suc, ◌+◌, ◌-◌, ◌*◌, ◌%◌, ◌^◌, ◌<◌, ◌≤◌, Bool, true, false, cond, List, [], ◌∷◌, length, take, drop, negsuc, int_lt, nat_lt}
use Rattle.std.proofs.Common.{ap, sym, subst, ◌∙◌, ⊎_elim, mul_comm, mul_assoc, mul-le-mul, arith, length-take, to_z, lt-ltb, le-ltb}
use Rattle.std.proofs.Math.Arith.{digits_lt}
use Rattle.std.specs.Int.{w32}
use Rattle.std.proofs.lemmas.Int.{to_z_pos}
use Rattle.laws.specs.laws.Cases.{le_or_lt}
use Rattle.context_record.specs.declared.HfBlockContext.{HfBlockContext}
use Rattle.context_record.specs.laws.Bounds.{is_fit, fit_byte}
use Rattle.context_index.specs.Contexts.{Contexts, lf_size_of, lf_size, greater, above, qf_index, lf_index_in, lf_index, lf_index_of, entry_of, entry_in, block_context, bsize}
use Rattle.context_index.specs.Lists.{in_use}
use Rattle.context_record.specs.Record.{bsize_of, fit}

more : (b : Bool) {m n : ℕ} → m ≤ n → cond b 1 0 + m ≤ suc n
more true h = omega arith
more false h = omega arith

pub above_le : (ts : List ℕ) (q : ℕ) → above ts q ≤ length ts
unfolding above
above_le [] q = omega arith
above_le (t ∷ ts) q = more (greater q t) (above_le ts q)

pub qf_index_lt : (C : Contexts) (hf_mul : ℕ) → qf_index C hf_mul < length C.qf_thresholds + 1
qf_index_lt C hf_mul = omega (arith, above_le C.qf_thresholds hf_mul)

swap : (a b c : ℕ) → a * c * b ≡ a * b * c
swap a b c = mul_assoc a c b ∙ ap (λ (n : ℕ). a * n) (mul_comm c b) ∙ sym (mul_assoc a b c)

pub lf_index_lt : (C : Contexts) (q0 q1 q2 : ℕ) → lf_index C q0 q1 q2 < lf_size C
unfolding lf_index_in lf_size_of
lf_index_lt C q0 q1 q2 =
    subst (λ (n : ℕ). lf_index C q0 q1 q2 < n) (swap (length C.lf_thresholds0 + 1) (length C.lf_thresholds1 + 1) (length C.lf_thresholds2 + 1))
    (digits_lt
    (digits_lt {q = above C.lf_thresholds0 q0} {m = length C.lf_thresholds0 + 1} {r = above C.lf_thresholds2 q2} {c = length C.lf_thresholds2 + 1}
    (omega (arith, above_le C.lf_thresholds0 q0))
    (omega (arith, above_le C.lf_thresholds2 q2)))
    (omega (arith, above_le C.lf_thresholds1 q1)))

lf_size_pos : (C : Contexts) → 0 < lf_size C
lf_size_pos C = omega (arith, lf_index_lt C 0 0 0)

pub lf_index_of_lt : (C : Contexts) (there : Bool) (q0 q1 q2 : ℕ) → lf_index_of C there q0 q1 q2 < lf_size C
lf_index_of_lt C true q0 q1 q2 = lf_index_lt C q0 q1 q2
lf_index_of_lt C false q0 q1 q2 = lf_size_pos C

-- the index of any varblock lies in the used part of the map
pub entry_lt : (C : Contexts) (n order qf lf : ℕ) → n < 3 → order < 13 → qf < length C.qf_thresholds + 1 → lf < lf_size C
    → entry_in C n order qf lf < 39 * bsize C
unfolding entry_of lf_size_of bsize_of
entry_lt C n order qf lf hn ho hq hl =
    subst (λ (m : ℕ). entry_in C n order qf lf < m)
    (mul_assoc 39 (length C.qf_thresholds + 1) (lf_size C) ∙ ap (λ (m : ℕ). 39 * m) (mul_comm (length C.qf_thresholds + 1) (lf_size C)))
    (digits_lt (digits_lt {q = n * 13 + order} {m = 39} {r = qf} {c = length C.qf_thresholds + 1} (omega arith) hq) hl)

pub block_entry_lt : (C : Contexts) (n order hf_mul : ℕ) (there : Bool) (q0 q1 q2 : ℕ) → n < 3 → order < 13
    → entry_in C n order (qf_index C hf_mul) (lf_index_of C there q0 q1 q2) < 39 * bsize C
block_entry_lt C n order hf_mul there q0 q1 q2 hn ho =
    entry_lt C n order (qf_index C hf_mul) (lf_index_of C there q0 q1 q2) hn ho (qf_index_lt C hf_mul) (lf_index_of_lt C there q0 q1 q2)

ltb_same : (x y u v : ℕ) → (x < y → u < v) → (y ≤ x → v ≤ u) → nat_lt x y ≡ nat_lt u v
ltb_same x y u v f g =
    ⊎_elim (λ h. le-ltb x y h ∙ sym (le-ltb u v (g h))) (λ h. lt-ltb x y h ∙ sym (lt-ltb u v (f h))) (le_or_lt y x)

negative : (a : ℕ) → 2 ^ 31 ≤ a → to_z w32 a ≡ negsuc (2 ^ 32 - suc a)
negative a h = rw (le-ltb a (2 ^ 31) h)

-- the bit patterns compare as the signed numbers do
pub greater_signed : (a b : ℕ) → a < 2 ^ 32 → b < 2 ^ 32 → greater a b ≡ int_lt (to_z w32 b) (to_z w32 a)
greater_signed a b ha hb =
    let l = (b + 2 ^ 31) % 2 ^ 32 in
    let r = (a + 2 ^ 31) % 2 ^ 32 in
    ⊎_elim
    (λ h. ⊎_elim
    (λ k. rw (negative a h, negative b k) (ltb_same l r (2 ^ 32 - suc a) (2 ^ 32 - suc b) (λ e. omega arith) (λ e. omega arith)))
    (λ k. rw (negative a h, to_z_pos w32 b k) (le-ltb l r (omega arith)))
    (le_or_lt (2 ^ 31) b))
    (λ h. ⊎_elim
    (λ k. rw (to_z_pos w32 a h, negative b k) (lt-ltb l r (omega arith)))
    (λ k. rw (to_z_pos w32 a h, to_z_pos w32 b k) (ltb_same l r b a (λ e. omega arith) (λ e. omega arith)))
    (le_or_lt (2 ^ 31) b))
    (le_or_lt (2 ^ 31) a)

take_le : (n : ℕ) (xs : List ℕ) → length (take n xs) + 1 ≤ n + 1
take_le n xs = omega (arith, length-take n xs)

pub in_use_size_le : (R : HfBlockContext) → bsize (in_use R) ≤ bsize_of R.lengths
unfolding bsize_of
in_use_size_le R =
    mul-le-mul
    (mul-le-mul (mul-le-mul (take_le _ (take 15 R.lf_thresholds)) (take_le _ (take 15 (drop 15 R.lf_thresholds)))) (take_le _ (take 15 (drop 30 R.lf_thresholds))))
    (take_le _ R.qf_thresholds)

-- the block context of any varblock is below the record's num_block_clusters
pub context_lt : (R : HfBlockContext) (n order hf_mul : ℕ) (there : Bool) (q0 q1 q2 : ℕ) → fit R ≡ true → n < 3 → order < 13
    → block_context (in_use R) n order hf_mul there q0 q1 q2 < R.num_block_clusters
context_lt R n order hf_mul there q0 q1 q2 e hn ho =
    let f = is_fit R e in
    fit_byte R.num_block_clusters R.lengths R.qf_thresholds R.block_ctx_map f _ (omega (arith, block_entry_lt (in_use R) n order hf_mul there q0 q1 q2 hn ho, in_use_size_le R))
