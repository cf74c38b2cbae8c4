-- Lists copied into arrays.
use Rattle.std.specs.Prelude.{◌≡◌, refl, List, [], ◌++◌, ℕ, ◌+◌, ◌-◌, ◌≤◌, ◌<◌, length, take, drop, set, get_or, replicate}
use Rattle.std.proofs.Common.{ap, sym, ◌∙◌, append-nil, append_assoc, add-one, arith, length-append, take_all, take_at, take-suc, take-suc-set, get_or-append-add}
use Rattle.std.proofs.lemmas.List.{length-replicate, get_or-replicate}
use Rattle.std.proofs.Math.ListN.{get_or-append}
use Rattle.std.proofs.Math.Seq.{drop-append-add, paste, paste-suc}
use Rattle.context_thresholds.specs.Thresholds.{pad}

-- one element more of a copy from place at on
pub copy_more : (d : List ℕ) (at : ℕ) (s m : List ℕ) (k : ℕ) → m ≡ paste d at s k → at + k < length d → k < length s
    → set m (at + k) (get_or s k 0) ≡ paste d at s (k + 1)
copy_more d at s m k e h l = rw (e, add-one k) (paste-suc d at s k 0 h l)

-- A list s and 0 behind it, laid place by place over n elements; m is what stands there after k places.
module _ (n : ℕ) (s : List ℕ) (fits : length s ≤ n) (m : List ℕ) (l : length m ≡ n) (k : ℕ) (e : take k m ≡ take k (pad n s)) where
  padded : length (pad n s) ≡ n
  padded = length-append s (replicate (n - length s) 0) ∙ omega (arith, length-replicate {A = ℕ} (n - length s) 0)

  more : (v : ℕ) → k < n → get_or (pad n s) k 0 ≡ v → take (k + 1) (set m k v) ≡ take (k + 1) (pad n s)
  more v h g =
      rw (add-one, take-suc-set m k v (omega arith), take-suc (pad n s) k 0 (omega (arith, padded)), e, g)

  pub pad_copied : k < length s → take (k + 1) (set m k (get_or s k 0)) ≡ take (k + 1) (pad n s)
  pad_copied h = more (get_or s k 0) (omega arith) (get_or-append s (replicate (n - length s) 0) 0 k h)

  pub pad_cleared : length s ≤ k → k < n → take (k + 1) (set m k 0) ≡ take (k + 1) (pad n s)
  pad_cleared h b =
      let j : k ≡ length s + (k - length s) = omega arith in
      more 0 b
      (ap (λ (i : ℕ). get_or (pad n s) i 0) j
      ∙ get_or-append-add s (replicate (n - length s) 0) (k - length s) 0
      ∙ get_or-replicate (n - length s) (k - length s) 0 0 (omega arith))

  pub pad_whole : k ≡ n → m ≡ pad n s
  pad_whole h = sym (take_all k m (omega arith)) ∙ e ∙ take_all k (pad n s) (omega (arith, padded))

-- 15 elements laid over what stands behind x
lay : (x z l : List ℕ) (n : ℕ) → length x ≡ n → length l ≡ 15 → paste (x ++ z) n l 15 ≡ (x ++ l) ++ drop 15 z
lay x z l n h k =
    rw (take_at x z n h, take_all 15 l (omega arith))
    (ap (λ (m : ℕ). (x ++ l) ++ drop (m + 15) (x ++ z)) (sym h) ∙ ap (λ (r : List ℕ). (x ++ l) ++ r) (drop-append-add x z 15))

-- three lists of 15 one behind the other
module _ (a b c : List ℕ) (ha : length a ≡ 15) (hb : length b ≡ 15) (hc : length c ≡ 15) where
  pub three : paste (paste (paste (replicate 45 0) 0 a 15) 15 b 15) 30 c 15 ≡ a ++ (b ++ c)
  three =
      let z : List ℕ = replicate 45 0 in
      let e0 : paste z 0 a 15 ≡ a ++ replicate 30 0 = lay [] z a 0 refl ha in
      let e1 : paste (a ++ replicate 30 0) 15 b 15 ≡ (a ++ b) ++ replicate 15 0 = lay a (replicate 30 0) b 15 ha hb in
      let h : length (a ++ b) ≡ 30 = omega (arith, length-append a b) in
      let e2 : paste ((a ++ b) ++ replicate 15 0) 30 c 15 ≡ (a ++ b) ++ c = lay (a ++ b) (replicate 15 0) c 30 h hc ∙ append-nil ((a ++ b) ++ c) in
      ap (λ (l : List ℕ). paste (paste l 15 b 15) 30 c 15) e0 ∙ ap (λ (l : List ℕ). paste l 30 c 15) e1 ∙ e2 ∙ append_assoc a b c
