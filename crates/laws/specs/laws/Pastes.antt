-- Laws: Numbers written over others.
use Rattle.std.specs.Prelude.{◌≡◌, ◌⊎◌, List, ◌++◌, ℕ, ◌+◌, ◌-◌, ◌<◌, ◌≤◌, length, get_or, take, drop, set}
use Rattle.std.proofs.Common.{ap, sym, ◌∙◌, inl, inr, append_assoc, add-one, arith, length-drop, length-take-le, get_or-take, get_or-drop, get_or-append-add}
use Rattle.std.proofs.Math.ListN.{get_or-append}
use Rattle.std.proofs.Math.Seq.{paste, paste-suc}
use Rattle.std.proofs.lemmas.List.Edits.{drop-paste}

-- m numbers of s, written into d from `at` on
module _ (d : List ℕ) (at : ℕ) (s : List ℕ) (m : ℕ) (r : at + m ≤ length d) (o : m ≤ length s) where
  front : length (take at d) ≡ at
  front = length-take-le at d (omega arith)

  pub before_paste : (i : ℕ) → i < at → get_or (paste d at s m) i 0 ≡ get_or d i 0
  before_paste i h =
      ap (λ (l : List ℕ). get_or l i 0) (append_assoc (take at d) (take m s) (drop (at + m) d))
      ∙ get_or-append (take at d) (take m s ++ drop (at + m) d) 0 i (omega (arith, front))
      ∙ get_or-take at d i 0 h

  pub in_paste : (j : ℕ) → j < m → get_or (paste d at s m) (at + j) 0 ≡ get_or s j 0
  in_paste j h =
      let e : at + j ≡ length (take at d) + j = omega (arith, front) in
      ap (λ (l : List ℕ). get_or l (at + j) 0) (append_assoc (take at d) (take m s) (drop (at + m) d))
      ∙ ap (λ (k : ℕ). get_or (take at d ++ (take m s ++ drop (at + m) d)) k 0) e
      ∙ get_or-append-add (take at d) (take m s ++ drop (at + m) d) j 0
      ∙ get_or-append (take m s) (drop (at + m) d) 0 j (omega (arith, length-take-le m s o))
      ∙ get_or-take m s j 0 h

  pub behind_paste : (i : ℕ) → at + m ≤ i → get_or (paste d at s m) i 0 ≡ get_or d i 0
  behind_paste i h =
      let e : i ≡ at + m + (i - (at + m)) = omega arith in
      ap (λ (k : ℕ). get_or (paste d at s m) k 0) e
      ∙ sym (get_or-drop (at + m) (paste d at s m) (i - (at + m)) 0)
      ∙ ap (λ (l : List ℕ). get_or l (i - (at + m)) 0) (drop-paste d at s m (omega arith) o)
      ∙ get_or-drop (at + m) d (i - (at + m)) 0
      ∙ ap (λ (k : ℕ). get_or d k 0) (sym e)

-- one more number copied within a list, forwards: it was not written over, since it stands before all that was written, or behind
pub copy_turn : (l₀ l : List ℕ) (from to j : ℕ) → (from + j < to) ⊎ (to ≤ from) → from + j < length l₀ → to + j < length l₀ → l ≡ paste l₀ to (drop from l₀) j
    → set l (to + j) (get_or l (from + j) 0) ≡ paste l₀ to (drop from l₀) (j + 1)
copy_turn l₀ l from to j w a b e =
    let s : j < length (drop from l₀) = omega (arith, length-drop from l₀) in
    let g : get_or l (from + j) 0 ≡ get_or (drop from l₀) j 0 = ap (λ (k : List ℕ). get_or k (from + j) 0) e ∙ stands w ∙ sym (get_or-drop from l₀ j 0) in
    rw (g, e, add-one j) (paste-suc l₀ to (drop from l₀) j 0 b s)
  where
    stands : (from + j < to) ⊎ (to ≤ from) → get_or (paste l₀ to (drop from l₀) j) (from + j) 0 ≡ get_or l₀ (from + j) 0
    stands (inl h) = before_paste l₀ to (drop from l₀) j (omega arith) (omega (arith, length-drop from l₀)) (from + j) h
    stands (inr h) = behind_paste l₀ to (drop from l₀) j (omega arith) (omega (arith, length-drop from l₀)) (from + j) (omega arith)
