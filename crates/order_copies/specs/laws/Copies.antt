-- The first of three lists, three times (document 01, Orders).
use Rattle.std.specs.Prelude.{◌≡◌, refl, ◌⊎◌, List, ◌++◌, ℕ, ◌+◌, ◌*◌, ◌-◌, ◌/◌, ◌<◌, ◌≤◌, drop}
use Rattle.std.proofs.Math.Path.{ap, sym}
use Rattle.std.proofs.Common.{◌∙◌, inl, inr, append-nil, length-drop, take-append-drop, drop_of_length-le, length-take-le, get_or-take, get_or-drop, drop-drop, ext_get_or}
use native.Mathlib.Omega.{arith}
use Rattle.std.proofs.Math.ListN.{length, get_or, take}
use Rattle.std.proofs.Math.Seq.{paste}
use Rattle.std.proofs.lemmas.List.Edits.{length-paste}
use Rattle.laws.specs.laws.Cases.{le_or_lt}
use Rattle.laws.specs.laws.Pastes.{before_paste, in_paste, behind_paste}

-- the first third in each of the three; what is left of a length that is no multiple of three stays
unfoldable pub three_times : List ℕ → List ℕ
three_times l = let t = take (length l / 3) l in t ++ (t ++ (t ++ drop (3 * (length l / 3)) l))

-- m numbers copied: they are the same, and all others stay
module _ (d e : List ℕ) (from to m : ℕ) (p : e ≡ paste d to (drop from d) m) (r : to + m ≤ length d) (f : from + m ≤ length d) where
  many : m ≤ length (drop from d)
  many = omega (arith, length-drop from d)

  long : length e ≡ length d
  long = ap length p ∙ length-paste d to (drop from d) m r many

  kept : (i : ℕ) → (i < to) ⊎ (to + m ≤ i) → get_or e i 0 ≡ get_or d i 0
  kept i (inl k) = ap (λ (t : List ℕ). get_or t i 0) p ∙ before_paste d to (drop from d) m r many i k
  kept i (inr k) = ap (λ (t : List ℕ). get_or t i 0) p ∙ behind_paste d to (drop from d) m r many i k

  copied : (j : ℕ) → j < m → get_or e (to + j) 0 ≡ get_or d (from + j) 0
  copied j k = ap (λ (t : List ℕ). get_or t (to + j) 0) p ∙ in_paste d to (drop from d) m r many j k ∙ get_or-drop from d j 0

-- the first b of n numbers are copied to the second and to the third list; the first list, and what is behind the three, stays
pub record Copied (l₀ : List ℕ) (n : ℕ) (l : List ℕ) (b : ℕ) : Type 0 where
  pub long : length l ≡ length l₀
  pub first : (i : ℕ) → i < n → get_or l i 0 ≡ get_or l₀ i 0
  pub second : (i : ℕ) → i < b → get_or l (n + i) 0 ≡ get_or l₀ i 0
  pub third : (i : ℕ) → i < b → get_or l (2 * n + i) 0 ≡ get_or l₀ i 0
  pub rest : (i : ℕ) → 3 * n ≤ i → get_or l i 0 ≡ get_or l₀ i 0

module _ (l₀ : List ℕ) (n : ℕ) (r : 3 * n ≤ length l₀) where
  pub none_copied : Copied l₀ n l₀ 0
  none_copied = record { long = refl; first = λ i h. refl; second = λ i h. absurd (omega arith); third = λ i h. absurd (omega arith); rest = λ i h. refl }

  -- a piece of m numbers more, first into the second list, then into the third
  module _ (l one two : List ℕ) (b m : ℕ) (c : Copied l₀ n l b) (h : b + m ≤ n) (p : one ≡ paste l (n + b) (drop b l) m) (q : two ≡ paste one (2 * n + b) (drop b one) m) where
    room : 3 * n ≤ length l
    room = omega (arith, c.long)

    long_one : length one ≡ length l
    long_one = long l one b (n + b) m p (omega (arith, room)) (omega (arith, room))

    kept_one : (i : ℕ) → (i < n + b) ⊎ (n + b + m ≤ i) → get_or one i 0 ≡ get_or l i 0
    kept_one = kept l one b (n + b) m p (omega (arith, room)) (omega (arith, room))

    kept_two : (i : ℕ) → (i < 2 * n + b) ⊎ (2 * n + b + m ≤ i) → get_or two i 0 ≡ get_or one i 0
    kept_two = kept one two b (2 * n + b) m q (omega (arith, room, long_one)) (omega (arith, room, long_one))

    second_now : (i : ℕ) → i < b + m → (b ≤ i) ⊎ (i < b) → get_or two (n + i) 0 ≡ get_or l₀ i 0
    second_now i k (inr o) = kept_two (n + i) (inl (omega arith)) ∙ kept_one (n + i) (inl (omega arith)) ∙ c.second i o
    second_now i k (inl o) =
        let e : n + i ≡ n + b + (i - b) = omega arith in
        let f : b + (i - b) ≡ i = omega arith in
        kept_two (n + i) (inl (omega arith))
        ∙ ap (λ (t : ℕ). get_or one t 0) e
        ∙ copied l one b (n + b) m p (omega (arith, room)) (omega (arith, room)) (i - b) (omega arith)
        ∙ ap (λ (t : ℕ). get_or l t 0) f
        ∙ c.first i (omega arith)

    third_now : (i : ℕ) → i < b + m → (b ≤ i) ⊎ (i < b) → get_or two (2 * n + i) 0 ≡ get_or l₀ i 0
    third_now i k (inr o) = kept_two (2 * n + i) (inl (omega arith)) ∙ kept_one (2 * n + i) (inr (omega arith)) ∙ c.third i o
    third_now i k (inl o) =
        let e : 2 * n + i ≡ 2 * n + b + (i - b) = omega arith in
        let f : b + (i - b) ≡ i = omega arith in
        ap (λ (t : ℕ). get_or two t 0) e
        ∙ copied one two b (2 * n + b) m q (omega (arith, room, long_one)) (omega (arith, room, long_one)) (i - b) (omega arith)
        ∙ ap (λ (t : ℕ). get_or one t 0) f
        ∙ kept_one i (inl (omega arith))
        ∙ c.first i (omega arith)

    pub piece_copied : Copied l₀ n two (b + m)
    piece_copied =
        record {
          long = long one two b (2 * n + b) m q (omega (arith, room, long_one)) (omega (arith, room, long_one)) ∙ long_one ∙ c.long;
          first = λ i k. kept_two i (inl (omega arith)) ∙ kept_one i (inl (omega arith)) ∙ c.first i k;
          second = λ i k. second_now i k (le_or_lt b i);
          third = λ i k. third_now i k (le_or_lt b i);
          rest = λ i k. kept_two i (inr (omega arith)) ∙ kept_one i (inr (omega arith)) ∙ c.rest i k;
        }

  -- n numbers from k on that are the first n of l₀
  part : (l : List ℕ) (k : ℕ) → k + n ≤ length l → ((i : ℕ) → i < n → get_or l (k + i) 0 ≡ get_or l₀ i 0) → take n (drop k l) ≡ take n l₀
  part l k a e =
      let p : length (take n (drop k l)) ≡ n = length-take-le n (drop k l) (omega (arith, length-drop k l)) in
      let q : length (take n l₀) ≡ n = length-take-le n l₀ (omega arith) in
      ext_get_or 0 (take n (drop k l)) (take n l₀) (p ∙ sym q) (λ i h. get_or-take n (drop k l) i 0 (omega arith) ∙ get_or-drop k l i 0 ∙ e i (omega arith) ∙ sym (get_or-take n l₀ i 0 (omega arith)))

  -- three pieces of n numbers, and what is behind them
  in_pieces : (l : List ℕ) → l ≡ take n (drop 0 l) ++ (take n (drop n l) ++ (take n (drop (2 * n) l) ++ drop (3 * n) l))
  in_pieces l =
      let e : n + n ≡ 2 * n = omega arith in
      let f : 2 * n + n ≡ 3 * n = omega arith in
      let third : drop (2 * n) l ≡ take n (drop (2 * n) l) ++ drop (3 * n) l = sym (take-append-drop n (drop (2 * n) l)) ∙ ap (λ (t : List ℕ). take n (drop (2 * n) l) ++ t) (drop-drop n (2 * n) l ∙ ap (λ (k : ℕ). drop k l) f) in
      let second : drop n l ≡ take n (drop n l) ++ drop (2 * n) l = sym (take-append-drop n (drop n l)) ∙ ap (λ (t : List ℕ). take n (drop n l) ++ t) (drop-drop n n l ∙ ap (λ (k : ℕ). drop k l) e) in
      sym (take-append-drop n l) ∙ ap (λ (t : List ℕ). take n l ++ t) (second ∙ ap (λ (t : List ℕ). take n (drop n l) ++ t) third)

  behind : (l : List ℕ) → Copied l₀ n l n → drop (3 * n) l ≡ drop (3 * n) l₀
  behind l c =
      let p = length-drop (3 * n) l in
      let q = length-drop (3 * n) l₀ in
      let e : length (drop (3 * n) l) ≡ length (drop (3 * n) l₀) = omega (arith, c.long) in
      ext_get_or 0 (drop (3 * n) l) (drop (3 * n) l₀) e (λ i h. get_or-drop (3 * n) l i 0 ∙ c.rest (3 * n + i) (omega arith) ∙ sym (get_or-drop (3 * n) l₀ i 0))

  pub all_copied : (l : List ℕ) → n ≡ length l₀ / 3 → Copied l₀ n l n → l ≡ three_times l₀
  unfolding three_times
  all_copied l e c =
      let z : 0 + n ≤ length l = omega (arith, c.long) in
      let a : take n (drop 0 l) ≡ take n l₀ = part l 0 z (λ i h. let y : 0 + i ≡ i = omega arith in ap (λ (k : ℕ). get_or l k 0) y ∙ c.first i h) in
      let b : take n (drop n l) ≡ take n l₀ = part l n (omega (arith, c.long)) c.second in
      let d : take n (drop (2 * n) l) ≡ take n l₀ = part l (2 * n) (omega (arith, c.long)) c.third in
      in_pieces l ∙ rw (a, b, d, behind l c, sym e)

-- three lists of n numbers
pub three_times_lem : (l front : List ℕ) (n : ℕ) → length l ≡ 3 * n → take n l ≡ front → three_times l ≡ front ++ (front ++ front)
unfolding three_times
three_times_lem l front n h f =
    let e : length l / 3 ≡ n = omega arith in
    let d : length l ≤ 3 * n = omega arith in
    rw (e, f, drop_of_length-le l d, append-nil front)
