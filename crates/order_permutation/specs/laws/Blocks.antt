-- A list kept in blocks of m numbers, of which each block has lost some: what remains of it, and how one is taken out.
use Rattle.std.specs.Prelude.{◌≡◌, ◌⊎◌, get_or, set}
use Rattle.std.proofs.Math.Path.{refl, sym}
use Rattle.std.proofs.Common.{ap, ◌∙◌, inl, inr, not-suc-le-zero, le_of_suc-le-suc, add-one, take-append-drop, drop_of_length-le, drop-drop, take-add, get_or-append-add}
use mathlib.Core.List.{List, [], ◌∷◌, ◌++◌, append_assoc}
use Prim.Native.Nat.{ℕ, zero, suc, ◌+◌, ◌*◌, ◌-◌, ◌<◌, ◌≤◌, min}
use Rattle.std.proofs.Math.Nat.{suc-mul, zero-mul}
use native.Mathlib.Omega.{arith}
use Rattle.std.proofs.Math.ListN.{length, take, drop, length-append, length-drop, get_or-append}
use Rattle.std.proofs.lemmas.List.Edits.{sets, take-paste, drop-paste, length-paste}
use Rattle.std.proofs.Math.Seq.{paste, drop_at, take-append-le, take-append-add, take-take, take-nil, length-take-le, get_or-take, get_or-drop}
use Rattle.laws.specs.laws.Cases.{le_or_lt}
use Rattle.order_permutation.specs.Digits.{without}

module _ (m : ℕ) where
  -- the first n of each block
  unfoldable pub remaining : List ℕ → List ℕ → List ℕ
  remaining [] rest = []
  remaining (n ∷ ns) rest = take n rest ++ remaining ns (drop m rest)

  -- no block has more than m, and each lies in the list
  unfoldable pub Blocks : List ℕ → List ℕ → Type 0
  Blocks [] rest = Unit
  Blocks (n ∷ ns) rest = (n ≤ m) × (n ≤ length rest) × Blocks ns (drop m rest)

-- how many the first b blocks have
unfoldable pub sum_to : ℕ → List ℕ → ℕ
sum_to zero ns = 0
sum_to (suc b) [] = 0
sum_to (suc b) (n ∷ ns) = n + sum_to b ns

unfoldable pub total : List ℕ → ℕ
total [] = 0
total (n ∷ ns) = n + total ns

-- whole blocks of m, the last one with what is left
unfoldable pub counts : ℕ → ℕ → ℕ → List ℕ
counts m zero free = []
counts m (suc j) free = min free m ∷ counts m j (free - m)

-- the k numbers behind e go down by one
abbrev pub closed : List ℕ → ℕ → ℕ → List ℕ
closed l e k = paste l e (drop (e + 1) l) k

-- without at a seam
without_left : (d : ℕ) (a b : List ℕ) → d < length a → without d (a ++ b) ≡ without d a ++ b
without_left d [] b h = absurd (not-suc-le-zero h)
without_left zero (x ∷ a) b h = refl
without_left (suc d) (x ∷ a) b h = ap (λ (l : List ℕ). x ∷ l) (without_left d a b (le_of_suc-le-suc h))

without_right : (d : ℕ) (a b : List ℕ) → without (length a + d) (a ++ b) ≡ a ++ without d b
without_right d [] b = let e : 0 + d ≡ d = omega arith in rw e
without_right d (x ∷ a) b = let e : suc (length a) + d ≡ suc (length a + d) = omega arith in rw e (ap (λ (l : List ℕ). x ∷ l) (without_right d a b))

without_take : (e n : ℕ) (l : List ℕ) → e < n → n ≤ length l → without e (take n l) ≡ take e l ++ take (n - 1 - e) (drop (e + 1) l)
without_take e zero l a b = absurd (not-suc-le-zero a)
without_take e (suc n) [] a b = absurd (not-suc-le-zero b)
without_take zero (suc n) (x ∷ l) a b = let f : suc n - 1 - 0 ≡ n = omega arith in rw f
without_take (suc e) (suc n) (x ∷ l) a b =
    let f : suc n - 1 - suc e ≡ n - 1 - e = omega arith in
    let g : suc e + 1 ≡ suc (e + 1) = omega arith in
    rw (f, g) (ap (λ (k : List ℕ). x ∷ k) (without_take e n l (le_of_suc-le-suc a) (le_of_suc-le-suc b)))

-- of n numbers at least those behind e go down
module _ (l : List ℕ) (e n k : ℕ) (a : e < n) (c : n ≤ e + 1 + k) (b : e + 1 + k ≤ length l) where
  closed_take : take (n - 1) (closed l e k) ≡ without e (take n l)
  closed_take =
      let d = drop (e + 1) l in
      let q : length (take e l) + (n - 1 - e) ≡ n - 1 = omega (arith, length-take-le e l (omega arith)) in
      sym (take-take (n - 1) (e + k) (closed l e k) (omega arith))
      ∙ ap (take (n - 1)) (take-paste l e d k (omega arith) (omega (arith, length-drop (e + 1) l)))
      ∙ ap (λ (j : ℕ). take j (take e l ++ take k d)) (sym q)
      ∙ take-append-add (take e l) (take k d) (n - 1 - e)
      ∙ ap (λ (x : List ℕ). take e l ++ x) (take-take (n - 1 - e) k d (omega arith))
      ∙ sym (without_take e n l a (omega arith))

  closed_drop : (m : ℕ) → e + 1 + k ≤ m → drop m (closed l e k) ≡ drop m l
  closed_drop m h =
      let s : e + k + (m - (e + k)) ≡ m = omega arith in
      let d : drop (e + k) (closed l e k) ≡ drop (e + k) l = drop-paste l e (drop (e + 1) l) k (omega arith) (omega (arith, length-drop (e + 1) l)) in
      ap (λ (j : ℕ). drop j (closed l e k)) (sym s) ∙ sym (drop-drop (m - (e + k)) (e + k) (closed l e k)) ∙ ap (drop (m - (e + k))) d ∙ drop-drop (m - (e + k)) (e + k) l ∙ ap (λ (j : ℕ). drop j l) s

  closed_length : length (closed l e k) ≡ length l
  closed_length = length-paste l e (drop (e + 1) l) k (omega arith) (omega (arith, length-drop (e + 1) l))

module _ (m : ℕ) where
  pub remaining_length : (ns rest : List ℕ) → Blocks m ns rest → length (remaining m ns rest) ≡ total ns
  unfolding remaining Blocks total
  remaining_length [] rest h = refl
  remaining_length (n ∷ ns) rest h =
      omega (arith, length-append (take n rest) (remaining m ns (drop m rest)), length-take-le n rest h.1, remaining_length ns (drop m rest) h.2)

  -- block b lies in the list
  pub block_room : (ns rest : List ℕ) (b e : ℕ) → Blocks m ns rest → b < length ns → e < get_or ns b 0 → b * m + get_or ns b 0 ≤ length rest
  unfolding Blocks
  block_room [] rest b e h a c = absurd (not-suc-le-zero a)
  block_room (n ∷ ns) rest zero e h a c = omega (arith, zero-mul m, h.1)
  block_room (n ∷ ns) rest (suc b) e h a c =
      omega (arith, suc-mul b m, length-drop m rest, block_room ns (drop m rest) b e h.2 (le_of_suc-le-suc a) c)

  pub block_most : (ns rest : List ℕ) (b : ℕ) → Blocks m ns rest → b < length ns → get_or ns b 0 ≤ m
  unfolding Blocks
  block_most [] rest b h a = absurd (not-suc-le-zero a)
  block_most (n ∷ ns) rest zero h a = h.0
  block_most (n ∷ ns) rest (suc b) h a = block_most ns (drop m rest) b h.2 (le_of_suc-le-suc a)

  -- the list with place e of block b closed
  abbrev pub closed_at : List ℕ → ℕ → ℕ → ℕ → List ℕ
  closed_at rest b e k = take (b * m) rest ++ closed (drop (b * m) rest) e k

  closed_next : (rest : List ℕ) (b e k : ℕ) → m + b * m ≤ length rest → closed_at rest (suc b) e k ≡ take m rest ++ closed_at (drop m rest) b e k
  closed_next rest b e k h =
      let s : suc b * m ≡ m + b * m = omega (arith, suc-mul b m) in
      rw (s, take-add m (b * m) rest, ← drop-drop (b * m) m rest) (append_assoc (take m rest) (take (b * m) (drop m rest)) (closed (drop (b * m) (drop m rest)) e k))

  -- place e of block b closed, with k numbers moved: one is taken out of what remains
  pub record TakenOut (ns rest : List ℕ) (b e k : ℕ) : Type 0 where
    pub value : get_or (remaining m ns rest) (sum_to b ns + e) 0 ≡ get_or rest (b * m + e) 0
    pub left : remaining m (set ns b (get_or ns b 0 - 1)) (closed_at rest b e k) ≡ without (sum_to b ns + e) (remaining m ns rest)
    pub fit : Blocks m (set ns b (get_or ns b 0 - 1)) (closed_at rest b e k)
    pub long : length (closed_at rest b e k) ≡ length rest

  pub taken_out : (ns rest : List ℕ) (b e k : ℕ) → Blocks m ns rest → b < length ns → e < get_or ns b 0 → get_or ns b 0 ≤ e + 1 + k → e + 1 + k ≤ m → b * m + (e + 1 + k) ≤ length rest → TakenOut ns rest b e k
  unfolding remaining Blocks sum_to
  taken_out [] rest b e k h a c u v w = absurd (not-suc-le-zero a)
  taken_out (n ∷ ns) rest zero e k h a c u v w =
      let z : 0 * m ≡ 0 = zero-mul m in
      let y : 0 + e ≡ e = omega arith in
      let t = length-take-le n rest h.1 in
      let d = closed_drop rest e n k c u (omega arith) m v in
      let l = closed_length rest e n k c u (omega arith) in
      record {
        value = rw (z, y) (get_or-append (take n rest) (remaining m ns (drop m rest)) 0 e (omega arith) ∙ get_or-take n rest e 0 c);
        left = rw (z, y, closed_take rest e n k c u (omega arith), d) (sym (without_left e (take n rest) (remaining m ns (drop m rest)) (omega arith)));
        fit = rw (z, d) (omega (arith, h.0), omega (arith, h.1), h.2);
        long = rw z l;
      }
  taken_out (n ∷ ns) rest (suc b) e k h a c u v w =
      let ld = length-drop m rest in
      let sb = suc-mul b m in
      let r = taken_out ns (drop m rest) b e k h.2 (le_of_suc-le-suc a) c u v (omega arith) in
      let g : closed_at rest (suc b) e k ≡ take m rest ++ closed_at (drop m rest) b e k = closed_next rest b e k (omega arith) in
      let lm : length (take m rest) ≡ m = length-take-le m rest (omega arith) in
      let ln : length (take n rest) ≡ n = length-take-le n rest h.1 in
      let tk : take n (take m rest ++ closed_at (drop m rest) b e k) ≡ take n rest = take-append-le n (take m rest) (closed_at (drop m rest) b e k) (omega (arith, h.0)) ∙ take-take n m rest h.0 in
      let dk : drop m (take m rest ++ closed_at (drop m rest) b e k) ≡ closed_at (drop m rest) b e k = drop_at (take m rest) (closed_at (drop m rest) b e k) m lm in
      let s : suc b * m + e ≡ m + (b * m + e) = omega (arith, suc-mul b m) in
      let q : n + sum_to b ns + e ≡ length (take n rest) + (sum_to b ns + e) = omega arith in
      record {
        value = rw (q, s) (get_or-append-add (take n rest) (remaining m ns (drop m rest)) (sum_to b ns + e) 0 ∙ r.value ∙ get_or-drop m rest (b * m + e) 0);
        left = rw (g, tk, dk, q) (ap (λ (l : List ℕ). take n rest ++ l) r.left ∙ sym (without_right (sum_to b ns + e) (take n rest) (remaining m ns (drop m rest))));
        fit = rw (g, dk) (h.0, omega (arith, h.0, length-append (take m rest) (closed_at (drop m rest) b e k)), r.fit);
        long = rw g (length-append (take m rest) (closed_at (drop m rest) b e k) ∙ omega (arith, r.long));
      }

  -- at the start all is there
  pub counts_start : (j free : ℕ) (rest : List ℕ) → length rest ≡ free → free ≤ j * m → (remaining m (counts m j free) rest ≡ rest) × Blocks m (counts m j free) rest
  unfolding remaining Blocks counts
  counts_start zero free rest e h = (none rest (omega (arith, zero-mul m)), tt)
    where
      none : (rest : List ℕ) → length rest ≡ 0 → [] ≡ rest
      none [] e = refl
      none (x ∷ rest) e = absurd (omega arith)
  counts_start (suc j) free rest e h =
      let r = counts_start j (free - m) (drop m rest) (length-drop m rest ∙ omega arith) (omega (arith, suc-mul j m)) in
      let t : take (min free m) rest ≡ take m rest = whole rest free m e in
      (rw (t, r.0) (take-append-drop m rest), (omega arith, omega arith, r.1))
    where
      whole : (rest : List ℕ) (free m : ℕ) → length rest ≡ free → take (min free m) rest ≡ take m rest
      whole [] free m e = take-nil (min free m) ∙ sym (take-nil m)
      whole (x ∷ rest) zero m e = absurd (omega arith)
      whole (x ∷ rest) (suc free) zero e = let f : min (suc free) 0 ≡ 0 = omega arith in rw f
      whole (x ∷ rest) (suc free) (suc m) e = let f : min (suc free) (suc m) ≡ suc (min free m) = omega arith in rw f (ap (λ (l : List ℕ). x ∷ l) (whole rest free m (omega arith)))

pub sum_start : (ns : List ℕ) → sum_to 0 ns ≡ 0
unfolding sum_to
sum_start ns = refl

-- one more block
pub sum_step : (ns : List ℕ) (b : ℕ) → b < length ns → (sum_to (b + 1) ns ≡ sum_to b ns + get_or ns b 0) × (total (drop b ns) ≡ get_or ns b 0 + total (drop (b + 1) ns))
unfolding sum_to total
sum_step [] b h = absurd (not-suc-le-zero h)
sum_step (n ∷ ns) zero h = (omega arith, refl)
sum_step (n ∷ ns) (suc b) h =
    let e : suc b + 1 ≡ suc (b + 1) = omega arith in
    let r = sum_step ns b (le_of_suc-le-suc h) in
    rw e (omega (arith, r.0), r.1)

pub sum_split : (ns : List ℕ) (b : ℕ) → sum_to b ns + total (drop b ns) ≡ total ns
unfolding sum_to total
sum_split ns zero = omega arith
sum_split [] (suc b) = refl
sum_split (n ∷ ns) (suc b) = omega (arith, sum_split ns b)

-- a block's own count is not among those before it
pub sum_set : (ns : List ℕ) (b v : ℕ) → sum_to b (set ns b v) ≡ sum_to b ns
unfolding sum_to
sum_set ns zero v = refl
sum_set [] (suc b) v = refl
sum_set (n ∷ ns) (suc b) v = ap (λ (k : ℕ). n + k) (sum_set ns b v)

-- one block back: what stands before a block that is not the first
pub sum_back : (ns : List ℕ) (b d : ℕ) → b ≤ length ns → d < sum_to b ns → (0 < b) × (sum_to b ns ≡ sum_to (b - 1) ns + get_or ns (b - 1) 0)
sum_back ns zero d h k = absurd (omega (arith, sum_start ns))
sum_back ns (suc b) d h k =
    let e : suc b - 1 ≡ b = omega arith in
    (omega arith, rw (e, ← add-one b) (sum_step ns b (omega arith)).0)

pub total_end : (ns : List ℕ) (b : ℕ) → length ns ≤ b → total (drop b ns) ≡ 0
unfolding total
total_end ns b h = rw (drop_of_length-le ns h)

pub counts_length : (m j free : ℕ) → length (counts m j free) ≡ j
unfolding counts
counts_length m zero free = refl
counts_length m (suc j) free = ap suc (counts_length m j (free - m))

-- a number that stands behind so many blocks stands in one
pub some_left : (ns : List ℕ) (b d : ℕ) → sum_to b ns ≤ d → d < total ns → b < length ns
some_left ns b d l h = go (le_or_lt (length ns) b)
  where
    go : (length ns ≤ b) ⊎ (b < length ns) → b < length ns
    go (inl k) = absurd (omega (arith, total_end ns b k, sum_split ns b))
    go (inr k) = k

-- the counts, one by one
pub counts_turn : (m j left n : ℕ) (c : List ℕ) (i : ℕ) → n ≡ min left m → sets c i (counts m (suc j) left) ≡ sets (set c i n) (i + 1) (counts m j (left - n))
unfolding counts
counts_turn m j left n c i e =
    let f : left - n ≡ left - m = omega arith in
    rw (f, e, add-one i)

pub counts_end : (m left : ℕ) (c : List ℕ) (i : ℕ) → sets c i (counts m 0 left) ≡ c
unfolding counts
counts_end m left c i = refl
