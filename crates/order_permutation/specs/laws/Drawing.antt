-- Numbers drawn from the blocks, and what is left of them laid behind.
use Rattle.std.specs.Prelude.{◌≡◌, refl, true, ◌&&◌, List, [], ◌∷◌, ◌++◌, map, ℕ, zero, suc, ◌+◌, ◌*◌, ◌-◌, ◌/◌, ◌%◌, ◌<◌, ◌≤◌, min, ltb, length, get_or, set}
use Rattle.std.proofs.Math.Path.{ap, sym}
use Rattle.std.proofs.Common.{ap₂, ◌∙◌, append_assoc, append-nil, add-one, arith, length-set, length-append, length-drop, drop_of_length-le, take-append-drop, drop-cons, drop_at, take-take, take-suc-set, drop-set-lt, length-take-le}
use Rattle.std.proofs.lemmas.List.{map-append, take-append-le}
use Rattle.std.proofs.Math.ListN.{take, drop}
use Rattle.std.proofs.Math.Seq.{drop-drop, paste, paste-zero}
use Rattle.std.proofs.lemmas.List.Edits.{take-paste, drop-paste, length-paste}
use Rattle.laws.specs.laws.Lists.{tail_all}
use Rattle.order_natural.specs.Places.{Place, flat, paired}
use Rattle.order_natural.proofs.laws.Bools.{and_right}
use Rattle.order_permutation.specs.Digits.{without, chosen, ordered, Below}
use Rattle.order_permutation.specs.laws.Chosen.{without_length}
use Rattle.order_permutation.specs.laws.Numbers.{map_chosen}
use Rattle.order_permutation.specs.laws.Permuted.{all_below}
use Rattle.order_natural.proofs.laws.Flat.{paired_length, flat_paired}
use Rattle.order_permutation.specs.laws.Below.{below_next}
use Rattle.order_permutation.specs.laws.Blocks.{remaining, Blocks, sum_to, total, counts, closed, closed_at, remaining_length, block_room, block_most, taken_out, counts_start, counts_length, sum_step}
use Rattle.order_permutation.specs.laws.Packed.{packed, unpacked, code, decode, below_at}

-- 64 blocks of m in a list
pub record Ready (m : ℕ) (count rest : List ℕ) : Type 0 where
  pub many : length count ≡ 64
  pub small : m ≤ 1024
  pub blocks : Blocks m count rest

-- the d-th of what remained is taken out
pub record Out (m : ℕ) (count rest : List ℕ) (d v : ℕ) (count' rest' : List ℕ) : Type 0 where
  pub value : v ≡ get_or (remaining m count rest) d 0
  pub left : remaining m count' rest' ≡ without d (remaining m count rest)
  pub ready : Ready m count' rest'
  pub long : length rest' ≡ length rest
  pub fewer : total count' ≡ total count - 1

-- what lies from a on, lent and given back
pub tail_length : (l : List ℕ) (a : ℕ) → length (take (length l - a) (drop a l)) ≡ length l - a
tail_length l a = ap length (tail_all l a) ∙ length-drop a l

tail_back : (l m : List ℕ) (a : ℕ) → take a l ++ (m ++ drop (length l - a) (drop a l)) ≡ take a l ++ m
tail_back l m a =
    let h : length (drop a l) ≤ length l - a = omega (arith, length-drop a l) in
    rw (drop_of_length-le (drop a l) h, append-nil m)

pub is_closed : (m : ℕ) (rest l : List ℕ) (b e k : ℕ) → l ≡ closed (take (length rest - b * m) (drop (b * m) rest)) e k
    → take (b * m) rest ++ (l ++ drop (length rest - b * m) (drop (b * m) rest)) ≡ closed_at m rest b e k
is_closed m rest l b e k q = tail_back rest l (b * m) ∙ ap (λ (x : List ℕ). take (b * m) rest ++ x) (q ∙ ap (λ (x : List ℕ). closed x e k) (tail_all rest (b * m)))

-- block b at `at`, as the code goes
module _ (m : ℕ) (count rest : List ℕ) (d : ℕ) (r : Ready m count rest) (t : d < total count) (b e : ℕ) (hb : b < 64) (he : e < get_or count b 0) (hs : sum_to b count + e ≡ d) where
  in_count : b < length count
  in_count = omega (arith, r.many)

  pub spot_room : (b * m + get_or count b 0 ≤ length rest) × (get_or count b 0 ≤ m) × (m ≤ 1024)
  spot_room = (block_room m count rest b e r.blocks in_count he, block_most m count rest b r.blocks in_count, r.small)

  -- the block ends behind its numbers; in it more may go down than stand behind e
  module _ (n end : ℕ) (en : n ≡ get_or count b 0) (ee : end ≡ min (b * m + m) (length rest)) where
    pub spot_end : (b * m + n ≤ end) × (end ≤ b * m + m) × (end ≤ length rest)
    spot_end = let q = spot_room in (omega (arith, q.0, q.1), omega arith, omega arith)

    pub spot_closed : (k : ℕ) → n - 1 - e ≤ k → k ≤ n - 1 - e + (end - b * m - n) → (n ≤ e + 1 + k) × (e + 1 + k ≤ m) × (b * m + (e + 1 + k) ≤ length rest)
    spot_closed k a c = let q = spot_end in (omega arith, omega (arith, q.0, q.1), omega (arith, q.0, q.2))

  pub is_out : (n k : ℕ) (rest' : List ℕ) → n ≡ get_or count b 0 → n ≤ e + 1 + k → e + 1 + k ≤ m → b * m + (e + 1 + k) ≤ length rest → rest' ≡ closed_at m rest b e k → Out m count rest d (get_or rest (b * m + e) 0) (set count b (n - 1)) rest'
  is_out n k rest' en u v w er =
      let o = taken_out m count rest b e k r.blocks in_count he (omega arith) v w in
      let c' = set count b (get_or count b 0 - 1) in
      let l : remaining m c' (closed_at m rest b e k) ≡ without d (remaining m count rest) = o.left ∙ ap (λ (i : ℕ). without i (remaining m count rest)) hs in
      let n₀ = remaining_length m count rest r.blocks in
      let n₁ = remaining_length m c' (closed_at m rest b e k) o.fit in
      let x = without_length d (remaining m count rest) (omega arith) in
      rw (er, en)
      record {
        value = sym o.value ∙ ap (λ (i : ℕ). get_or (remaining m count rest) i 0) hs;
        left = l;
        ready = record { many = length-set count b (get_or count b 0 - 1) ∙ r.many; small = r.small; blocks = o.fit };
        long = o.long;
        fewer = sym n₁ ∙ ap length l ∙ x ∙ ap (λ (i : ℕ). i - 1) n₀;
      }

-- after k digits
pub record Drawing (m size skip : ℕ) (ds l₀ count l : List ℕ) (k : ℕ) : Type 0 where
  pub fewer : k ≤ length ds
  pub long : length l ≡ 2 * size
  pub ready : Ready m count (drop (size + skip) l)
  pub below : Below (drop k ds) (size - skip - k)
  pub left : total count ≡ size - skip - k
  pub most : k ≤ size - skip
  pub same : take (skip + k) l ++ chosen 0 (drop k ds) (remaining m count (drop (size + skip) l)) ≡ take skip l₀ ++ chosen 0 ds (drop (size + skip) l₀)

module _ (m size skip : ℕ) (ds l : List ℕ) (n : length l ≡ 2 * size) (w : m ≤ 1024) (s : size ≤ 64 * m) (h : skip ≤ size) (b : Below ds (size - skip)) where
  pub draw_start : (count : List ℕ) → count ≡ counts m 64 (size - skip) → Drawing m size skip ds l count l 0
  draw_start count e =
      let rest = drop (size + skip) l in
      let lr : length rest ≡ size - skip = length-drop (size + skip) l ∙ omega arith in
      let c = counts_start m 64 (size - skip) rest lr (omega arith) in
      let z : size - skip - 0 ≡ size - skip = omega arith in
      let y : skip + 0 ≡ skip = omega arith in
      record {
        fewer = omega arith;
        long = n;
        ready = rw e (record { many = counts_length m 64 (size - skip); small = w; blocks = c.1 });
        below = rw z b;
        left = rw (e, z) (sym (remaining_length m (counts m 64 (size - skip)) rest c.1) ∙ ap length c.0 ∙ lr);
        most = omega arith;
        same = rw (y, e, c.0);
      }

module _ (m size skip : ℕ) (ds l₀ count l : List ℕ) (k : ℕ) (p : Drawing m size skip ds l₀ count l k) (h : k < length ds) (hs : skip ≤ size) where
  pub digit_below : get_or ds k 0 < total count
  digit_below = let b = below_next ds (size - skip) k h p.below in omega (arith, b.0, p.left)

  pub draw_room : skip + k < length l
  draw_room = let b = below_next ds (size - skip) k h p.below in omega (arith, b.0, p.long)

  pub draw_turn : (d v : ℕ) (count' rest' l' : List ℕ) → d ≡ get_or ds k 0 → Out m count (take (length l - (size + skip)) (drop (size + skip) l)) d v count' rest'
      → l' ≡ set (take (size + skip) l ++ (rest' ++ drop (length l - (size + skip)) (drop (size + skip) l))) (skip + k) v → Drawing m size skip ds l₀ count' l' (k + 1)
  draw_turn d v count' rest' l' ed o₀ el₀ =
      let o = rw (tail_all l (size + skip)) at o₀ in
      let el : l' ≡ set (take (size + skip) l ++ rest') (skip + k) v = el₀ ∙ ap (λ (x : List ℕ). set x (skip + k) v) (tail_back l rest' (size + skip)) in
      let b = below_next ds (size - skip) k h p.below in
      let from = size + skip in
      let a = take from l in
      let rest = drop from l in
      let q = remaining m count rest in
      let la : length a ≡ from = length-take-le from l (omega (arith, p.long)) in
      let lr : length rest' ≡ length l - from = o.long ∙ length-drop from l in
      let lar : length (a ++ rest') ≡ 2 * size = length-append a rest' ∙ omega (arith, p.long) in
      let room : skip + k < length (a ++ rest') = omega (arith, b.0) in
      let t₀ : take (skip + k) (a ++ rest') ≡ take (skip + k) l = take-append-le (skip + k) a rest' (omega (arith, b.0)) ∙ shorter (skip + k) from l (omega (arith, b.0)) in
      let i : suc (skip + k) ≡ skip + (k + 1) = omega arith in
      let t₁ : take (skip + (k + 1)) l' ≡ take (skip + k) l ++ (v ∷ []) = rw (← i, el) (take-suc-set (a ++ rest') (skip + k) v room ∙ ap (λ (x : List ℕ). x ++ (v ∷ [])) t₀) in
      let d₁ : drop from l' ≡ rest' = rw el (drop-set-lt from (a ++ rest') (skip + k) v (omega (arith, b.0)) ∙ drop_at a rest' from la) in
      let dc : drop k ds ≡ d ∷ drop (k + 1) ds = drop-cons ds k 0 h ∙ rw (← ed, add-one k) in
      let e : take (skip + (k + 1)) l' ++ chosen 0 (drop (k + 1) ds) (remaining m count' (drop from l')) ≡ take (skip + k) l ++ chosen 0 (drop k ds) q =
      rw (t₁, d₁, o.left, dc, o.value) (append_assoc (take (skip + k) l) (get_or q d 0 ∷ []) (chosen 0 (drop (k + 1) ds) (without d q))) in
      record {
        fewer = omega arith;
        long = rw el (length-set (a ++ rest') (skip + k) v ∙ lar);
        ready = rw d₁ o.ready;
        below = b.1;
        left = o.fewer ∙ omega (arith, p.left);
        most = omega (arith, b.0);
        same = e ∙ p.same;
      }
    where
      shorter : (i j : ℕ) (l : List ℕ) → i ≤ j → take i (take j l) ≡ take i l
      shorter i j l h = take-take i j l h

-- all digits drawn
pub record Drawn (m size skip : ℕ) (ds l₀ count l : List ℕ) : Type 0 where
  pub long : length l ≡ 2 * size
  pub ready : Ready m count (drop (size + skip) l)
  pub left : skip + length ds + total count ≡ size
  pub same : take (skip + length ds) l ++ remaining m count (drop (size + skip) l) ≡ take skip l₀ ++ chosen 0 ds (drop (size + skip) l₀)

pub draw_end : (m size skip : ℕ) (ds l₀ count l : List ℕ) (k : ℕ) → Drawing m size skip ds l₀ count l k → skip ≤ size → length ds ≤ k → Drawn m size skip ds l₀ count l
draw_end m size skip ds l₀ count l k p hs h =
    let e : k ≡ length ds = omega (arith, p.fewer) in
    let z : drop k ds ≡ [] = drop_of_length-le ds h in
    let s : take (skip + k) l ++ chosen 0 [] (remaining m count (drop (size + skip) l)) ≡ take skip l₀ ++ chosen 0 ds (drop (size + skip) l₀) = rw z at p.same in
    record {
      long = p.long;
      ready = p.ready;
      left = omega (arith, p.left, p.most);
      same = rw (← e) s;
    }

-- what remains, laid block by block
pub record Laying (m from at : ℕ) (count l₀ l : List ℕ) (to start b : ℕ) : Type 0 where
  pub fewer : b ≤ 64
  pub long : length l ≡ length l₀
  pub spot : (from ≤ start) × (start ≤ from + b * 1024)
  pub blocks : Blocks m (drop b count) (drop start l)
  pub room : to + total (drop b count) ≡ at + total count
  pub same : take to l ++ remaining m (drop b count) (drop start l) ≡ take at l₀ ++ remaining m count (drop from l₀)

pub lay_begin : (m from at : ℕ) (count l : List ℕ) → Ready m count (drop from l) → Laying m from at count l l at from 0
lay_begin m from at count l r = record { fewer = omega arith; long = refl; spot = (omega arith, omega arith); blocks = r.blocks; room = refl; same = refl }

module _ (m from at : ℕ) (count l₀ l : List ℕ) (to start b : ℕ) (p : Laying m from at count l₀ l to start b) (h : b < 64) (n : ℕ) (many : length count ≡ 64) (en : n ≡ get_or count b 0)
    (fits : at + total count ≤ from) where
  split : drop b count ≡ n ∷ drop (b + 1) count
  split = drop-cons count b 0 (omega arith) ∙ rw (← en, add-one b)

  of_block : (n ≤ m) × (n ≤ length (drop start l)) × Blocks m (drop (b + 1) count) (drop m (drop start l))
  unfolding Blocks
  of_block = rw split at p.blocks

  of_room : to + n + total (drop (b + 1) count) ≡ at + total count
  of_room = let s = sum_step count b (omega arith) in omega (arith, s.1, p.room)

  pub block_inside : 0 < n → start + n ≤ length l
  block_inside z = let q = of_block in omega (arith, q.1, length-drop start l)

  pub before_it : to + n ≤ start
  before_it = omega (arith, of_room, p.spot.0)

  pub lay_block : (l' : List ℕ) → m ≤ 1024 → from ≤ length l₀ → l' ≡ paste l to (drop start l) n → Laying m from at count l₀ l' (to + n) (start + m) (b + 1)
  unfolding remaining
  lay_block l' w hf el =
      let q = of_block in
      let s = drop start l in
      let t : take (to + n) l' ≡ take to l ++ take n s = rw el (take-paste l to s n (omega (arith, before_it, p.long, of_room)) q.1) in
      let dn : drop (to + n) l' ≡ drop (to + n) l = rw el (drop-paste l to s n (omega (arith, before_it, p.long, of_room)) q.1) in
      let x : to + n + (start + m - (to + n)) ≡ start + m = omega (arith, before_it) in
      let d : drop (start + m) l' ≡ drop (start + m) l =
      ap (λ (j : ℕ). drop j l') (sym x) ∙ sym (drop-drop (start + m - (to + n)) (to + n) l') ∙ ap (drop (start + m - (to + n))) dn ∙ drop-drop (start + m - (to + n)) (to + n) l ∙ ap (λ (j : ℕ). drop j l) x in
      let dd : drop (start + m) l' ≡ drop m s = d ∙ sym (drop-drop m start l) in
      let e : take (to + n) l' ++ remaining m (drop (b + 1) count) (drop (start + m) l') ≡ take to l ++ remaining m (drop b count) s =
      rw (t, dd, split) (append_assoc (take to l) (take n s) (remaining m (drop (b + 1) count) (drop m s))) in
      record {
        fewer = omega arith;
        long = rw el (length-paste l to s n (omega (arith, before_it, p.long, of_room)) q.1 ∙ p.long);
        spot = (omega (arith, p.spot.0), omega (arith, p.spot.1));
        blocks = rw dd q.2;
        room = of_room;
        same = e ∙ p.same;
      }

  -- of a block without numbers nothing is laid
  pub lay_none : n ≡ 0 → m ≤ 1024 → from ≤ length l₀ → Laying m from at count l₀ l to (start + m) (b + 1)
  lay_none z w hf = let t : to + n ≡ to = omega arith in rw t at (lay_block l w hf (rw z (paste-zero l to (drop start l))))

pub lay_done : (m from at : ℕ) (count l₀ l : List ℕ) (to start b : ℕ) → Laying m from at count l₀ l to start b → length count ≡ 64 → 64 ≤ b
    → (length l ≡ length l₀) × (take (at + total count) l ≡ take at l₀ ++ remaining m count (drop from l₀))
unfolding remaining total
lay_done m from at count l₀ l to start b p many h =
    let k : length count ≤ b = omega arith in
    let z : drop b count ≡ [] = drop_of_length-le count k in
    let r : to + 0 ≡ at + total count = rw z at p.room in
    let r' : to ≡ at + total count = omega arith in
    let s : take to l ++ [] ≡ take at l₀ ++ remaining m count (drop from l₀) = rw z at p.same in
    (p.long, rw (← r') (sym (append-nil (take to l)) ∙ s))

-- no digit, nothing moved
pub none_drawn : (size skip : ℕ) (ds l : List ℕ) → length ds ≡ 0 → length l ≡ 2 * size → l ≡ flat (ordered (0, 0) skip (paired l) ds)
none_drawn size skip [] l e n = sym (ap flat (take-append-drop skip (paired l)) ∙ flat_paired l size n)
none_drawn size skip (d ∷ ds) l e n = absurd (omega arith)

-- the whole
decode_code : (p : Place) → p.0 < 256 → p.1 < 256 → decode (code p) ≡ p
decode_code p a b =
    let x : (p.0 + 256 * p.1) % 256 ≡ p.0 = omega arith in
    let y : (p.0 + 256 * p.1) / 256 ≡ p.1 = omega arith in
    ap₂ (λ (u v : ℕ). (u, v)) x y

unpack_pack : (l : List ℕ) (n : ℕ) → length l ≡ 2 * n → all_below 256 l ≡ true → map decode (map code (paired l)) ≡ paired l
unfolding paired all_below
unpack_pack [] n e t = refl
unpack_pack (x ∷ []) n e t = absurd (omega arith)
unpack_pack (x ∷ y ∷ r) n e t =
    let a = below_at 256 (x ∷ y ∷ r) 0 t (omega arith) in
    let b = below_at 256 (x ∷ y ∷ r) 1 t (omega arith) in
    let u = and_right (ltb y 256) (all_below 256 r) (and_right (ltb x 256) (ltb y 256 && all_below 256 r) t) in
    ap₂ (λ (p : Place) (l : List Place). p ∷ l) (decode_code (x, y) a b) (unpack_pack r (n - 1) (omega arith) u)

map_take : (n : ℕ) (l : List ℕ) → map decode (take n l) ≡ take n (map decode l)
map_take zero l = refl
map_take (suc n) [] = refl
map_take (suc n) (x ∷ l) = ap (λ (k : List Place). decode x ∷ k) (map_take n l)

map_drop : (n : ℕ) (l : List ℕ) → map decode (drop n l) ≡ drop n (map decode l)
map_drop zero l = refl
map_drop (suc n) [] = refl
map_drop (suc n) (x ∷ l) = map_drop n l

packed_length : (l : List Place) → length (map code l) ≡ length l
packed_length [] = refl
packed_length (p ∷ l) = ap suc (packed_length l)

-- the places l₀ as numbers: the first `skip` at the front of l, the others behind its middle
pub record PackedFixed (size skip : ℕ) (l₀ l : List ℕ) : Type 0 where
  pub long : length l ≡ 2 * size
  pub fixed : take skip l ≡ take skip (packed (paired l₀))
  pub others : drop (size + skip) l ≡ drop skip (packed (paired l₀))

pub packed_fixed : (size skip : ℕ) (l₀ l₁ l₂ : List ℕ) → skip ≤ size → length l₁ ≡ 2 * size → drop size l₁ ≡ packed (paired l₀) → l₂ ≡ paste l₁ 0 (drop size l₁) skip → PackedFixed size skip l₀ l₂
packed_fixed size skip l₀ l₁ l₂ h n₁ e₁ e₂ =
    let s = drop size l₁ in
    let y : 0 + skip ≡ skip = omega arith in
    let x : skip + size ≡ size + skip = omega arith in
    let f : 0 ≤ length l₁ = omega arith in
    let g : skip ≤ length s = omega (arith, length-drop size l₁) in
    let d : drop skip l₂ ≡ drop skip l₁ =
    ap (drop skip) e₂ ∙ ap (λ (j : ℕ). drop j (paste l₁ 0 s skip)) (sym y) ∙ drop-paste l₁ 0 s skip f g ∙ ap (λ (j : ℕ). drop j l₁) y in
    record {
      long = ap length e₂ ∙ length-paste l₁ 0 s skip (omega arith) g ∙ n₁;
      fixed = ap (take skip) e₂ ∙ ap (λ (j : ℕ). take j (paste l₁ 0 s skip)) (sym y) ∙ take-paste l₁ 0 s skip f g ∙ ap (take skip) e₁;
      others = ap (λ (j : ℕ). drop j l₂) (sym x) ∙ sym (drop-drop size skip l₂) ∙ ap (drop size) d ∙ drop-drop size skip l₁ ∙ ap (λ (j : ℕ). drop j l₁) x ∙ sym (drop-drop skip size l₁) ∙ ap (drop skip) e₁;
    }

pub drawn_all : (m size skip : ℕ) (ds l₂ count l₃ l₄ : List ℕ) → Drawn m size skip ds l₂ count l₃ → take (skip + length ds + total count) l₄ ≡ take (skip + length ds) l₃ ++ remaining m count (drop (size + skip) l₃)
    → take size l₄ ≡ take skip l₂ ++ chosen 0 ds (drop (size + skip) l₂)
drawn_all m size skip ds l₂ count l₃ l₄ d e = ap (λ (j : ℕ). take j l₄) (sym d.left) ∙ e ∙ d.same

pub all_drawn : (size skip : ℕ) (ds l₀ l₂ l₄ l₅ : List ℕ) → length l₀ ≡ 2 * size → all_below 256 l₀ ≡ true → Below ds (size - skip) → PackedFixed size skip l₀ l₂
    → take size l₄ ≡ take skip l₂ ++ chosen 0 ds (drop (size + skip) l₂) → l₅ ≡ flat (unpacked (take size l₄)) → l₅ ≡ flat (ordered (0, 0) skip (paired l₀) ds)
unfolding packed unpacked
all_drawn size skip ds l₀ l₂ l₄ l₅ n t b p e₄ e₅ =
    let pk = map code (paired l₀) in
    let lp : length pk ≡ size = packed_length (paired l₀) ∙ paired_length l₀ size n in
    let whole : take size l₄ ≡ take skip pk ++ chosen 0 ds (drop skip pk) = e₄ ∙ ap₂ (λ (u v : List ℕ). u ++ chosen 0 ds v) p.fixed p.others in
    let back = unpack_pack l₀ size n t in
    let ld : length (drop skip pk) ≡ size - skip = length-drop skip pk ∙ ap (λ (j : ℕ). j - skip) lp in
    let f : map decode (take size l₄) ≡ ordered (0, 0) skip (paired l₀) ds =
    ap (map decode) whole ∙ map-append decode (take skip pk) (chosen 0 ds (drop skip pk))
    ∙ ap₂ (λ (u v : List Place). u ++ v) (map_take skip pk ∙ ap (take skip) back)
    (map_chosen decode ds (drop skip pk) (rw ld b) ∙ ap (chosen (0, 0) ds) (map_drop skip pk ∙ ap (drop skip) back)) in
    e₅ ∙ ap flat f
