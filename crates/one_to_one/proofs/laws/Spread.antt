-- A list behind its first places: each cell that is not low-frequency once, and no other.
use Rattle.std.specs.Prelude.{◌≡◌, Bool, true, false, ◌&&◌, ℕ, ◌+◌, ◌*◌, ◌/◌, ◌%◌, ◌<◌, ◌≤◌, ltb, length, drop}
use Rattle.std.proofs.Math.Path.{refl, ap, subst}
use Rattle.std.proofs.Common.{sym, ◌∙◌, inl, inr, arith, mul_comm, length-drop}
use mathlib.Core.List.Memᴰ
use mathlib.Core.List.Memᴰ.{head as here}
use mathlib.Core.List.Memᴰ.{tail as there}
use mathlib.Core.List.{List, [], ◌∷◌, map}
use Rattle.std.proofs.Math.Nat.{mul-mul-mul_comm}
use Rattle.std.proofs.Math.Decide.{dec_lt}
use Rattle.std.proofs.Math.Arith.{digits_div, digits_mod}
use Rattle.dct_select.specs.Transforms.{wide, high, order_of, turns, across, down}
use Rattle.order_sizes.specs.BlockSizes.{width_of, height_of}
use Rattle.order_natural.specs.Places.{Place, is, tally, count}
use Rattle.order_natural.proofs.laws.Bools.{tally_one}
use Rattle.order_natural.specs.Order.{Size, Order}
use Rattle.order_natural.proofs.laws.Sizes.{size_of, width_eights, height_by}
use Rattle.order_natural.proofs.laws.Counts.{is_hit}
use Rattle.order_natural.proofs.laws.Listing.{hit_of, listing_length, self, inside_of}
use Rattle.order_natural.proofs.laws.Order.{skip_by}
use Rattle.order_natural.proofs.laws.Beyond.{beyond_count, corner_none, other_once}
use Rattle.coeff_walk.specs.Places.{cell_of, cells_of}
use Rattle.dct_select.specs.laws.Sides.{order_lt, OrderSides, swapped, straight, sides_of}
use Rattle.coeff_group.specs.laws.Cells.{Distinct, In}
use Rattle.coeff_group.proofs.laws.Cells.{distinct_map}
use Rattle.one_to_one.specs.laws.Spread.{Spread}

in_count : (q : Place) (l : List Place) → In q l → 0 < count q.0 q.1 l
in_count q [] x' = elim x' [ ]
in_count q (r ∷ rs) (here e) = subst (λ s. 0 < count s.0 s.1 (r ∷ rs)) (sym e) (self r rs)
in_count q (r ∷ rs) (there i) = omega (arith, in_count q rs i)

count_in : (x y : ℕ) (l : List Place) → 0 < count x y l → In (x, y) l
count_in x y [] h = absurd (omega arith)
count_in x y (p ∷ l) h = go (is x y p) refl h (count_in x y l)
  where
    go : (b : Bool) → is x y p ≡ b → 0 < tally b + count x y l → (0 < count x y l → In (x, y) l) → In (x, y) (p ∷ l)
    go true e h r = let k = hit_of x y p e in here (λ i. (k.0 i, k.1 i))
    go false e h r = there (r (omega arith))

count_distinct : (l : List Place) → ((x y : ℕ) → count x y l ≤ 1) → Distinct l
count_distinct [] h = tt
count_distinct (p ∷ l) h = (
  (λ (i : In p l). let a = h p.0 p.1 in let b = in_count p l i in let e = is_hit p.0 p.1 p (refl, refl) in let c : 1 + count p.0 p.1 l ≤ 1 = rw e at a in omega arith),
  count_distinct l (λ x y. omega (arith, h x y)),
)

module _ (bw bh : ℕ) (z : Size bw bh) (l : List Place) (o : Order bw bh l) where
  abbrev rest : List Place
  rest = drop (bw * bh / 64) l

  spread_straight : Spread false (bw / 8) (bh / 8) (drop (bw * bh / 64) l)
  spread_straight = record {
    size =
        let a : length l ≡ bw * bh = listing_length bw bh l o.cells in
        let b : bw * bh / 64 ≡ bw / 8 * (bh / 8) = skip_by bw bh z in
        let c = length-drop (bw * bh / 64) l in
        omega (arith, whole64);
    inside = λ q i. let a = in_bounds q i in let x = width_eights bw bh z in let y = height_by bw bh z in let u = a.0 in let v = a.1 in (omega arith, omega arith);
    upper = λ q i a b. omega (arith, in_count q rest i, corner_none bw bh l o q.0 q.1 a b);
    distinct = count_distinct rest (λ x y. omega (arith, beyond_count bw bh l o x y, tally_one (ltb x bw && ltb y bh)));
    whole = λ dx dy a b n. let x = width_eights bw bh z in let y = height_by bw bh z in
        ((dx, dy), count_in dx dy rest (omega (arith, once dx dy (omega arith) (omega arith) n)), refl, refl);
  }
    where
      whole64 : bw * bh ≡ 64 * (bw * bh / 64)
      whole64 =
          let a : bw ≡ 8 * (bw / 8) = omega (arith, width_eights bw bh z) in
          let b : bh ≡ 8 * (bh / 8) = omega (arith, height_by bw bh z) in
          let s : bw * bh / 64 ≡ bw / 8 * (bh / 8) = skip_by bw bh z in
          product (bw / 8) (bh / 8) bw bh (bw * bh / 64) a b s
        where
          product : (u v m n k : ℕ) → m ≡ 8 * u → n ≡ 8 * v → k ≡ u * v → m * n ≡ 64 * k
          product u v m n k a b s = rw (a, b, s) (mul-mul-mul_comm 8 u 8 v)

      in_bounds : (q : Place) → In q rest → (q.0 < bw) × (q.1 < bh)
      in_bounds q i = inside_of q.0 q.1 bw bh (omega (arith, beyond_count bw bh l o q.0 q.1, in_count q rest i))

      once : (dx dy : ℕ) → dx < bw → dy < bh → (dx < bw / 8 → dy < bh / 8 → ⊥) → count dx dy rest ≡ 1
      once dx dy a b n = go (dec_lt dx (bw / 8)) (dec_lt dy (bh / 8))
        where
          go : Dec (dx < bw / 8) → Dec (dy < bh / 8) → count dx dy rest ≡ 1
          go (no c) d = other_once bw bh l o dx dy a b (inl (omega arith))
          go (yes c) (no d) = other_once bw bh l o dx dy a b (inr (omega arith))
          go (yes c) (yes d) = absurd (n c d)

turned : (w h : ℕ) (qs : List Place) → Spread false w h qs → Spread true h w qs
turned w h qs s = record {
  size = s.size ∙ ap (λ (x : ℕ). 63 * x) (mul_comm w h);
  inside = λ (q : Place). λ (i : In q qs). ((s.inside q i).1, (s.inside q i).0);
  upper = λ (q : Place). λ (i : In q qs). λ (a : q.1 < h). λ (b : q.0 < w). s.upper q i b a;
  distinct = s.distinct;
  whole = λ dx dy a b n. let r = s.whole dy dx b a (λ (y : dy < w). λ (x : dx < h). n x y) in (r.0, r.1, r.3, r.2);
}

spread_by : (turn : Bool) (w h bw bh : ℕ) (l : List Place) → OrderSides turn w h bw bh → bw * bh / 64 ≡ bw / 8 * (bh / 8)
    → Spread false (bw / 8) (bh / 8) (drop (bw * bh / 64) l) → Spread turn w h (drop (w * h) l)
spread_by turn w h bw bh l (swapped e a b) f s =
    let x : w ≡ bh / 8 = omega arith in
    let y : h ≡ bw / 8 = omega arith in
    let c : w * h ≡ bw * bh / 64 = rw (x, y) (mul_comm (bh / 8) (bw / 8) ∙ sym f) in
    rw (e, c) (rw (x, y) (turned (bw / 8) (bh / 8) (drop (bw * bh / 64) l) s))
spread_by turn w h bw bh l (straight e a b) f s =
    let x : w ≡ bw / 8 = omega arith in
    let y : h ≡ bh / 8 = omega arith in
    let c : w * h ≡ bw * bh / 64 = rw (x, y) (sym f) in
    rw (e, c) (rw (x, y) s)

pub spread_of : (t : ℕ) → t < 27 → (l : List Place) → Order (width_of (order_of t)) (height_of (order_of t)) l → Spread (turns t) (wide t) (high t) (drop (wide t * high t) l)
spread_of t h l o =
    let k = order_of t in
    let z = size_of k (order_lt t h) in
    spread_by (turns t) (wide t) (high t) (width_of k) (height_of k) l (sides_of t h) (skip_by (width_of k) (height_of k) z) (spread_straight (width_of k) (height_of k) z l o)

-- Places as cells of a grid.
module _ (t : Bool) (width X Y : ℕ) where
  places_map : (qs : List Place) → cells_of t width X Y qs ≡ map (cell_of t width X Y) qs
  unfolding cells_of
  places_map [] = refl
  places_map (q ∷ qs) = ap (λ (l : List ℕ). cell_of t width X Y q ∷ l) (places_map qs)

  pub place_in : (qs : List Place) (q : Place) → In q qs → In (cell_of t width X Y q) (cells_of t width X Y qs)
  place_in qs q i = rw (places_map qs) (Memᴰ.map (cell_of t width X Y) i)

  pub in_place : (qs : List Place) (p : ℕ) → In p (cells_of t width X Y qs) → (q : Place) × In q qs × (cell_of t width X Y q ≡ p)
  in_place qs p i = Memᴰ.of_map (cell_of t width X Y) qs (rw (places_map qs) at i)

  pub cell_row : (q : Place) → X + across t q.0 q.1 < width → cell_of t width X Y q / width ≡ Y + down t q.0 q.1
  cell_row q h = digits_div (Y + down t q.0 q.1) h

  pub cell_x : (q : Place) → X + across t q.0 q.1 < width → cell_of t width X Y q % width ≡ X + across t q.0 q.1
  cell_x q h = digits_mod (Y + down t q.0 q.1) h

  pub distinct_places : (qs : List Place) → ((q : Place) → In q qs → X + across t q.0 q.1 < width) → Distinct qs → Distinct (cells_of t width X Y qs)
  distinct_places qs h d = rw (places_map qs) (distinct_map (cell_of t width X Y) qs (λ q r i j e.
      let a : X + across t q.0 q.1 ≡ X + across t r.0 r.1 = sym (cell_x q (h q i)) ∙ ap (λ (x : ℕ). x % width) e ∙ cell_x r (h r j) in
      let b : Y + down t q.0 q.1 ≡ Y + down t r.0 r.1 = sym (cell_row q (h q i)) ∙ ap (λ (x : ℕ). x / width) e ∙ cell_row r (h r j) in
      both t q r (omega arith) (omega arith)) d)
    where
      both : (t : Bool) (q r : Place) → across t q.0 q.1 ≡ across t r.0 r.1 → down t q.0 q.1 ≡ down t r.0 r.1 → q ≡ r
      both true q r a b = λ i. (b i, a i)
      both false q r a b = λ i. (a i, b i)
