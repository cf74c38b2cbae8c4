-- A scan that no cell refused: the cells of its rectangle were free and are taken, the others are kept.
use Rattle.std.specs.Prelude.{◌≡◌, Bool, true, false, cond, ◌&&◌, ◌⊎◌, List, ℕ, ◌+◌, ◌*◌, ◌-◌, ◌<◌, ltb, length, Float, Option, None}
use Rattle.std.proofs.Math.Path.{refl, ap, sym}
use Rattle.std.proofs.Common.{◌∙◌, inl, inr, length-set}
use native.Mathlib.Omega.{arith}
use Rattle.std.proofs.Math.Dec.{leb}
use Rattle.std.proofs.Math.ListN.{set}
use borrow.Author.Tests.{ltb-false, leb-false}
use Rattle.laws.specs.laws.Cases.{eq_or_ne}
use Rattle.layout.proofs.laws.RowByRow.{forward}
use Rattle.layout.specs.Grid.{block_at}
use Rattle.layout.proofs.laws.Grid.{set_same, set_other}
use Rattle.layout.specs.RowByRow.{Before}
use Rattle.layout.specs.laws.Order.{Here}
use Rattle.layout.proofs.laws.Order.{last}
use Rattle.layout_filter.specs.declared.DividedMultiplier.{DividedMultiplier}
use Rattle.layout_placing.proofs.laws.Cells.{cell_off}
use Rattle.layout_placing.specs.Scan.{Scan, Taking, Left, is_on, sigma_with, take_cell, scan}
use Rattle.layout_accepted.specs.laws.Took.{InRect, Took, CellTook}

pub passed : (b : Bool) (n cx cy : ℕ) (t : Scan) (k s : List ℕ) → cond b (Left n cx cy) t ≡ Taking k s → (b ≡ false) × (t ≡ Taking k s)
passed true n cx cy t k s e = absurd (let z : ◌≡◌ {A = ℕ} 0 1 = cc in omega arith)
passed false n cx cy t k s e = (refl, e)

same_kinds : (k k' s s' : List ℕ) → Taking k s ≡ Taking k' s' → k ≡ k'
same_kinds k k' s s' e = cc

module _ (bw bh : ℕ) (filter : Option DividedMultiplier) (lookups : List Float) (sharpness : List ℕ) where
  pub cell_took : (cx cy : ℕ) (k k' s s' : List ℕ) → take_cell bw bh filter lookups sharpness cx cy (Taking k s) ≡ Taking k' s' → CellTook bw bh cx cy k k'
  unfolding take_cell
  cell_took cx cy k k' s s' e =
      let p1 = passed (leb bw cx) 9 cx cy _ k' s' e in
      let p2 = passed (leb bh cy) 9 cx cy _ k' s' p1.1 in
      let p3 = passed (ltb 0 (block_at k bw cx cy)) 8 cx cy _ k' s' p2.1 in
      let p4 = passed (is_on filter && leb 8 (block_at sharpness bw cx cy)) 10 cx cy _ k' s' p3.1 in
      let z = ltb-false 0 (block_at k bw cx cy) p3.0 in
      record {
        in_x = leb-false bw cx p1.0;
        in_y = leb-false bh cy p2.0;
        free = omega arith;
        now = sym (same_kinds (set k (cy * bw + cx) 1) k' (sigma_with filter lookups sharpness s (cy * bw + cx)) s' p4.1);
      }

  module _ (x y w h : ℕ) (k : List ℕ) where
    -- at (dx, dy) of the rectangle: the cells before it were free and are taken, the others are kept
    pub record Sofar (dx dy : ℕ) (k' : List ℕ) : Type 0 where
      pub len : length k' ≡ bh * bw
      pub in_x : (i j : ℕ) → i < w → j < h → Before i j dx dy → x + i < bw
      pub in_y : (i j : ℕ) → i < w → j < h → Before i j dx dy → y + j < bh
      pub free : (i j : ℕ) → i < w → j < h → Before i j dx dy → block_at k bw (x + i) (y + j) ≡ 0
      pub taken : (i j : ℕ) → i < w → j < h → Before i j dx dy → block_at k' bw (x + i) (y + j) ≡ 1
      pub kept : (a b : ℕ) → a < bw → ((i j : ℕ) → i < w → j < h → Before i j dx dy → Here (x + i) (y + j) a b → ⊥) → block_at k' bw a b ≡ block_at k bw a b

    Sound : ℕ → ℕ → Scan → Type 0
    Sound dx dy (Taking k' s) = Sofar dx dy k'
    Sound dx dy (Left n a b) = Unit

    pub one_more : (dx dy : ℕ) (k₁ k₂ : List ℕ) → dx < w → dy < h → CellTook bw bh (x + dx) (y + dy) k₁ k₂ → Sofar dx dy k₁ → Sofar (dx + 1) dy k₂
    one_more dx dy k₁ k₂ hx hy c r = record {
      len = ap length c.now ∙ length-set k₁ place 1 ∙ r.len;
      in_x = λ i j hi hj g. in_x' i j hi hj (last i j dx dy g);
      in_y = λ i j hi hj g. in_y' i j hi hj (last i j dx dy g);
      free = λ i j hi hj g. free' i j hi hj (last i j dx dy g);
      taken = λ i j hi hj g. taken' i j hi hj (last i j dx dy g);
      kept = λ a b ha n. ap (λ (g : List ℕ). block_at g bw a b) c.now
          ∙ set_other k₁ bw (x + dx) (y + dy) 1 a b c.in_x ha (λ e. n dx dy hx hy (inr (refl, omega arith)) e)
          ∙ r.kept a b ha (λ i j hi hj g e. n i j hi hj (before i j g) e);
    }
      where
        place : ℕ
        place = (y + dy) * bw + (x + dx)

        before : (i j : ℕ) → Before i j dx dy → Before i j (dx + 1) dy
        before i j (inl g) = inl g
        before i j (inr g) = inr (g.0, omega arith)

        -- a cell before (dx, dy) is another cell
        other : (i j : ℕ) → Before i j dx dy → Here (x + dx) (y + dy) (x + i) (y + j) → ⊥
        other i j (inl g) e = omega arith
        other i j (inr g) e = omega arith

        was : block_at k bw (x + dx) (y + dy) ≡ 0
        was = sym (r.kept (x + dx) (y + dy) c.in_x (λ i j hi hj g e. other i j g (omega arith, omega arith))) ∙ c.free

        in_x' : (i j : ℕ) → i < w → j < h → Here dx dy i j ⊎ Before i j dx dy → x + i < bw
        in_x' i j hi hj (inl e) = rw e.0 c.in_x
        in_x' i j hi hj (inr g) = r.in_x i j hi hj g

        in_y' : (i j : ℕ) → i < w → j < h → Here dx dy i j ⊎ Before i j dx dy → y + j < bh
        in_y' i j hi hj (inl e) = rw e.1 c.in_y
        in_y' i j hi hj (inr g) = r.in_y i j hi hj g

        free' : (i j : ℕ) → i < w → j < h → Here dx dy i j ⊎ Before i j dx dy → block_at k bw (x + i) (y + j) ≡ 0
        free' i j hi hj (inl e) = rw (e.0, e.1) was
        free' i j hi hj (inr g) = r.free i j hi hj g

        taken' : (i j : ℕ) → i < w → j < h → Here dx dy i j ⊎ Before i j dx dy → block_at k₂ bw (x + i) (y + j) ≡ 1
        taken' i j hi hj (inl e) = rw (e.0, e.1) (ap (λ (g : List ℕ). block_at g bw (x + dx) (y + dy)) c.now ∙ set_same k₁ bw bh (x + dx) (y + dy) 1 r.len c.in_x c.in_y)
        taken' i j hi hj (inr g) =
            ap (λ (l : List ℕ). block_at l bw (x + i) (y + j)) c.now
            ∙ set_other k₁ bw (x + dx) (y + dy) 1 (x + i) (y + j) c.in_x (r.in_x i j hi hj g) (other i j g)
            ∙ r.taken i j hi hj g

    stays : (dx dy n a b : ℕ) → take_cell bw bh filter lookups sharpness (x + dx) (y + dy) (Left n a b) ≡ Left n a b
    unfolding take_cell
    stays dx dy n a b = refl

    step : (dx dy : ℕ) (s : Scan) → dx < w → dy < h → Sound dx dy s → Sound (dx + 1) dy (take_cell bw bh filter lookups sharpness (x + dx) (y + dy) s)
    unfolding Sound
    step dx dy (Left n a b) hx hy r = rw (stays dx dy n a b) tt
    step dx dy (Taking k₁ s₁) hx hy r = go (take_cell bw bh filter lookups sharpness (x + dx) (y + dy) (Taking k₁ s₁)) refl
      where
        go : (t : Scan) → take_cell bw bh filter lookups sharpness (x + dx) (y + dy) (Taking k₁ s₁) ≡ t → Sound (dx + 1) dy t
        go (Left n a b) e = tt
        go (Taking k₂ s₂) e = one_more dx dy k₁ k₂ hx hy (cell_took (x + dx) (y + dy) k₁ k₂ s₁ s₂ e) r

    pub turned : (dy : ℕ) (k₁ : List ℕ) → Sofar w dy k₁ → Sofar 0 (dy + 1) k₁
    turned dy k₁ r = record {
      len = r.len;
      in_x = λ i j hi hj g. r.in_x i j hi hj (back i j hi g);
      in_y = λ i j hi hj g. r.in_y i j hi hj (back i j hi g);
      free = λ i j hi hj g. r.free i j hi hj (back i j hi g);
      taken = λ i j hi hj g. r.taken i j hi hj (back i j hi g);
      kept = λ a b ha n. r.kept a b ha (λ i j hi hj g e. n i j hi hj (on i j g) e);
    }
      where
        back : (i j : ℕ) → i < w → Before i j 0 (dy + 1) → Before i j w dy
        back i j hi (inr g) = absurd (omega arith)
        back i j hi (inl g) = go (eq_or_ne j dy)
          where
            go : (j ≡ dy) ⊎ (j ≡ dy → ⊥) → Before i j w dy
            go (inl e) = inr (e, hi)
            go (inr e) = inl (omega arith)

        on : (i j : ℕ) → Before i j w dy → Before i j 0 (dy + 1)
        on i j (inl g) = inl (omega arith)
        on i j (inr g) = inl (omega arith)

    turn : (dy : ℕ) (s : Scan) → dy < h → Sound w dy s → Sound 0 (dy + 1) s
    unfolding Sound
    turn dy (Left n a b) hy r = tt
    turn dy (Taking k₁ s₁) hy r = turned dy k₁ r

    pub started : length k ≡ bh * bw → Sofar 0 0 k
    started e = record {
      len = e;
      in_x = λ i j hi hj g. absurd (none i j g);
      in_y = λ i j hi hj g. absurd (none i j g);
      free = λ i j hi hj g. absurd (none i j g);
      taken = λ i j hi hj g. absurd (none i j g);
      kept = λ a b ha n. refl;
    }
      where
        none : (i j : ℕ) → Before i j 0 0 → ⊥
        none i j (inl g) = omega arith
        none i j (inr g) = omega arith

    ended : (s s' k' : List ℕ) → length k ≡ bh * bw → scan bw bh filter lookups sharpness x y w h (Taking k s) ≡ Taking k' s' → Sofar 0 h k'
    unfolding scan Sound
    ended s s' k' e f = rw f at (forward (λ (dx dy : ℕ). take_cell bw bh filter lookups sharpness (x + dx) (y + dy)) w h Sound step turn (Taking k s) (started e))

    -- by cells of the grid
    pub took : (s s' k' : List ℕ) → length k ≡ bh * bw → scan bw bh filter lookups sharpness x y w h (Taking k s) ≡ Taking k' s'
        → Took bw bh (block_at k bw) (block_at k' bw) x y w h × (length k' ≡ bh * bw)
    took s s' k' e f = (
      record {
        in_x = λ a b m. let q : x + (a - x) ≡ a = omega arith in rw q at (r.in_x (a - x) (b - y) (omega arith) (omega arith) (inl (omega arith)));
        in_y = λ a b m. let q : y + (b - y) ≡ b = omega arith in rw q at (r.in_y (a - x) (b - y) (omega arith) (omega arith) (inl (omega arith)));
        free = λ a b m. let p : x + (a - x) ≡ a = omega arith in let q : y + (b - y) ≡ b = omega arith in rw (p, q) at (r.free (a - x) (b - y) (omega arith) (omega arith) (inl (omega arith)));
        taken = λ a b m. let p : x + (a - x) ≡ a = omega arith in let q : y + (b - y) ≡ b = omega arith in rw (p, q) at (r.taken (a - x) (b - y) (omega arith) (omega arith) (inl (omega arith)));
        kept = λ a b ha n. r.kept a b ha (λ i j hi hj g m. n (omega arith, omega arith, omega arith, omega arith));
      },
      r.len,
    )
      where
        r : Sofar 0 h k'
        r = ended s s' k' e f

-- A rectangle of free cells inside the grid is taken whole, where the filter is off.
module _ (bw bh : ℕ) (lookups : List Float) (sharpness : List ℕ) (x y w h : ℕ) (k s : List ℕ)
    (in_x : (a b : ℕ) → InRect x y w h a b → a < bw)
    (in_y : (a b : ℕ) → InRect x y w h a b → b < bh)
    (free : (a b : ℕ) → InRect x y w h a b → block_at k bw a b ≡ 0) where
  -- the cells before (dx, dy) are taken, sigma is as it was
  Upto : ℕ → ℕ → Scan → Type 0
  Upto dx dy t = (k' : List ℕ) × (t ≡ Taking k' s) × Sofar bw bh None lookups sharpness x y w h k dx dy k'

  next : (dx dy : ℕ) (t : Scan) → dx < w → dy < h → Upto dx dy t → Upto (dx + 1) dy (take_cell bw bh None lookups sharpness (x + dx) (y + dy) t)
  unfolding Upto
  next dx dy t hx hy u =
      let k₁ = u.0 in
      let o = u.2 in
      let m : InRect x y w h (x + dx) (y + dy) = (omega arith, omega arith, omega arith, omega arith) in
      let i = in_x (x + dx) (y + dy) m in
      let j = in_y (x + dx) (y + dy) m in
      let z : block_at k₁ bw (x + dx) (y + dy) ≡ 0 = o.kept (x + dx) (y + dy) i (λ a b p q g e. other a b g e.0 e.1) ∙ free (x + dx) (y + dy) m in
      let c : CellTook bw bh (x + dx) (y + dy) k₁ (set k₁ ((y + dy) * bw + (x + dx)) 1) = record { in_x = i; in_y = j; free = z; now = refl } in (
        set k₁ ((y + dy) * bw + (x + dx)) 1,
        ap (take_cell bw bh None lookups sharpness (x + dx) (y + dy)) u.1 ∙ sym (cell_off bw bh None lookups sharpness (x + dx) (y + dy) k₁ s i j (omega arith) refl),
        one_more bw bh None lookups sharpness x y w h k dx dy k₁ (set k₁ ((y + dy) * bw + (x + dx)) 1) hx hy c o,
      )
    where
      other : (a b : ℕ) → Before a b dx dy → x + dx ≡ x + a → y + dy ≡ y + b → ⊥
      other a b (inl g) e f = omega arith
      other a b (inr g) e f = omega arith

  below : (dy : ℕ) (t : Scan) → dy < h → Upto w dy t → Upto 0 (dy + 1) t
  unfolding Upto
  below dy t hy u = (u.0, u.1, turned bw bh None lookups sharpness x y w h k dy u.0 u.2)

  pub scan_takes : length k ≡ bh * bw → (k' : List ℕ) × (scan bw bh None lookups sharpness x y w h (Taking k s) ≡ Taking k' s)
  unfolding scan Upto
  scan_takes e =
      let r = forward (λ (dx dy : ℕ). take_cell bw bh None lookups sharpness (x + dx) (y + dy)) w h Upto next below (Taking k s) (k, refl, started bw bh None lookups sharpness x y w h k e) in
      (r.0, r.1)
