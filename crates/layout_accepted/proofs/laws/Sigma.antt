-- The filter strength that an accepted layout call leaves at each block (document 01, Layout and filter strength).
use Rattle.std.specs.Prelude.{◌≡◌, Bool, true, false, ◌&&◌, ◌⊎◌, List, ℕ, ◌+◌, ◌*◌, ◌≤◌, ◌<◌, T, ltb, length, get_or, set, Float, Option, Some, None}
use Rattle.std.proofs.Math.Path.{refl, sym}
use Rattle.std.proofs.Common.{ap, ◌∙◌, inl, inr, arith, length-set, get_or-set_same, get_or-set_other, leb-false}
use Rattle.std.proofs.Math.Dec.{leb}
use Rattle.std.proofs.lemmas.List.{length-replicate, get_or-replicate}
use Rattle.std.specs.Float.{binary32}
use Rattle.std.specs.Float.Ieee.{of_bits, to_bits, size, span, climb}
use Rattle.std.specs.Float.Ieee.Bits.{is_true}
use Rattle.std.specs.Float.Ieee.Fits.{and_r}
use Rattle.std.specs.Float.Ieee.Scale.{finite}
use Rattle.laws.specs.laws.Cases.{eq_or_ne}
use Rattle.dct_select.specs.Transforms.{wide, high}
use Rattle.dct_select.specs.laws.Sides.{wide_some, high_some}
use Rattle.layout.proofs.laws.RowByRow.{forward}
use Rattle.layout.specs.Grid.{block_at}
use Rattle.layout.proofs.laws.Grid.{place_lt, place_col, place_row}
use Rattle.layout.specs.Valid.{Covers}
use Rattle.layout.specs.RowByRow.{Before}
use Rattle.layout.specs.laws.Order.{Here}
use Rattle.layout.proofs.laws.Order.{last, later, never}
use Rattle.layout_filter.specs.declared.Filter.{Filter}
use Rattle.layout_filter.specs.declared.ScaledMultiplier.{ScaledMultiplier}
use Rattle.layout_filter.specs.declared.DividedMultiplier.{DividedMultiplier}
use Rattle.layout_filter.specs.Strength.{zero32, pattern, times_look_up, sigma_of, scaled_by, divided_by}
use Rattle.layout_filter.specs.declared.Filter.TheVariants.{Off, On}
use Rattle.layout_filter.specs.Limits.{params_fit}
use Rattle.layout_filter.specs.Finite.{SIGMA_MOST, Within}
use Rattle.layout_filter.proofs.laws.Finite.{within_finite, sigma_within, sigma_back}
use Rattle.layout_sizes.specs.Blocks.{modes_fit}
use Rattle.layout_placing.specs.Scan.{Scan, Taking, Left, is_on, sigma_with, take_cell, scan}
use Rattle.layout_placing.specs.Reading.{Job, Placed, start}
use Rattle.refusal.specs.Answer.{gives}
use Rattle.layout_call.specs.Call.{Inputs, job_of, layout_of}
use Rattle.layout_accepted.specs.laws.Took.{InRect}
use Rattle.layout_accepted.proofs.laws.Took.{passed, cell_took}
use Rattle.layout_accepted.specs.laws.Puts.{Column, Spot, corner, body, beyond}
use Rattle.layout_accepted.proofs.laws.Puts.{spot}
use Rattle.layout_accepted.specs.Refused.{Sofar}
use Rattle.layout_accepted.proofs.laws.Accepted.{after, blank, along}
use Rattle.layout_accepted.specs.Outcome.{bh_of, bw_of, strength_at}
use Rattle.layout_accepted.proofs.laws.Theorems.{Read, accepted_read, accepted_layout}
use Rattle.layout_accepted.specs.laws.Sigma.{AcceptedSharpness}

-- sigma of a block of a varblock whose filter is given; filter off: as it was
abbrev cell_sigma : Option DividedMultiplier → List Float → ℕ → ℕ → ℕ
cell_sigma None lookups sharpness old = old
cell_sigma (Some q) lookups sharpness old = pattern (times_look_up q.0 lookups sharpness)

module _ (lookups : List Float) (sharpness s : List ℕ) (i : ℕ) where
  length_with : (f : Option DividedMultiplier) → length (sigma_with f lookups sharpness s i) ≡ length s
  length_with None = refl
  length_with (Some q) = length-set s i (pattern (times_look_up q.0 lookups (get_or sharpness i 0)))

  with_same : (f : Option DividedMultiplier) → i < length s → get_or (sigma_with f lookups sharpness s i) i 0 ≡ cell_sigma f lookups (get_or sharpness i 0) (get_or s i 0)
  with_same None h = refl
  with_same (Some q) h = get_or-set_same s i (pattern (times_look_up q.0 lookups (get_or sharpness i 0))) 0 h

  with_other : (f : Option DividedMultiplier) (j : ℕ) → (j ≡ i → ⊥) → get_or (sigma_with f lookups sharpness s i) j 0 ≡ get_or s j 0
  with_other None j n = refl
  with_other (Some q) j n = get_or-set_other s i j (pattern (times_look_up q.0 lookups (get_or sharpness i 0))) 0 n

-- A scan that no cell refused, at one block (a, b) of the grid.
module _ (bw bh : ℕ) (filter : Option DividedMultiplier) (lookups : List Float) (sharpness : List ℕ) where
  same_sigma : (k k' s s' : List ℕ) → Taking k s ≡ Taking k' s' → s ≡ s'
  same_sigma k k' s s' e = cc

  sharp_below : (f : Option DividedMultiplier) (n : ℕ) → (is_on f && leb 8 n) ≡ false → is_on f ≡ true → n < 8
  sharp_below None n e g = absurd (let z : ◌≡◌ {A = ℕ} 0 1 = cc in omega arith)
  sharp_below (Some q) n e g = leb-false 8 n e

  -- one cell
  cell_sigma_lem : (cx cy : ℕ) (k k' s s' : List ℕ) → take_cell bw bh filter lookups sharpness cx cy (Taking k s) ≡ Taking k' s'
      → (s' ≡ sigma_with filter lookups sharpness s (cy * bw + cx)) × (is_on filter ≡ true → block_at sharpness bw cx cy < 8)
  unfolding take_cell
  cell_sigma_lem cx cy k k' s s' e =
      let p1 = passed (leb bw cx) 9 cx cy _ k' s' e in
      let p2 = passed (leb bh cy) 9 cx cy _ k' s' p1.1 in
      let p3 = passed (ltb 0 (block_at k bw cx cy)) 8 cx cy _ k' s' p2.1 in
      let p4 = passed (is_on filter && leb 8 (block_at sharpness bw cx cy)) 10 cx cy _ k' s' p3.1 in (
        sym (same_sigma (set k (cy * bw + cx) 1) k' (sigma_with filter lookups sharpness s (cy * bw + cx)) s' p4.1),
        sharp_below filter (block_at sharpness bw cx cy) p4.0,
      )

  module _ (x y w h : ℕ) (s : List ℕ) (len : length s ≡ bh * bw) (a b : ℕ) (ha : a < bw) (hb : b < bh) where
    -- the block was taken before (dx, dy) of the rectangle
    abbrev Taken : ℕ → ℕ → Type 0
    Taken dx dy = (x ≤ a) × (a < x + w) × (y ≤ b) × Before a b (x + dx) (y + dy)

    record SigmaSofar (dx dy : ℕ) (s' : List ℕ) : Type 0 where
      length_s : length s' ≡ bh * bw
      now : Taken dx dy → block_at s' bw a b ≡ cell_sigma filter lookups (block_at sharpness bw a b) (block_at s bw a b)
      sharp : Taken dx dy → is_on filter ≡ true → block_at sharpness bw a b < 8
      kept : (Taken dx dy → ⊥) → block_at s' bw a b ≡ block_at s bw a b

    Sound : ℕ → ℕ → Scan → Type 0
    Sound dx dy (Taking k s') = SigmaSofar dx dy s'
    Sound dx dy (Left n c d) = Unit

    one_more : (dx dy : ℕ) (s₁ s₂ : List ℕ) → dx < w → x + dx < bw → y + dy < bh
        → (s₂ ≡ sigma_with filter lookups sharpness s₁ ((y + dy) * bw + (x + dx))) × (is_on filter ≡ true → block_at sharpness bw (x + dx) (y + dy) < 8)
        → SigmaSofar dx dy s₁ → SigmaSofar (dx + 1) dy s₂
    one_more dx dy s₁ s₂ hd hx hy c r = go (eq_or_ne a (x + dx)) (eq_or_ne b (y + dy))
      where
        lengthened : length s₂ ≡ bh * bw
        lengthened = ap length c.0 ∙ length_with lookups sharpness s₁ ((y + dy) * bw + (x + dx)) filter ∙ r.length_s

        next : x + (dx + 1) ≡ x + dx + 1
        next = omega arith

        before : Taken dx dy → Taken (dx + 1) dy
        before t = (t.0, t.1, t.2, rw next (later a b (x + dx) (y + dy) t.3))

        other : (Here (x + dx) (y + dy) a b → ⊥) → SigmaSofar (dx + 1) dy s₂
        other n = record {
          length_s = lengthened;
          now = λ t. same ∙ r.now (was t);
          sharp = λ t. r.sharp (was t);
          kept = λ t. same ∙ r.kept (λ u. t (before u));
        }
          where
            same : block_at s₂ bw a b ≡ block_at s₁ bw a b
            same = ap (λ (z : List ℕ). block_at z bw a b) c.0
                ∙ with_other lookups sharpness s₁ ((y + dy) * bw + (x + dx)) filter (b * bw + a) (λ e. n (place_col bw (x + dx) (y + dy) a b hx ha e, place_row bw (x + dx) (y + dy) a b hx ha e))

            was : Taken (dx + 1) dy → Taken dx dy
            was t = (t.0, t.1, t.2, by (last a b (x + dx) (y + dy) (rw next at t.3)))
              where
                by : Here (x + dx) (y + dy) a b ⊎ Before a b (x + dx) (y + dy) → Before a b (x + dx) (y + dy)
                by (inl e) = absurd (n e)
                by (inr g) = g

        itself : a ≡ x + dx → b ≡ y + dy → SigmaSofar (dx + 1) dy s₂
        itself e f = record {
          length_s = lengthened;
          now = λ t. is;
          sharp = λ t. rw (e, f) c.1;
          kept = λ t. absurd (t (omega arith, omega arith, omega arith, inr (f, omega arith)));
        }
          where
            old : block_at s₁ bw a b ≡ block_at s bw a b
            old = r.kept (λ t. never (x + dx) (y + dy) (rw (e, f) at t.3))

            at_place : b * bw + a ≡ (y + dy) * bw + (x + dx)
            at_place = rw (e, f)

            is : block_at s₂ bw a b ≡ cell_sigma filter lookups (block_at sharpness bw a b) (block_at s bw a b)
            is = ap (λ (z : List ℕ). block_at z bw a b) (c.0 ∙ ap (λ (j : ℕ). sigma_with filter lookups sharpness s₁ j) (sym at_place))
                ∙ with_same lookups sharpness s₁ (b * bw + a) filter (let l = r.length_s in omega (arith, place_lt bw bh a b ha hb))
                ∙ ap (λ (z : ℕ). cell_sigma filter lookups (block_at sharpness bw a b) z) old

        go : (a ≡ x + dx) ⊎ (a ≡ x + dx → ⊥) → (b ≡ y + dy) ⊎ (b ≡ y + dy → ⊥) → SigmaSofar (dx + 1) dy s₂
        go (inl e) (inl f) = itself e f
        go (inl e) (inr f) = other (λ m. f m.1)
        go (inr e) f = other (λ m. e m.0)

    stays : (dx dy n c d : ℕ) → take_cell bw bh filter lookups sharpness (x + dx) (y + dy) (Left n c d) ≡ Left n c d
    unfolding take_cell
    stays dx dy n c d = refl

    step : (dx dy : ℕ) (t : Scan) → dx < w → dy < h → Sound dx dy t → Sound (dx + 1) dy (take_cell bw bh filter lookups sharpness (x + dx) (y + dy) t)
    unfolding Sound
    step dx dy (Left n c d) hx hy r = rw (stays dx dy n c d) tt
    step dx dy (Taking k₁ s₁) hx hy r = go (take_cell bw bh filter lookups sharpness (x + dx) (y + dy) (Taking k₁ s₁)) refl
      where
        go : (t : Scan) → take_cell bw bh filter lookups sharpness (x + dx) (y + dy) (Taking k₁ s₁) ≡ t → Sound (dx + 1) dy t
        go (Left n c d) e = tt
        go (Taking k₂ s₂) e =
            let c = cell_took bw bh filter lookups sharpness (x + dx) (y + dy) k₁ k₂ s₁ s₂ e in
            one_more dx dy s₁ s₂ hx c.in_x c.in_y (cell_sigma_lem (x + dx) (y + dy) k₁ k₂ s₁ s₂ e) r

    back : (dy : ℕ) → Taken 0 (dy + 1) → Taken w dy
    back dy t = (t.0, t.1, t.2, go t.3 (eq_or_ne b (y + dy)))
      where
        go : Before a b (x + 0) (y + (dy + 1)) → (b ≡ y + dy) ⊎ (b ≡ y + dy → ⊥) → Before a b (x + w) (y + dy)
        go (inr g) e = absurd (let z = t.0 in omega arith)
        go (inl g) (inl e) = inr (e, t.1)
        go (inl g) (inr e) = inl (omega arith)

    go_on : (dy : ℕ) → Taken w dy → Taken 0 (dy + 1)
    go_on dy t = (t.0, t.1, t.2, go t.3)
      where
        go : Before a b (x + w) (y + dy) → Before a b (x + 0) (y + (dy + 1))
        go (inl g) = inl (omega arith)
        go (inr g) = inl (omega arith)

    turn : (dy : ℕ) (t : Scan) → dy < h → Sound w dy t → Sound 0 (dy + 1) t
    unfolding Sound
    turn dy (Left n c d) hy r = tt
    turn dy (Taking k₁ s₁) hy r =
        record { length_s = r.length_s; now = λ t. r.now (back dy t); sharp = λ t. r.sharp (back dy t); kept = λ t. r.kept (λ u. t (go_on dy u)) }

    none : Taken 0 0 → ⊥
    none t = go t.3
      where
        go : Before a b (x + 0) (y + 0) → ⊥
        go (inl g) = let z = t.2 in omega arith
        go (inr g) = let z = t.0 in omega arith

    ended : (k k' s' : List ℕ) → scan bw bh filter lookups sharpness x y w h (Taking k s) ≡ Taking k' s' → SigmaSofar 0 h s'
    unfolding scan Sound
    ended k k' s' f =
        rw f at (forward (λ (dx dy : ℕ). take_cell bw bh filter lookups sharpness (x + dx) (y + dy)) w h Sound step turn (Taking k s)
        (record { length_s = len; now = λ t. absurd (none t); sharp = λ t. absurd (none t); kept = λ t. refl }))

    -- by the rectangle
    record Scanned (s' : List ℕ) : Type 0 where
      length_s : length s' ≡ bh * bw
      now : InRect x y w h a b → block_at s' bw a b ≡ cell_sigma filter lookups (block_at sharpness bw a b) (block_at s bw a b)
      sharp : InRect x y w h a b → is_on filter ≡ true → block_at sharpness bw a b < 8
      kept : (InRect x y w h a b → ⊥) → block_at s' bw a b ≡ block_at s bw a b

    scanned : (k k' s' : List ℕ) → scan bw bh filter lookups sharpness x y w h (Taking k s) ≡ Taking k' s' → Scanned s'
    scanned k k' s' f =
        let r = ended k k' s' f in
        record {
          length_s = r.length_s;
          now = λ m. r.now (m.0, m.1, m.2, inl m.3);
          sharp = λ m. r.sharp (m.0, m.1, m.2, inl m.3);
          kept = λ n. r.kept (λ t. n (t.0, t.1, t.2, row t t.3));
        }
      where
        row : Taken 0 h → Before a b (x + 0) (y + h) → b < y + h
        row t (inl g) = g
        row t (inr g) = absurd (let z = t.0 in omega arith)

-- A column placed.
abbrev is_scaled_on : Option ScaledMultiplier → Bool
is_scaled_on None = false
is_scaled_on (Some a) = true

shared_on : (f : Option ScaledMultiplier) (h : ℕ) → is_scaled_on f ≡ true → is_on (divided_by f h) ≡ true
unfolding divided_by
shared_on None h e = e
shared_on (Some a) h e = refl

module _ (J : Job) where
  -- blocks that are free have +0.0, the others the filter strength by the hf_mul of their varblock's corner
  record Strengths (p : Placed) : Type 0 where
    length_s : length p.sigma ≡ J.bh * J.bw
    free : (a b : ℕ) → a < J.bw → b < J.bh → block_at p.kinds J.bw a b ≡ 0 → block_at p.sigma J.bw a b ≡ 0
    taken : (a b c d : ℕ) → a < J.bw → b < J.bh → Covers (block_at p.kinds J.bw) c d a b
        → block_at p.sigma J.bw a b ≡ cell_sigma (divided_by J.filter (block_at p.hf_mul J.bw c d)) J.lookups (block_at J.sharpness J.bw a b) 0
    sharp : (a b : ℕ) → a < J.bw → b < J.bh → 0 < block_at p.kinds J.bw a b → is_scaled_on J.filter ≡ true → block_at J.sharpness J.bw a b < 8

  begin : Strengths (start J)
  begin = record {
    length_s = length-replicate {A = ℕ} (J.bh * J.bw) 0;
    free = λ a b i j e. get_or-replicate {A = ℕ} (J.bh * J.bw) (b * J.bw + a) 0 0 (place_lt J.bw J.bh a b i j);
    taken = λ a b c d i j v. absurd (let z = blank J c d (let w = v.from_x in omega arith) (let w = v.from_y in omega arith) in let w = v.corner in omega arith);
    sharp = λ a b i j l. absurd (let z = blank J a b i j in omega arith);
  }

  module _ (x y t h : ℕ) (p q : Placed) (hx : x < J.bw) (hy : y < J.bh) (o : Sofar J x y p) (c : Column J x y p q t h) (r : Strengths p) where
    seen : (a b : ℕ) (i : a < J.bw) (j : b < J.bh)
        → Scanned J.bw J.bh (divided_by J.filter h) J.lookups J.sharpness x y (wide t) (high t) p.sigma r.length_s a b i j q.sigma
    seen a b i j =
        scanned J.bw J.bh (divided_by J.filter h) J.lookups J.sharpness x y (wide t) (high t) p.sigma r.length_s a b i j p.kinds c.taken q.sigma c.scan_is

    was_free : block_at p.kinds J.bw x y ≡ 0
    was_free = c.free x y (let w = wide_some t c.fits.known in let v = high_some t c.fits.known in (omega arith, omega arith, omega arith, omega arith))

    now_free : (a b : ℕ) → a < J.bw → b < J.bh → block_at q.kinds J.bw a b ≡ 0 → Spot x y (wide t) (high t) a b → block_at q.sigma J.bw a b ≡ 0
    now_free a b i j e (corner m) = absurd (let z = c.puts.at_corner in let u : block_at q.kinds J.bw a b ≡ block_at q.kinds J.bw x y = rw (m.0, m.1) in omega arith)
    now_free a b i j e (body n m) = absurd (let z = c.puts.in_body a b n m in omega arith)
    now_free a b i j e (beyond n) = (seen a b i j).kept n ∙ r.free a b i j (sym (c.puts.elsewhere a b i n) ∙ e)

    now_taken : (a b u v : ℕ) → a < J.bw → b < J.bh → (Here x y u v × InRect x y (wide t) (high t) a b) ⊎ Covers (block_at p.kinds J.bw) u v a b
        → block_at q.sigma J.bw a b ≡ cell_sigma (divided_by J.filter (block_at q.hf_mul J.bw u v)) J.lookups (block_at J.sharpness J.bw a b) 0
    now_taken a b u v i j (inl m) =
        (seen a b i j).now m.1
        ∙ ap (λ (z : ℕ). cell_sigma (divided_by J.filter h) J.lookups (block_at J.sharpness J.bw a b) z) (r.free a b i j (c.free a b m.1))
        ∙ ap (λ (n : ℕ). cell_sigma (divided_by J.filter n) J.lookups (block_at J.sharpness J.bw a b) 0) (sym (ap (λ (n : ℕ). block_at q.hf_mul J.bw n v) m.0.0 ∙ ap (λ (n : ℕ). block_at q.hf_mul J.bw x n) m.0.1 ∙ c.puts.hf_mul_corner))
    now_taken a b u v i j (inr w) =
        (seen a b i j).kept (λ m. let z = c.free a b m in let f = o.part.full a b u v i j w in omega arith) ∙ r.taken a b u v i j w
        ∙ ap (λ (n : ℕ). cell_sigma (divided_by J.filter n) J.lookups (block_at J.sharpness J.bw a b) 0)
        (sym (c.puts.hf_mul_other u v (let z = w.from_x in omega arith) (λ m. let z = w.corner in let k : block_at p.kinds J.bw u v ≡ block_at p.kinds J.bw x y = rw (m.0, m.1) in omega (arith, was_free))))

    now_sharp : (a b : ℕ) → a < J.bw → b < J.bh → 0 < block_at q.kinds J.bw a b → is_scaled_on J.filter ≡ true → Spot x y (wide t) (high t) a b → block_at J.sharpness J.bw a b < 8
    now_sharp a b i j l e (corner m) = (seen a b i j).sharp (let w = wide_some t c.fits.known in let v = high_some t c.fits.known in (omega arith, omega arith, omega arith, omega arith)) (shared_on J.filter h e)
    now_sharp a b i j l e (body n m) = (seen a b i j).sharp m (shared_on J.filter h e)
    now_sharp a b i j l e (beyond n) = r.sharp a b i j (let z = c.puts.elsewhere a b i n in omega arith) e

    placed_strengths : Strengths q
    placed_strengths = record {
      length_s = (seen x y hx hy).length_s;
      free = λ a b i j e. now_free a b i j e (spot x y (wide t) (high t) a b);
      taken = λ a b u v i j w. now_taken a b u v i j (after J x y t h p q c o a b u v i w);
      sharp = λ a b i j l e. now_sharp a b i j l e (spot x y (wide t) (high t) a b);
    }

-- the four steps in turn
zero_pattern : pattern zero32 ≡ 0
unfolding to_bits size span climb
zero_pattern = refl

steps : (f : Filter) (scale h : ℕ) (lookups : List Float) (sharpness : ℕ) → cell_sigma (divided_by (scaled_by f scale) h) lookups sharpness 0 ≡ pattern (sigma_of f scale h lookups sharpness)
unfolding scaled_by divided_by sigma_of
steps Off scale h lookups sharpness = sym zero_pattern
steps (On m) scale h lookups sharpness = refl

scaled_on : (f : Filter) (scale : ℕ) (m : Float) → f ≡ On m → is_scaled_on (scaled_by f scale) ≡ true
unfolding scaled_by
scaled_on Off scale m e = absurd (let z : ◌≡◌ {A = ℕ} 0 1 = cc in omega arith)
scaled_on (On a) scale m e = refl

module _ (i : Inputs) (kinds hf_mul sigma : List ℕ) where
  module _ (n : ℕ) (e : (layout_of i kinds hf_mul sigma).answer ≡ gives n) where
    read : Read i kinds hf_mul sigma n
    read = accepted_read i kinds hf_mul sigma n e

    strengths : Sofar (job_of i) 0 (bh_of i) read.last × Strengths (job_of i) read.last
    strengths = along (job_of i) (Strengths (job_of i)) (begin (job_of i)) (λ x y p q hx hy u o c r. placed_strengths (job_of i) x y _ _ p q hx hy o c r) read.last read.read

    -- a sigma for each block
    pub accepted_sigmas : length (layout_of i kinds hf_mul sigma).sigma ≡ bh_of i * bw_of i
    accepted_sigmas = ap length read.sigma_are ∙ strengths.1.length_s

    -- its bit pattern is what is left
    pub accepted_sigma : (cx cy x y : ℕ) → x < bw_of i → y < bh_of i → Covers (block_at (layout_of i kinds hf_mul sigma).kinds (bw_of i)) cx cy x y → block_at (layout_of i kinds hf_mul sigma).sigma (bw_of i) x y ≡ pattern (strength_at i kinds hf_mul sigma cx cy x y)
    accepted_sigma cx cy x y hx hy v =
        let r = read in
        rw (r.sigma_are, r.hf_mul_are)
        (strengths.1.taken x y cx cy hx hy (rw r.kinds_are at v)
        ∙ steps i.filter i.scale (block_at r.last.hf_mul (bw_of i) cx cy) i.lookups (block_at i.sharpness (bw_of i) x y))

    -- with the filter on every sharpness number is 0 to 7
    pub accepted_sharpness : AcceptedSharpness i kinds hf_mul sigma n e
    accepted_sharpness m f x y hx hy = strengths.1.sharp x y hx hy (strengths.0.done x y hx hy (inl hy)) (scaled_on i.filter i.scale m f)

    -- it is finite, no NaN and no infinity, at most 65,504 × 65,536 × 65,504 in size, and the bit pattern reads back as it
    pub accepted_finite : (cx cy x y : ℕ) → x < bw_of i → y < bh_of i → Covers (block_at (layout_of i kinds hf_mul sigma).kinds (bw_of i)) cx cy x y
        → T (finite (strength_at i kinds hf_mul sigma cx cy x y)) × Within SIGMA_MOST (strength_at i kinds hf_mul sigma cx cy x y) × (of_bits binary32 (block_at (layout_of i kinds hf_mul sigma).sigma (bw_of i) x y) ≡ strength_at i kinds hf_mul sigma cx cy x y)
    accepted_finite cx cy x y hx hy v =
        let h = block_at (layout_of i kinds hf_mul sigma).hf_mul (bw_of i) cx cy in
        let s = block_at i.sharpness (bw_of i) x y in
        let f = (accepted_layout i kinds hf_mul sigma n e).valid.fits cx cy (let z = v.from_x in omega arith) (let z = v.from_y in omega arith) v.corner in
        let a = f.positive in
        let b = f.signed in
        let p = and_r (modes_fit i.modes) (params_fit i.filter i.lookups i.scale) (rw read.parameters tt) in
        let w = sigma_within i.filter i.scale h i.lookups s (is_true (params_fit i.filter i.lookups i.scale) p) a (omega arith) (λ m g. accepted_sharpness m g x y hx hy) in (
          within_finite SIGMA_MOST (strength_at i kinds hf_mul sigma cx cy x y) w,
          w,
          ap (of_bits binary32) (accepted_sigma cx cy x y hx hy v) ∙ sigma_back i.filter i.scale h i.lookups s,
        )
