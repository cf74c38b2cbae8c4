-- An accepted reading has written a layout.
use Rattle.std.specs.Prelude.{◌≡◌, Bool, true, false, cond, ◌⊎◌, ℕ, ◌+◌, ◌*◌, ◌-◌, ◌≤◌, ◌<◌, eqb, length}
use Rattle.std.proofs.Math.Path.{refl}
use Rattle.std.proofs.Common.{◌∙◌, inl, inr, arith, eqb-true}
use Rattle.std.proofs.lemmas.List.{length-replicate, get_or-replicate}
use Rattle.std.proofs.lemmas.Bool.{eqb-false}
use Rattle.laws.specs.laws.Cases.{eq_or_ne}
use Rattle.refusal.specs.declared.Said.{Said}
use Rattle.dct_select.specs.Transforms.{wide, high}
use Rattle.dct_select.specs.laws.Sides.{wide_some, high_some}
use Rattle.layout.specs.Kinds.{wide_of, high_of}
use Rattle.layout.proofs.laws.RowByRow.{forward}
use Rattle.layout.specs.Grid.{block_at}
use Rattle.layout.proofs.laws.Grid.{place_lt}
use Rattle.layout.specs.Valid.{Cells, Covers, Fits, Owned, Layout}
use Rattle.layout.specs.RowByRow.{Before}
use Rattle.layout.specs.laws.Order.{Here}
use Rattle.layout.proofs.laws.Order.{later, last}
use Rattle.layout_placing.specs.Reading.{Job, Placed, Placing, Going, Stopped, next_type, next_hf_mul, column, visit, start, reading}
use Rattle.layout_accepted.specs.laws.Took.{InRect}
use Rattle.layout_accepted.specs.laws.Puts.{Puts, Column, Spot, corner, body, beyond}
use Rattle.layout_accepted.proofs.laws.Puts.{spot, column_put}
use Rattle.layout_accepted.proofs.laws.Stops.{Well, column_well}
use Rattle.layout_accepted.specs.Refused.{Part, Sofar}

-- one varblock more
module _ (bw bh : ℕ) (K M K' M' : Cells) (t h x y : ℕ) (r : Part bw bh K M)
    (fit : Fits bw bh x y (2 + t) h)
    (free : (a b : ℕ) → InRect x y (wide t) (high t) a b → K a b ≡ 0)
    (s : Puts bw K M K' M' t h x y) where
  less : 2 + t - 2 ≡ t
  less = omega arith

  known : t < 27
  known = let q = fit.known in omega arith

  -- the rectangle has the cell
  new : (a b : ℕ) → InRect x y (wide t) (high t) a b → Covers K' x y a b
  new a b m =
      let z : wide_of (K' x y) ≡ wide t = rw (s.at_corner, less) in
      let w : high_of (K' x y) ≡ high t = rw (s.at_corner, less) in
      let c = s.at_corner in
      record { corner = omega arith; from_x = m.0; to_x = omega arith; from_y = m.2; to_y = omega arith }

  new_in : (a b : ℕ) → Covers K' x y a b → InRect x y (wide t) (high t) a b
  new_in a b v =
      let z : wide_of (K' x y) ≡ wide t = rw (s.at_corner, less) in
      let w : high_of (K' x y) ≡ high t = rw (s.at_corner, less) in
      let i = v.from_x in let j = v.to_x in let k = v.from_y in let l = v.to_y in
      (omega arith, omega arith, omega arith, omega arith)

  -- an old rectangle, before and after
  keep : (a b c d : ℕ) → K' c d ≡ K c d → Covers K c d a b → Covers K' c d a b
  keep a b c d e v =
      let z : wide_of (K' c d) ≡ wide_of (K c d) = rw e in
      let w : high_of (K' c d) ≡ high_of (K c d) = rw e in
      let m = v.corner in let i = v.from_x in let j = v.to_x in let k = v.from_y in let l = v.to_y in
      record { corner = omega arith; from_x = i; to_x = omega arith; from_y = k; to_y = omega arith }

  kept : (a b c d : ℕ) → K' c d ≡ K c d → Covers K' c d a b → Covers K c d a b
  kept a b c d e v =
      let z : wide_of (K' c d) ≡ wide_of (K c d) = rw e in
      let w : high_of (K' c d) ≡ high_of (K c d) = rw e in
      let m = v.corner in let i = v.from_x in let j = v.to_x in let k = v.from_y in let l = v.to_y in
      record { corner = omega arith; from_x = i; to_x = omega arith; from_y = k; to_y = omega arith }

  -- a rectangle is the new one or an old one
  which : (a b c d : ℕ) → a < bw → Covers K' c d a b → Here x y c d ⊎ Covers K c d a b
  which a b c d i v = go (spot x y (wide t) (high t) c d)
    where
      go : Spot x y (wide t) (high t) c d → Here x y c d ⊎ Covers K c d a b
      go (corner e) = inl e
      go (body n m) = absurd (let z = s.in_body c d n m in let w = v.corner in omega arith)
      go (beyond n) = inr (kept a b c d (s.elsewhere c d (let w = v.from_x in omega arith) n) v)

  in_corner : (a b : ℕ) → Here x y a b → InRect x y (wide t) (high t) a b
  in_corner a b e = let w = wide_some t known in let v = high_some t known in (omega arith, omega arith, omega arith, omega arith)

  at_new : (a b : ℕ) → Here x y a b → Covers K' x y a b
  at_new a b e = new a b (in_corner a b e)

  -- the new rectangle's cells are its own
  new_owned : (a b : ℕ) → a < bw → b < bh → Covers K' x y a b → Owned K' a b
  new_owned a b i j v = record { ox = x; oy = y; covers = v; only = λ c d w. go c d (which a b c d i w) }
    where
      go : (c d : ℕ) → Here x y c d ⊎ Covers K c d a b → (c ≡ x) × (d ≡ y)
      go c d (inl e) = e
      go c d (inr w) = absurd (let z = free a b (new_in a b v) in let f = r.full a b c d i j w in omega arith)

  old_owned : (a b : ℕ) → a < bw → b < bh → (InRect x y (wide t) (high t) a b → ⊥) → 0 < K a b → Owned K' a b
  old_owned a b i j n f = record { ox = o.ox; oy = o.oy; covers = go (spot x y (wide t) (high t) o.ox o.oy); only = λ c d w. go' c d w (which a b c d i w) }
    where
      o : Owned K a b
      o = r.owned a b i j f

      v : Covers K o.ox o.oy a b
      v = o.covers

      corner_old : K o.ox o.oy ≡ 0 → ⊥
      corner_old e = let w = v.corner in omega arith

      go : Spot x y (wide t) (high t) o.ox o.oy → Covers K' o.ox o.oy a b
      go (corner e) = absurd (corner_old (free o.ox o.oy (in_corner o.ox o.oy e)))
      go (body m q) = absurd (corner_old (free o.ox o.oy q))
      go (beyond m) = keep a b o.ox o.oy (s.elsewhere o.ox o.oy (let w = v.from_x in omega arith) m) v

      go' : (c d : ℕ) → Covers K' c d a b → Here x y c d ⊎ Covers K c d a b → (c ≡ o.ox) × (d ≡ o.oy)
      go' c d w (inl e) = absurd (n (new_in a b (rw (e.0, e.1) at w)))
      go' c d w (inr w') = o.only c d w'

  more : Part bw bh K' M'
  more = record {
    fits = λ a b i j c. f a b i j c (spot x y (wide t) (high t) a b);
    bare = λ a b i j c. g a b i j c (spot x y (wide t) (high t) a b);
    full = λ a b c d i j v. u a b c d i j v (which a b c d i v) (spot x y (wide t) (high t) a b);
    owned = λ a b i j c. o a b i j c (spot x y (wide t) (high t) a b);
  }
    where
      f : (a b : ℕ) → a < bw → b < bh → 2 ≤ K' a b → Spot x y (wide t) (high t) a b → Fits bw bh a b (K' a b) (M' a b)
      f a b i j c (corner e) = rw (e.0, e.1, s.at_corner, s.hf_mul_corner) fit
      f a b i j c (body n q) = absurd (let z = s.in_body a b n q in omega arith)
      f a b i j c (beyond n) = let z = s.elsewhere a b i n in rw (z, s.hf_mul_other a b i (λ e. n (in_corner a b e))) (r.fits a b i j (omega arith))

      g : (a b : ℕ) → a < bw → b < bh → K' a b < 2 → Spot x y (wide t) (high t) a b → M' a b ≡ 0
      g a b i j c (corner e) = absurd (let w : K' a b ≡ K' x y = rw (e.0, e.1) in let z = s.at_corner in omega arith)
      g a b i j c (body n q) = s.hf_mul_other a b i n ∙ r.bare a b i j (let z = free a b q in omega arith)
      g a b i j c (beyond n) = s.hf_mul_other a b i (λ e. n (in_corner a b e)) ∙ r.bare a b i j (let z = s.elsewhere a b i n in omega arith)

      u : (a b c d : ℕ) → a < bw → b < bh → Covers K' c d a b → Here x y c d ⊎ Covers K c d a b → Spot x y (wide t) (high t) a b → 0 < K' a b
      u a b c d i j v w (corner e) = let q : K' a b ≡ K' x y = rw (e.0, e.1) in let z = s.at_corner in omega arith
      u a b c d i j v w (body n q) = let z = s.in_body a b n q in omega arith
      u a b c d i j v (inl e) (beyond n) = absurd (n (new_in a b (rw (e.0, e.1) at v)))
      u a b c d i j v (inr w) (beyond n) = let z = s.elsewhere a b i n in let l = r.full a b c d i j w in omega arith

      o : (a b : ℕ) → a < bw → b < bh → 0 < K' a b → Spot x y (wide t) (high t) a b → Owned K' a b
      o a b i j c (corner e) = new_owned a b i j (at_new a b e)
      o a b i j c (body n q) = new_owned a b i j (new a b q)
      o a b i j c (beyond n) = old_owned a b i j n (let z = s.elsewhere a b i n in omega arith)

  -- cells that were taken stay so
  taken : (a b : ℕ) → a < bw → b < bh → 0 < K a b → 0 < K' a b
  taken a b i j c = go (spot x y (wide t) (high t) a b)
    where
      go : Spot x y (wide t) (high t) a b → 0 < K' a b
      go (corner e) = let q : K' a b ≡ K' x y = rw (e.0, e.1) in let z = s.at_corner in omega arith
      go (body n q) = let z = s.in_body a b n q in omega arith
      go (beyond n) = let z = s.elsewhere a b i n in omega arith

module _ (J : Job) where
  pub passing : (x y : ℕ) (p : Placed) → 0 < block_at p.kinds J.bw x y → Sofar J x y p → Sofar J (x + 1) y p
  passing x y p h q = record { length_k = q.length_k; length_m = q.length_m; part = q.part; done = λ a b i j g. go a b i j (last a b x y g); behind = λ a b i j h. later a b x y (q.behind a b i j h) }
    where
      go : (a b : ℕ) → a < J.bw → b < J.bh → Here x y a b ⊎ Before a b x y → 0 < block_at p.kinds J.bw a b
      go a b i j (inl e) = rw (e.0, e.1) h
      go a b i j (inr g) = q.done a b i j g

  fitting : (x y t h : ℕ) (p p' : Placed) → Column J x y p p' t h → Fits J.bw J.bh x y (2 + t) h
  fitting x y t h p p' c =
      let same : 2 + t - 2 ≡ t = omega arith in
      let f = c.fits in
      let a = f.known in
      record { known = omega arith; in_x = rw same c.in_x; in_y = rw same c.in_y; square_x = rw same f.square_x; square_y = rw same f.square_y; positive = f.positive; signed = f.signed }

  -- a rectangle after a column was placed is the column's or an old one
  pub after : (x y t h : ℕ) (p p' : Placed) → Column J x y p p' t h → Sofar J x y p → (a b c d : ℕ) → a < J.bw → Covers (block_at p'.kinds J.bw) c d a b
      → (Here x y c d × InRect x y (wide t) (high t) a b) ⊎ Covers (block_at p.kinds J.bw) c d a b
  after x y t h p p' k q a b c d i v =
      go (which J.bw J.bh (block_at p.kinds J.bw) (block_at p.hf_mul J.bw) (block_at p'.kinds J.bw) (block_at p'.hf_mul J.bw) t h x y q.part (fitting x y t h p p' k) k.free k.puts a b c d i v)
    where
      go : Here x y c d ⊎ Covers (block_at p.kinds J.bw) c d a b → (Here x y c d × InRect x y (wide t) (high t) a b) ⊎ Covers (block_at p.kinds J.bw) c d a b
      go (inl e) = inl (e, new_in J.bw J.bh (block_at p.kinds J.bw) (block_at p.hf_mul J.bw) (block_at p'.kinds J.bw) (block_at p'.hf_mul J.bw) t h x y q.part (fitting x y t h p p' k) k.free k.puts a b (rw (e.0, e.1) at v))
      go (inr w) = inr w

  pub placing : (x y t h : ℕ) (p p' : Placed) → Column J x y p p' t h → Sofar J x y p → Sofar J (x + 1) y p'
  placing x y t h p p' c q = record {
    length_k = c.length_k;
    length_m = c.length_m;
    part = more J.bw J.bh K M K' M' t h x y q.part fit c.free c.puts;
    done = λ a b i j g. go a b i j (last a b x y g);
    behind = λ a b i j g. be a b i j g (spot x y (wide t) (high t) a b);
  }
    where
      K : Cells
      K = block_at p.kinds J.bw

      M : Cells
      M = block_at p.hf_mul J.bw

      K' : Cells
      K' = block_at p'.kinds J.bw

      M' : Cells
      M' = block_at p'.hf_mul J.bw

      fit : Fits J.bw J.bh x y (2 + t) h
      fit = fitting x y t h p p' c

      s : Puts J.bw K M K' M' t h x y
      s = c.puts

      be : (a b : ℕ) → a < J.bw → b < J.bh → 2 ≤ K' a b → Spot x y (wide t) (high t) a b → Before a b (x + 1) y
      be a b i j g (corner e) = inr (e.1, (let z = e.0 in omega arith))
      be a b i j g (body n m) = absurd (let z = s.in_body a b n m in omega arith)
      be a b i j g (beyond n) = later a b x y (q.behind a b i j (let z = s.elsewhere a b i n in omega arith))

      go : (a b : ℕ) → a < J.bw → b < J.bh → Here x y a b ⊎ Before a b x y → 0 < K' a b
      go a b i j (inl e) = let z = s.at_corner in let z' : K' a b ≡ K' x y = rw (e.0, e.1) in omega arith
      go a b i j (inr g) = taken J.bw J.bh K M K' M' t h x y q.part fit c.free s a b i j (q.done a b i j g)

  pub turned : (y : ℕ) (p : Placed) → y < J.bh → Sofar J J.bw y p → Sofar J 0 (y + 1) p
  turned y p h q = record { length_k = q.length_k; length_m = q.length_m; part = q.part; done = λ a b i j g. q.done a b i j (go a b i g (eq_or_ne b y)); behind = λ a b i j g. fwd a b (q.behind a b i j g) }
    where
      go : (a b : ℕ) → a < J.bw → Before a b 0 (y + 1) → (b ≡ y) ⊎ (b ≡ y → ⊥) → Before a b J.bw y
      go a b i (inr g) e = absurd (omega arith)
      go a b i (inl g) (inl e) = inr (e, i)
      go a b i (inl g) (inr e) = inl (omega arith)

      fwd : (a b : ℕ) → Before a b J.bw y → Before a b 0 (y + 1)
      fwd a b (inl g) = inl (omega arith)
      fwd a b (inr g) = inl (omega arith)

  pub blank : (a b : ℕ) → a < J.bw → b < J.bh → block_at (start J).kinds J.bw a b ≡ 0
  blank a b i j = get_or-replicate {A = ℕ} (J.bh * J.bw) (b * J.bw + a) 0 0 (place_lt J.bw J.bh a b i j)

  pub begun : (Sofar J) 0 0 (start J)
  begun = record {
    length_k = length-replicate {A = ℕ} (J.bh * J.bw) 0;
    length_m = length-replicate {A = ℕ} (J.bh * J.bw) 0;
    part = record {
      fits = λ a b i j c. absurd (let z = blank a b i j in omega arith);
      bare = λ a b i j c. blank a b i j;
      full = λ a b c d i j v. absurd (let z = blank c d (let w = v.from_x in omega arith) (let w = v.from_y in omega arith) in let w = v.corner in omega arith);
      owned = λ a b i j c. absurd (let z = blank a b i j in omega arith);
    };
    done = λ a b i j g. go a b g;
    behind = λ a b i j h. absurd (let z = blank a b i j in omega arith);
  }
    where
      go : (a b : ℕ) → Before a b 0 0 → 0 < block_at (start J).kinds J.bw a b
      go a b (inl g) = absurd (omega arith)
      go a b (inr g) = absurd (omega arith)

  -- what holds before anything is placed, and is kept by each column placed, holds of what was read, and of what was placed before a stop
  module _ (Q : Placed → Type 0) (begin : Q (start J))
      (keep : (x y : ℕ) (p p' : Placed) → x < J.bw → y < J.bh → p.used < length J.types → Sofar J x y p
      → Column J x y p p' (next_type J p) (next_hf_mul J p) → Q p → Q p') where
    -- stopped at a free block, with what was placed before
    pub record StoppedWith (n : ℕ) (r : Said) : Type 0 where
      pub before : Placed
      pub sofar : Sofar J r.x r.y before
      pub holds : Q before
      pub in_x : r.x < J.bw
      pub in_y : r.y < J.bh
      pub free : block_at before.kinds J.bw r.x r.y ≡ 0
      pub stops : column J r.x r.y before ≡ Stopped n r

    Along : ℕ → ℕ → Placing → Type 0
    Along x y (Going p) = Sofar J x y p × Q p
    Along x y (Stopped n r) = StoppedWith n r

    one : (x y : ℕ) (s : Placing) → x < J.bw → y < J.bh → Along x y s → Along (x + 1) y (visit J x y s)
    unfolding Along Well
    one x y (Stopped n r) hx hy q = q
    one x y (Going p) hx hy q = go (eqb (block_at p.kinds J.bw x y) 0) refl
      where
        col : block_at p.kinds J.bw x y ≡ 0 → (s : Placing) → column J x y p ≡ s → Along (x + 1) y s
        col f (Stopped n r) e =
            let w : Well J x y p (Stopped n r) = rw e at (column_well J x y p) in
            let u = w.2 in
            let v = w.3 in
            record { before = p; sofar = rw (u, v) at q.0; holds = q.1; in_x = omega arith; in_y = omega arith; free = rw (u, v) at f; stops = rw (u, v) at e }
        col f (Going p') e =
            let c = column_put J x y p p' q.0.length_k q.0.length_m hx hy e in
            (placing x y _ _ p p' c.0 q.0, keep x y p p' hx hy c.1 q.0 c.0 q.1)

        go : (b : Bool) → eqb (block_at p.kinds J.bw x y) 0 ≡ b → Along (x + 1) y (cond b (column J x y p) (Going p))
        go true e = col (eqb-true (block_at p.kinds J.bw x y) 0 e) (column J x y p) refl
        go false e = (passing x y p (let n = eqb-false (block_at p.kinds J.bw x y) 0 e in omega arith) q.0, q.1)

    row : (y : ℕ) (s : Placing) → y < J.bh → Along J.bw y s → Along 0 (y + 1) s
    unfolding Along
    row y (Stopped n r) h q = q
    row y (Going p) h q = (turned y p h q.0, q.1)

    pub along : (p : Placed) → reading J ≡ Going p → Sofar J 0 J.bh p × Q p
    unfolding reading Along
    along p e = rw e at (forward (visit J) J.bw J.bh Along one row (Going (start J)) (begun, begin))

    pub stopped_with : (n : ℕ) (r : Said) → reading J ≡ Stopped n r → StoppedWith n r
    unfolding reading Along
    stopped_with n r e = rw e at (forward (visit J) J.bw J.bh Along one row (Going (start J)) (begun, begin))

  -- a reading that was not stopped
  pub read_layout : (p : Placed) → reading J ≡ Going p → Layout J.bw J.bh p.kinds p.hf_mul
  read_layout p e =
      let q : (Sofar J) 0 J.bh p = (along (λ (r : Placed). Unit) tt (λ x y r r' hx hy u s c k. tt) p e).0 in
      record {
        kinds_length = q.length_k;
        hf_mul_length = q.length_m;
        valid = record {
          fits = q.part.fits;
          plain = λ a b i j c. (let z = q.done a b i j (inl j) in omega arith, q.part.bare a b i j c);
          owned = λ a b i j. q.part.owned a b i j (q.done a b i j (inl j));
        };
      }
