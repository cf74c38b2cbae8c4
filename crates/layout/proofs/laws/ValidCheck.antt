-- A valid layout passes the check: at (x, y) the columns are covered as the corners before it do.
use Rattle.std.specs.Prelude.{◌≡◌, true, ◌⊎◌, List, ℕ, ◌+◌, ◌≤◌, ◌<◌, length, replicate}
use Rattle.std.proofs.Math.Path.{refl}
use Rattle.std.proofs.Math.Logic.{inl}
use Rattle.std.proofs.Common.{inr, arith}
use Rattle.std.proofs.Math.ListN.{get_or, length-replicate, get_or-replicate}
use Rattle.layout.specs.Kinds.{wide_of, high_of}
use Rattle.layout.specs.RowByRow.{row_by_row, Before}
use Rattle.layout.proofs.laws.RowByRow.{forward}
use Rattle.laws.specs.laws.Cases.{eq_or_ne, le_or_lt}
use Rattle.layout.specs.laws.Stretch.{Place, left, inside, right}
use Rattle.layout.proofs.laws.Stretch.{place}
use Rattle.laws.specs.Lists.{fill_from}
use Rattle.layout.proofs.laws.Grid.{length_fill, fill_left, fill_in, fill_right}
use Rattle.layout.specs.Valid.{Cells, Covers, Fits, Owned, Valid}
use Rattle.layout.specs.laws.Order.{Here}
use Rattle.layout.proofs.laws.Order.{never, later, last, self}
use Rattle.layout.specs.Check.{Covering, Fault, Until, passes, visit, visit_cell}
use Rattle.layout.specs.laws.CheckLaws.{check_in}
use Rattle.layout.proofs.laws.CheckLaws.{visit_covered, visit_opened}

record Knows (bw bh : ℕ) (K : Cells) (u : List ℕ) (x y : ℕ) : Type 0 where
  size : bw ≤ length u
  back : (a b c d : ℕ) → a < bw → b < bh → Covers K c d a b → b < get_or u a 0 → Before c d x y
  forth : (a b c d : ℕ) → a < bw → b < bh → Covers K c d a b → Before c d x y → b < get_or u a 0

module _ (bw bh : ℕ) (K M : Cells) (ok : Valid bw bh K M) where
  same : (a b c d e f : ℕ) → a < bw → b < bh → Covers K c d a b → Covers K e f a b → (c ≡ e) × (d ≡ f)
  same a b c d e f h l v w =
      let o = ok.owned a b h l in
      let p = o.only c d v in
      let q = o.only e f w in
      (omega arith, omega arith)

  module _ (u : List ℕ) (x y : ℕ) (h : x < bw) (l : y < bh) (kn : Knows bw bh K u x y) where
    plain_step : K x y < 2 → (y < get_or u x 0) × Knows bw bh K u (x + 1) y
    plain_step k = (
      kn.forth x y o.ox o.oy h l o.covers (go (le_or_lt y o.oy)),
      record {
        size = kn.size;
        back = λ a b c d p q v m. later c d x y (kn.back a b c d p q v m);
        forth = λ a b c d p q v g. to a b c d p q v (last c d x y g);
      },
    )
      where
        o : Owned K x y
        o = ok.owned x y h l

        not_corner : (a b c d : ℕ) → Covers K c d a b → Here x y c d → ⊥
        not_corner a b c d v e = let z : K c d ≡ K x y = rw (e.0, e.1) in let w = v.corner in omega arith

        go : (y ≤ o.oy) ⊎ (o.oy < y) → Before o.ox o.oy x y
        go (inr m) = inl m
        go (inl m) = go' (eq_or_ne o.ox x)
          where
            go' : (o.ox ≡ x) ⊎ (o.ox ≡ x → ⊥) → Before o.ox o.oy x y
            go' (inl e) = absurd (not_corner x y o.ox o.oy o.covers (e, (let w = o.covers.from_y in omega arith)))
            go' (inr e) = inr ((let w = o.covers.from_y in omega arith), (let w = o.covers.from_x in omega arith))

        to : (a b c d : ℕ) → a < bw → b < bh → Covers K c d a b → Here x y c d ⊎ Before c d x y → b < get_or u a 0
        to a b c d p q v (inl e) = absurd (not_corner a b c d v e)
        to a b c d p q v (inr g) = kn.forth a b c d p q v g

    corner_clear : (k : 2 ≤ K x y) (i : ℕ) → x ≤ i → i < x + wide_of (K x y) → get_or u i 0 ≤ y
    corner_clear k i m n = go (le_or_lt (get_or u i 0) y)
      where
        t : Fits bw bh x y (K x y) (M x y)
        t = ok.fits x y h l k

        v : Covers K x y i y
        v = let s = self K x y k t.known in record { corner = k; from_x = m; to_x = n; from_y = s.from_y; to_y = s.to_y }

        go : (get_or u i 0 ≤ y) ⊎ (y < get_or u i 0) → get_or u i 0 ≤ y
        go (inl e) = e
        go (inr e) = absurd (never x y (kn.back i y x y (let w = t.in_x in omega arith) l v e))

    corner_step : (k : 2 ≤ K x y) → Knows bw bh K (fill_from u x (wide_of (K x y)) (y + high_of (K x y))) (x + 1) y
    corner_step k = record {
      size = let z = length_fill u x W (y + H) in let q = kn.size in omega arith;
      back = λ a b c d p q v m. to a b c d p q v m (place x W a) (le_or_lt y b);
      forth = λ a b c d p q v g. fro a b c d p q v (last c d x y g) (place x W a);
    }
      where
        W : ℕ
        W = wide_of (K x y)

        H : ℕ
        H = high_of (K x y)

        u' : List ℕ
        u' = fill_from u x W (y + H)

        to : (a b c d : ℕ) → a < bw → b < bh → Covers K c d a b → b < get_or u' a 0 → Place x W a → (y ≤ b) ⊎ (b < y) → Before c d (x + 1) y
        to a b c d p q v m (left i) j = later c d x y (kn.back a b c d p q v (let z : get_or u' a 0 ≡ get_or u a 0 = fill_left u x W (y + H) a i in omega arith))
        to a b c d p q v m (right i) j = later c d x y (kn.back a b c d p q v (let z : get_or u' a 0 ≡ get_or u a 0 = fill_right u x W (y + H) a i in omega arith))
        to a b c d p q v m (inside i j) (inr n) = inl (let w = v.from_y in omega arith)
        to a b c d p q v m (inside i j) (inl n) =
            let s = kn.size in
            let z : get_or u' a 0 ≡ y + H = fill_in u x W (y + H) a i j (omega arith) in
            let w : Covers K x y a b = record { corner = k; from_x = i; to_x = j; from_y = n; to_y = omega arith } in
            let e = same a b c d x y p q v w in
            inr (e.1, omega arith)

        fro : (a b c d : ℕ) → a < bw → b < bh → Covers K c d a b → Here x y c d ⊎ Before c d x y → Place x W a → b < get_or u' a 0
        fro a b c d p q v (inr g) (left i) = let z : get_or u' a 0 ≡ get_or u a 0 = fill_left u x W (y + H) a i in let w = kn.forth a b c d p q v g in omega arith
        fro a b c d p q v (inr g) (right i) = let z : get_or u' a 0 ≡ get_or u a 0 = fill_right u x W (y + H) a i in let w = kn.forth a b c d p q v g in omega arith
        fro a b c d p q v (inr g) (inside i j) =
            let s = kn.size in
            let z : get_or u' a 0 ≡ y + H = fill_in u x W (y + H) a i j (omega arith) in
            let w = kn.forth a b c d p q v g in
            let o = corner_clear k a i j in
            omega arith
        fro a b c d p q v (inl e) (inside i j) =
            let s = kn.size in
            let z : get_or u' a 0 ≡ y + H = fill_in u x W (y + H) a i j (omega arith) in
            let f : high_of (K c d) ≡ high_of (K x y) = rw (e.0, e.1) in
            let w = v.to_y in
            omega arith
        fro a b c d p q v (inl e) (left i) = absurd (let w = v.from_x in omega arith)
        fro a b c d p q v (inl e) (right i) = absurd (let w = v.to_x in let f : wide_of (K c d) ≡ wide_of (K x y) = rw (e.0, e.1) in omega arith)

  Upto : ℕ → ℕ → Covering → Type 0
  Upto x y Fault = ⊥
  Upto x y (Until u) = Knows bw bh K u x y

  step : (x y : ℕ) (s : Covering) → x < bw → y < bh → Upto x y s → Upto (x + 1) y (visit bw bh K M x y s)
  unfolding Upto
  step x y Fault h l p = p
  step x y (Until u) h l p = go (le_or_lt 2 (K x y))
    where
      go : (2 ≤ K x y) ⊎ (K x y < 2) → Upto (x + 1) y (visit_cell bw bh (K x y) (M x y) x y u)
      go (inl k) =
          rw (visit_opened bw bh (K x y) (M x y) x y u (corner_clear u x y h l p k x (omega arith) (self K x y k (ok.fits x y h l k).known).to_x) k (ok.fits x y h l k) (corner_clear u x y h l p k))
          (corner_step u x y h l p k)
      go (inr k) =
          let q = plain_step u x y h l p k in
          let r = ok.plain x y h l k in
          rw (visit_covered bw bh (K x y) (M x y) x y u q.0 r.0 r.1) q.1

  turn : (y : ℕ) (s : Covering) → y < bh → Upto bw y s → Upto 0 (y + 1) s
  unfolding Upto
  turn y Fault h p = p
  turn y (Until u) h p = record {
    size = p.size;
    back = λ a b c d i j v m. fwd c d (p.back a b c d i j v m);
    forth = λ a b c d i j v g. p.forth a b c d i j v (bwd c d (let w = v.from_x in omega arith) g);
  }
    where
      fwd : (c d : ℕ) → Before c d bw y → Before c d 0 (y + 1)
      fwd c d (inl g) = inl (omega arith)
      fwd c d (inr g) = inl (omega arith)

      bwd : (c d : ℕ) → c < bw → Before c d 0 (y + 1) → Before c d bw y
      bwd c d i (inr g) = absurd (omega arith)
      bwd c d i (inl g) = go (eq_or_ne d y)
        where
          go : (d ≡ y) ⊎ (d ≡ y → ⊥) → Before c d bw y
          go (inl e) = inr (e, i)
          go (inr n) = inl (omega arith)

  good : (s : Covering) → Upto 0 bh s → passes s ≡ true
  unfolding Upto
  good Fault p = absurd p
  good (Until u) p = refl

  pub valid_check : (room : ℕ) → bw ≤ room → passes (check_in room bw bh K M) ≡ true
  unfolding Upto
  valid_check room wide =
      good (row_by_row (visit bw bh K M) bw bh (Until (replicate room 0)))
      (forward (visit bw bh K M) bw bh Upto step turn (Until (replicate room 0)) (record { size = let z = length-replicate {A = ℕ} room 0 in omega arith; back = from_zero; forth = at_zero }))
    where
      from_zero : (a b c d : ℕ) → a < bw → b < bh → Covers K c d a b → b < get_or (replicate room 0) a 0 → Before c d 0 0
      from_zero a b c d i j v m = absurd (let z : get_or {A = ℕ} (replicate room 0) a 0 ≡ 0 = get_or-replicate {A = ℕ} room a 0 0 (omega arith) in omega arith)

      at_zero : (a b c d : ℕ) → a < bw → b < bh → Covers K c d a b → Before c d 0 0 → b < get_or (replicate room 0) a 0
      at_zero a b c d i j v (inl g) = absurd (omega arith)
      at_zero a b c d i j v (inr g) = absurd (omega arith)
