-- A layout that the check passes is valid: what is left of the blocks, from the end back.
use Rattle.std.proofs.Math.Path.{◌≡◌}
use Rattle.std.specs.Prelude.{refl, true, ◌⊎◌, ℕ, ◌+◌, ◌≤◌, ◌<◌, replicate}
use Rattle.std.proofs.Common.{ap, inl, inr, arith}
use mathlib.Core.List.{List}
use Rattle.std.proofs.Math.ListN.{length, get_or, length-replicate, get_or-replicate}
use Rattle.layout.specs.Kinds.{wide_of, high_of}
use Rattle.layout.specs.RowByRow.{row_by_row}
use Rattle.layout.proofs.laws.RowByRow.{backward}
use Rattle.layout.specs.laws.Stretch.{Place, left, inside, right}
use Rattle.layout.proofs.laws.Stretch.{place}
use Rattle.laws.specs.Lists.{fill_from}
use Rattle.layout.proofs.laws.Grid.{length_fill, fill_left, fill_in, fill_right}
use Rattle.layout.specs.Valid.{Cells, Covers, Fits, Valid}
use Rattle.layout.specs.laws.Order.{From, Here}
use Rattle.layout.proofs.laws.Order.{split, weaken, here, from_row, new_row, old_row, from_start, from_end, not_back, self}
use Rattle.layout.specs.Check.{Covering, Fault, Until, passes, visit}
use Rattle.layout.specs.laws.CheckLaws.{check_in, Passed, covered, opened}
use Rattle.layout.proofs.laws.CheckLaws.{visit_cases}

-- just one corner from (x, y) on has the cell (a, b)
record OwnedFrom (K : Cells) (x y a b : ℕ) : Type 0 where
  ox : ℕ
  oy : ℕ
  later : From x y ox oy
  covers : Covers K ox oy a b
  only : (c d : ℕ) → From x y c d → Covers K c d a b → (c ≡ ox) × (d ≡ oy)

-- the cells from (x, y) on are right where u says what earlier corners cover
record Rest (bw bh : ℕ) (K M : Cells) (u : List ℕ) (x y : ℕ) : Type 0 where
  fits : (a b : ℕ) → From x y a b → a < bw → b < bh → 2 ≤ K a b → Fits bw bh a b (K a b) (M a b)
  plain : (a b : ℕ) → From x y a b → a < bw → b < bh → K a b < 2 → (K a b ≡ 1) × (M a b ≡ 0)
  none : (a b : ℕ) → From x y a b → a < bw → b < bh → b < get_or u a 0 → (c d : ℕ) → From x y c d → Covers K c d a b → ⊥
  one : (a b : ℕ) → From x y a b → a < bw → b < bh → get_or u a 0 ≤ b → OwnedFrom K x y a b

module _ (K : Cells) (x y a b : ℕ) where
  -- one more corner in front that does not have the cell
  widen : ((c d : ℕ) → Here x y c d → Covers K c d a b → ⊥) → OwnedFrom K (x + 1) y a b → OwnedFrom K x y a b
  widen n o = record {
    ox = o.ox;
    oy = o.oy;
    later = weaken x y o.ox o.oy o.later;
    covers = o.covers;
    only = λ c d g v. go c d v (split x y c d g);
  }
    where
      go : (c d : ℕ) → Covers K c d a b → Here x y c d ⊎ From (x + 1) y c d → (c ≡ o.ox) × (d ≡ o.oy)
      go c d v (inl e) = absurd (n c d e v)
      go c d v (inr g) = o.only c d g v

  -- the corner in front has the cell and no later one does
  front : Covers K x y a b → ((c d : ℕ) → From (x + 1) y c d → Covers K c d a b → ⊥) → OwnedFrom K x y a b
  front v n = record { ox = x; oy = y; later = here x y x y (refl, refl); covers = v; only = λ c d g w. go c d w (split x y c d g) }
    where
      go : (c d : ℕ) → Covers K c d a b → Here x y c d ⊎ From (x + 1) y c d → (c ≡ x) × (d ≡ y)
      go c d w (inl e) = e
      go c d w (inr g) = absurd (n c d g w)

module _ (bw bh : ℕ) (K M : Cells) (u : List ℕ) (x y : ℕ) where
  covered_step : y < get_or u x 0 → K x y ≡ 1 → M x y ≡ 0 → Rest bw bh K M u (x + 1) y → Rest bw bh K M u x y
  covered_step h k m r = record {
    fits = λ a b g p q c. f a b p q c (split x y a b g);
    plain = λ a b g p q c. g' a b p q c (split x y a b g);
    none = λ a b g p q l c d i v. n a b p q l c d v (split x y a b g) (split x y c d i);
    one = λ a b g p q l. o a b p q l (split x y a b g);
  }
    where
      at_here : (a b : ℕ) → Here x y a b → K a b ≡ 1
      at_here a b e = rw (e.0, e.1) k

      no_corner : (a b c d : ℕ) → Here x y c d → Covers K c d a b → ⊥
      no_corner a b c d e v = let p = v.corner in let q = at_here c d e in omega arith

      f : (a b : ℕ) → a < bw → b < bh → 2 ≤ K a b → Here x y a b ⊎ From (x + 1) y a b → Fits bw bh a b (K a b) (M a b)
      f a b p q c (inl e) = let z = at_here a b e in absurd (omega arith)
      f a b p q c (inr g) = r.fits a b g p q c

      g' : (a b : ℕ) → a < bw → b < bh → K a b < 2 → Here x y a b ⊎ From (x + 1) y a b → (K a b ≡ 1) × (M a b ≡ 0)
      g' a b p q c (inl e) = rw (e.0, e.1) (k, m)
      g' a b p q c (inr g) = r.plain a b g p q c

      n : (a b : ℕ) → a < bw → b < bh → b < get_or u a 0 → (c d : ℕ) → Covers K c d a b → Here x y a b ⊎ From (x + 1) y a b → Here x y c d ⊎ From (x + 1) y c d → ⊥
      n a b p q l c d v g (inl e) = no_corner a b c d e v
      n a b p q l c d v (inl e) (inr i) = not_back K x y a b c d e i v
      n a b p q l c d v (inr g) (inr i) = r.none a b g p q l c d i v

      o : (a b : ℕ) → a < bw → b < bh → get_or u a 0 ≤ b → Here x y a b ⊎ From (x + 1) y a b → OwnedFrom K x y a b
      o a b p q l (inl e) = let z : get_or u a 0 ≡ get_or u x 0 = ap (λ (i : ℕ). get_or u i 0) e.0 in let w = e.1 in absurd (omega arith)
      o a b p q l (inr g) = widen K x y a b (no_corner a b) (r.one a b g p q l)

  opened_step : bw ≤ length u → get_or u x 0 ≤ y → 2 ≤ K x y → Fits bw bh x y (K x y) (M x y) → ((i : ℕ) → x ≤ i → i < x + wide_of (K x y) → get_or u i 0 ≤ y)
      → Rest bw bh K M (fill_from u x (wide_of (K x y)) (y + high_of (K x y))) (x + 1) y → Rest bw bh K M u x y
  opened_step lu h k t cl r = record {
    fits = λ a b g p q c. f a b p q c (split x y a b g);
    plain = λ a b g p q c. g' a b p q c (split x y a b g);
    none = λ a b g p q l c d i v. n a b p q l c d v (split x y a b g) (split x y c d i) (place x W a);
    one = λ a b g p q l. o a b p q l (split x y a b g) (place x W a) (place y H b);
  }
    where
      W : ℕ
      W = wide_of (K x y)

      H : ℕ
      H = high_of (K x y)

      u' : List ℕ
      u' = fill_from u x W (y + H)

      f : (a b : ℕ) → a < bw → b < bh → 2 ≤ K a b → Here x y a b ⊎ From (x + 1) y a b → Fits bw bh a b (K a b) (M a b)
      f a b p q c (inl e) = rw (e.0, e.1) t
      f a b p q c (inr g) = r.fits a b g p q c

      g' : (a b : ℕ) → a < bw → b < bh → K a b < 2 → Here x y a b ⊎ From (x + 1) y a b → (K a b ≡ 1) × (M a b ≡ 0)
      g' a b p q c (inl e) = let z : K a b ≡ K x y = rw (e.0, e.1) in absurd (omega arith)
      g' a b p q c (inr g) = r.plain a b g p q c

      same_left : (a : ℕ) → a < x → get_or u' a 0 ≡ get_or u a 0
      same_left a l = fill_left u x W (y + H) a l

      same_right : (a : ℕ) → x + W ≤ a → get_or u' a 0 ≡ get_or u a 0
      same_right a l = fill_right u x W (y + H) a l

      new_in : (a : ℕ) → a < bw → x ≤ a → a < x + W → get_or u' a 0 ≡ y + H
      new_in a p l m = fill_in u x W (y + H) a l m (omega arith)

      out_x : (a b c d : ℕ) → (x ≤ a → a < x + W → ⊥) → Here x y c d → Covers K c d a b → ⊥
      out_x a b c d away e v =
          let z : wide_of (K c d) ≡ wide_of (K x y) = rw (e.0, e.1) in
          let i = v.from_x in let j = v.to_x in
          away (omega arith) (omega arith)

      out_y : (a b c d : ℕ) → y + H ≤ b → Here x y c d → Covers K c d a b → ⊥
      out_y a b c d away e v =
          let z : high_of (K c d) ≡ high_of (K x y) = rw (e.0, e.1) in
          let i = v.to_y in
          omega arith

      n : (a b : ℕ) → a < bw → b < bh → b < get_or u a 0 → (c d : ℕ) → Covers K c d a b → Here x y a b ⊎ From (x + 1) y a b → Here x y c d ⊎ From (x + 1) y c d → Place x W a → ⊥
      n a b p q l c d v (inl e) i s = let z : get_or u a 0 ≡ get_or u x 0 = ap (λ (j : ℕ). get_or u j 0) e.0 in let w = e.1 in omega arith
      n a b p q l c d v (inr g) i (inside s s') = let z = cl a s s' in let w = from_row (x + 1) y a b g in omega arith
      n a b p q l c d v (inr g) (inl e) (left s) = out_x a b c d (λ i j. omega arith) e v
      n a b p q l c d v (inr g) (inl e) (right s) = out_x a b c d (λ i j. omega arith) e v
      n a b p q l c d v (inr g) (inr i) (left s) = r.none a b g p q (let z = same_left a s in omega arith) c d i v
      n a b p q l c d v (inr g) (inr i) (right s) = r.none a b g p q (let z = same_right a s in omega arith) c d i v

      o : (a b : ℕ) → a < bw → b < bh → get_or u a 0 ≤ b → Here x y a b ⊎ From (x + 1) y a b → Place x W a → Place y H b → OwnedFrom K x y a b
      o a b p q l (inl e) s s' = front K x y a b (rw (e.0, e.1) (self K x y k t.known)) (λ c d g v. not_back K x y a b c d e g v)
      o a b p q l (inr g) (inside s t') (inside j j') = front K x y a b (record { corner = k; from_x = s; to_x = t'; from_y = j; to_y = j' })
          (λ c d i v. r.none a b g p q (let z = new_in a p s t' in omega arith) c d i v)
      o a b p q l (inr g) (inside s t') (left j) = absurd (let w = from_row (x + 1) y a b g in omega arith)
      o a b p q l (inr g) (inside s t') (right j) = widen K x y a b (λ c d e v. out_y a b c d j e v) (r.one a b g p q (let z = new_in a p s t' in omega arith))
      o a b p q l (inr g) (left s) s' = widen K x y a b (λ c d e v. out_x a b c d (λ i j. omega arith) e v) (r.one a b g p q (let z = same_left a s in omega arith))
      o a b p q l (inr g) (right s) s' = widen K x y a b (λ c d e v. out_x a b c d (λ i j. omega arith) e v) (r.one a b g p q (let z = same_right a s in omega arith))

module _ (bw bh : ℕ) (K M : Cells) where
  -- what the state promises of the cells from (x, y) on
  Promise : ℕ → ℕ → Covering → Type 0
  Promise x y Fault = ⊥
  Promise x y (Until u) = bw ≤ length u → Rest bw bh K M u x y

  step : (x y : ℕ) (s : Covering) → x < bw → y < bh → Promise (x + 1) y (visit bw bh K M x y s) → Promise x y s
  unfolding Promise
  step x y Fault h l p = p
  step x y (Until u) h l p = λ e. visit_cases bw bh (K x y) (M x y) x y u (Promise (x + 1) y) (Rest bw bh K M u x y) absurd (good e) p
    where
      good : bw ≤ length u → (u' : List ℕ) → Passed bw bh (K x y) (M x y) x y u u' → Promise (x + 1) y (Until u') → Rest bw bh K M u x y
      good e u' (covered a b c) q = covered_step bw bh K M u x y a b c (q e)
      good e u' (opened a b c d) q = opened_step bw bh K M u x y e a b c d (q (let z = length_fill u x (wide_of (K x y)) (y + high_of (K x y)) in omega arith))

  turn : (y : ℕ) (s : Covering) → y < bh → Promise 0 (y + 1) s → Promise bw y s
  unfolding Promise
  turn y Fault h p = p
  turn y (Until u) h p = λ e. let r = p e in record {
    fits = λ a b g i. r.fits a b (new_row bw y a b i g) i;
    plain = λ a b g i. r.plain a b (new_row bw y a b i g) i;
    none = λ a b g i j l c d k v. r.none a b (new_row bw y a b i g) i j l c d (new_row bw y c d (let z = v.from_x in omega arith) k) v;
    one = λ a b g i j l. let o = r.one a b (new_row bw y a b i g) i j l in
        record {
          ox = o.ox;
          oy = o.oy;
          later = old_row bw y o.ox o.oy o.later;
          covers = o.covers;
          only = λ c d k v. o.only c d (new_row bw y c d (let z = v.from_x in omega arith) k) v;
        };
  }

  end : (s : Covering) → passes s ≡ true → Promise 0 bh s
  unfolding Promise
  end Fault e = absurd (let z : ◌≡◌ {A = ℕ} 0 1 = cc in omega arith)
  end (Until u) e = λ f. record {
    fits = λ a b g i j. absurd (from_end bh a b j g);
    plain = λ a b g i j. absurd (from_end bh a b j g);
    none = λ a b g i j. absurd (from_end bh a b j g);
    one = λ a b g i j. absurd (from_end bh a b j g);
  }

  pub check_valid : (room : ℕ) → bw ≤ room → passes (check_in room bw bh K M) ≡ true → Valid bw bh K M
  unfolding Promise
  check_valid room wide e =
      let r : Rest bw bh K M (replicate room 0) 0 0 =
      backward (visit bw bh K M) bw bh Promise step turn (Until (replicate room 0)) (end (row_by_row (visit bw bh K M) bw bh (Until (replicate room 0))) e)
      (let z = length-replicate {A = ℕ} room 0 in omega arith) in
      record {
        fits = λ x y h l. r.fits x y (from_start x y) h l;
        plain = λ x y h l. r.plain x y (from_start x y) h l;
        owned = λ x y h l. let z : get_or {A = ℕ} (replicate room 0) x 0 ≡ 0 = get_or-replicate {A = ℕ} room x 0 0 (omega arith) in let o = r.one x y (from_start x y) h l (omega arith) in
            record { ox = o.ox; oy = o.oy; covers = o.covers; only = λ a b v. o.only a b (from_start a b) v };
      }
