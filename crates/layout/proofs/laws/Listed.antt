-- The list of a layout's varblocks has all of them and no others.
use Rattle.std.specs.Prelude.{◌≡◌, Bool, true, false, ◌⊎◌, ◌↔◌, List, leb}
use Rattle.std.proofs.Math.Path.{refl}
use Rattle.std.proofs.Common.{ap, sym, leb-true, le-leb}
use Rattle.std.proofs.Math.Logic.{inl, inr}
use Prim.Native.Nat.{ℕ, zero, suc, ◌+◌, ◌-◌, ◌≤◌, ◌<◌}
use native.Mathlib.Omega.{arith}
use Rattle.laws.specs.laws.Cases.{eq_or_ne}
use Rattle.layout.specs.Valid.{Cells}
use Rattle.layout.specs.Varblocks.{Varblock, add_varblock, corners_row, corners_from, varblocks_of}
use Rattle.layout.specs.Lent.{LentLayout, kind_at, hf_mul_at, HasVarblock}
use Rattle.layout.specs.Listed.{Among, first, later}

module _ (K M : Cells) (v : Varblock) where
  -- v has its corner among n cells of the row y from x on
  record InRow (n x y : ℕ) : Type 0 where
    row : v.y ≡ y
    from : x ≤ v.x
    to : v.x < x + n
    is_type : K v.x v.y ≡ 2 + v.type
    is_hf_mul : M v.x v.y ≡ v.hf_mul

  -- v has its corner among n rows of bw cells from y on
  record InRows (bw n y : ℕ) : Type 0 where
    in_x : v.x < bw
    from : y ≤ v.y
    to : v.y < y + n
    is_type : K v.x v.y ≡ 2 + v.type
    is_hf_mul : M v.x v.y ≡ v.hf_mul

  row_has : (n x y : ℕ) (l : List Varblock) → Among v (corners_row K M n x y l) → InRow n x y ⊎ Among v l
  unfolding corners_row
  row_has zero x y l a = inr a
  row_has (suc n) x y l a = go (leb 2 (K x y)) refl (λ b. row_has n (x + 1) y l b) a
    where
      wider : InRow n (x + 1) y ⊎ Among v l → InRow (suc n) x y ⊎ Among v l
      wider (inl r) = let f = r.from in let t = r.to in inl (record { row = r.row; from = omega arith; to = omega arith; is_type = r.is_type; is_hf_mul = r.is_hf_mul })
      wider (inr b) = inr b

      go : (b : Bool) → leb 2 (K x y) ≡ b → (Among v (corners_row K M n (x + 1) y l) → InRow n (x + 1) y ⊎ Among v l) → Among v (add_varblock b (record { x = x; y = y; type = K x y - 2; hf_mul = M x y }) (corners_row K M n (x + 1) y l)) → InRow (suc n) x y ⊎ Among v l
      go true e ih (first q) =
          let k = leb-true 2 (K x y) e in
          let ex : x ≡ v.x = ap (λ (w : Varblock). w.x) q in
          let ey : y ≡ v.y = ap (λ (w : Varblock). w.y) q in
          let t : K x y - 2 ≡ v.type = ap (λ (w : Varblock). w.type) q in
          let m : M x y ≡ v.hf_mul = ap (λ (w : Varblock). w.hf_mul) q in
          let s : K x y ≡ 2 + v.type = omega arith in
          inl (record { row = sym ey; from = omega arith; to = omega arith; is_type = rw (← ex, ← ey) s; is_hf_mul = rw (← ex, ← ey) m })
      go true e ih (later b) = wider (ih b)
      go false e ih b = wider (ih b)

  skip : (b : Bool) (w : Varblock) (l : List Varblock) → Among v l → Among v (add_varblock b w l)
  skip true w l a = later a
  skip false w l a = a

  row_rest : (n x y : ℕ) (l : List Varblock) → Among v l → Among v (corners_row K M n x y l)
  unfolding corners_row
  row_rest zero x y l a = a
  row_rest (suc n) x y l a = skip (leb 2 (K x y)) (record { x = x; y = y; type = K x y - 2; hf_mul = M x y }) (corners_row K M n (x + 1) y l) (row_rest n (x + 1) y l a)

  row_lists : (n x y : ℕ) (l : List Varblock) → InRow n x y → Among v (corners_row K M n x y l)
  unfolding corners_row
  row_lists zero x y l r = absurd (let f = r.from in let t = r.to in omega arith)
  row_lists (suc n) x y l r = go (λ q. row_lists n (x + 1) y l q) (eq_or_ne v.x x)
    where
      go : (InRow n (x + 1) y → Among v (corners_row K M n (x + 1) y l)) → (v.x ≡ x) ⊎ (v.x ≡ x → ⊥) → Among v (add_varblock (leb 2 (K x y)) (record { x = x; y = y; type = K x y - 2; hf_mul = M x y }) (corners_row K M n (x + 1) y l))
      go ih (inl e) =
          let k : K x y ≡ 2 + v.type = rw (← e, ← r.row) r.is_type in
          let m : M x y ≡ v.hf_mul = rw (← e, ← r.row) r.is_hf_mul in
          let t : K x y - 2 ≡ v.type = omega arith in
          let same : record { x = x; y = y; type = K x y - 2; hf_mul = M x y } ≡ v = rw (t, m, ← e, ← r.row) in
          rw (le-leb 2 (K x y) (omega arith)) (first same)
      go ih (inr n') = skip (leb 2 (K x y)) (record { x = x; y = y; type = K x y - 2; hf_mul = M x y }) (corners_row K M n (x + 1) y l)
          (ih (let f = r.from in let t = r.to in record { row = r.row; from = omega arith; to = omega arith; is_type = r.is_type; is_hf_mul = r.is_hf_mul }))

  rows_have : (bw n y : ℕ) → Among v (corners_from K M bw n y) → InRows bw n y
  unfolding corners_from
  rows_have bw zero y a = elim a [ ]
  rows_have bw (suc n) y a = go (λ b. rows_have bw n (y + 1) b) (row_has bw 0 y (corners_from K M bw n (y + 1)) a)
    where
      go : (Among v (corners_from K M bw n (y + 1)) → InRows bw n (y + 1)) → InRow bw 0 y ⊎ Among v (corners_from K M bw n (y + 1)) → InRows bw (suc n) y
      go ih (inl r) = let e = r.row in let t = r.to in record { in_x = omega arith; from = omega arith; to = omega arith; is_type = r.is_type; is_hf_mul = r.is_hf_mul }
      go ih (inr b) = let r = ih b in let f = r.from in let t = r.to in record { in_x = r.in_x; from = omega arith; to = omega arith; is_type = r.is_type; is_hf_mul = r.is_hf_mul }

  rows_list : (bw n y : ℕ) → InRows bw n y → Among v (corners_from K M bw n y)
  unfolding corners_from
  rows_list bw zero y r = absurd (let f = r.from in let t = r.to in omega arith)
  rows_list bw (suc n) y r = go (λ q. rows_list bw n (y + 1) q) (eq_or_ne v.y y)
    where
      go : (InRows bw n (y + 1) → Among v (corners_from K M bw n (y + 1))) → (v.y ≡ y) ⊎ (v.y ≡ y → ⊥) → Among v (corners_row K M bw 0 y (corners_from K M bw n (y + 1)))
      go ih (inl e) = row_lists bw 0 y (corners_from K M bw n (y + 1)) (let i = r.in_x in record { row = e; from = omega arith; to = omega arith; is_type = r.is_type; is_hf_mul = r.is_hf_mul })
      go ih (inr n') = row_rest bw 0 y (corners_from K M bw n (y + 1)) (ih (let f = r.from in let t = r.to in record { in_x = r.in_x; from = omega arith; to = omega arith; is_type = r.is_type; is_hf_mul = r.is_hf_mul }))

pub listed : (L : LentLayout) (v : Varblock) → Among v (varblocks_of L.bw L.bh L.kinds L.hf_mul) ↔ HasVarblock L v
listed L v = (λ a. there (rows_have (kind_at L) (hf_mul_at L) v L.bw L.bh 0 a), λ h. rows_list (kind_at L) (hf_mul_at L) v L.bw L.bh 0 (back h))
  where
    there : InRows (kind_at L) (hf_mul_at L) v L.bw L.bh 0 → HasVarblock L v
    there r = let t = r.to in record { in_x = r.in_x; in_y = omega arith; is_type = r.is_type; is_hf_mul = r.is_hf_mul }

    back : HasVarblock L v → InRows (kind_at L) (hf_mul_at L) v L.bw L.bh 0
    back h = let i = h.in_y in record { in_x = h.in_x; from = omega arith; to = omega arith; is_type = h.is_type; is_hf_mul = h.is_hf_mul }
