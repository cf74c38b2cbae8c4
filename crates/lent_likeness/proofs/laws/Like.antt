-- Layouts with the same varblocks have the same rectangles, and are lent alike: both without blocks, or as the same.
use Rattle.std.specs.Prelude.{◌≡◌, ◌⊎◌, List, ℕ, ◌+◌, ◌*◌, ◌-◌, ◌≤◌, ◌<◌, length, get_or}
use Rattle.std.proofs.Math.Path.{refl}
use Rattle.std.proofs.Common.{ap, sym, ◌∙◌, inl, inr, ext_get_or}
use native.Mathlib.Omega.{arith}
use Rattle.laws.specs.laws.Cases.{le_or_lt}
use Rattle.laws.specs.laws.Lists.{no_elements}
use Rattle.layout.specs.Kinds.{wide_of, high_of}
use Rattle.layout.proofs.laws.Grid.{cell_at}
use Rattle.layout.specs.Empty.{Empty}
use Rattle.layout.proofs.laws.Empty.{empty_or_not, no_blocks, no_cell}
use Rattle.layout.specs.Valid.{Layout}
use Rattle.layout.specs.Varblocks.{varblock}
use Rattle.layout.specs.Lent.{LentLayout, kind_at, hf_mul_at, HasVarblock}
use Rattle.lent_likeness.specs.Like.{SameVarblocks, HasRectangle, SameRectangles}
use Rattle.lent_likeness.specs.laws.LikeSteps.{SidesAlike}

-- what 18 lets pass
abbrev LaidOut : LentLayout → Type 0
LaidOut L = Layout L.bw L.bh L.kinds L.hf_mul

-- lists of no elements
pub none_equal : (l m : List ℕ) → length l ≡ 0 → length m ≡ 0 → l ≡ m
none_equal l m e f = no_elements l e ∙ sym (no_elements m f)

varblocks_turned : (L N : LentLayout) → SameVarblocks L N → SameVarblocks N L
unfolding SameVarblocks
varblocks_turned L N s v = ((s v).1, (s v).0)

-- the corner at (x, y) of one is that of the other
module _ (L N : LentLayout) (same : SameVarblocks L N) (x y : ℕ) (in_x : x < L.bw) (in_y : y < L.bh) (corner : 2 ≤ kind_at L x y) where
  there : HasVarblock N (varblock x y (kind_at L x y - 2) (hf_mul_at L x y))
  unfolding SameVarblocks
  there = (same (varblock x y (kind_at L x y - 2) (hf_mul_at L x y))).0 (record { in_x = in_x; in_y = in_y; is_type = omega arith; is_hf_mul = refl })

  same_corner : (x < N.bw) × (y < N.bh) × (kind_at N x y ≡ kind_at L x y) × (hf_mul_at N x y ≡ hf_mul_at L x y)
  same_corner = let t : kind_at N x y ≡ 2 + (kind_at L x y - 2) = there.is_type in (there.in_x, there.in_y, omega arith, there.is_hf_mul)

one_way : (L N : LentLayout) → SameVarblocks L N → (x y w h m : ℕ) → HasRectangle L x y w h m → HasRectangle N x y w h m
one_way L N s x y w h m r =
    let c = same_corner L N s x y r.in_x r.in_y r.corner in
    let k = c.2 in
    let l = r.corner in
    record { in_x = c.0; in_y = c.1; corner = omega arith; is_wide = ap wide_of k ∙ r.is_wide; is_high = ap high_of k ∙ r.is_high; is_hf_mul = c.3 ∙ r.is_hf_mul }

-- whatever is alike now was alike before No. 12
pub same_rectangles : (L N : LentLayout) → SameVarblocks L N → SameRectangles L N
unfolding SameRectangles
same_rectangles L N s x y w h m = (one_way L N s x y w h m, one_way N L (varblocks_turned L N s) x y w h m)

-- A layout that has a block reaches its right and lower edges, so that layouts with the same rectangles have the same sides. Without a block
-- it reaches none: 0 x 3 and 5 x 0 have the same rectangles.
module _ (L N : LentLayout) (here : LaidOut L) (there : LaidOut N) (same : SameRectangles L N) where
  inside : (x y : ℕ) → x < L.bw → y < L.bh → (x < N.bw) × (y < N.bh)
  unfolding SameRectangles
  inside x y i j =
      let o = here.valid.owned x y i j in
      let v = o.covers in
      let a = v.from_x in let b = v.to_x in let c = v.from_y in let d = v.to_y in
      let r = (same o.ox o.oy (wide_of (kind_at L o.ox o.oy)) (high_of (kind_at L o.ox o.oy)) (hf_mul_at L o.ox o.oy)).0
      (record { in_x = omega arith; in_y = omega arith; corner = v.corner; is_wide = refl; is_high = refl; is_hf_mul = refl }) in
      let w = r.is_wide in let h = r.is_high in
      let f = there.valid.fits o.ox o.oy r.in_x r.in_y r.corner in
      let p = f.in_x in let q = f.in_y in
      (omega arith, omega arith)

  not_wider : 1 ≤ L.bw → 1 ≤ L.bh → (L.bw ≤ N.bw) × (L.bh ≤ N.bh)
  not_wider i j = let p = inside (L.bw - 1) (L.bh - 1) (omega arith) (omega arith) in (omega arith, omega arith)

-- Two layouts of the same sides: cell for cell.
module _ (L N : LentLayout) (here : LaidOut L) (there : LaidOut N) (same : SameVarblocks L N) (wide : L.bw ≡ N.bw) (high : L.bh ≡ N.bh) where
  cells : (x y : ℕ) → x < L.bw → y < L.bh → (kind_at L x y ≡ kind_at N x y) × (hf_mul_at L x y ≡ hf_mul_at N x y)
  cells x y i j = go (le_or_lt 2 (kind_at L x y)) (le_or_lt 2 (kind_at N x y))
    where
      go : (2 ≤ kind_at L x y) ⊎ (kind_at L x y < 2) → (2 ≤ kind_at N x y) ⊎ (kind_at N x y < 2) → (kind_at L x y ≡ kind_at N x y) × (hf_mul_at L x y ≡ hf_mul_at N x y)
      go (inl a) q = let c = same_corner L N same x y i j a in (sym c.2, sym c.3)
      go (inr a) (inl b) = let c = same_corner N L (varblocks_turned L N same) x y (omega arith) (omega arith) b in (c.2, c.3)
      go (inr a) (inr b) =
          let p = here.valid.plain x y i j a in
          let q = there.valid.plain x y (omega arith) (omega arith) b in
          (p.0 ∙ sym q.0, p.1 ∙ sym q.1)

  cells_at : (i : ℕ) → i < L.bh * L.bw → (get_or L.kinds i 0 ≡ get_or N.kinds i 0) × (get_or L.hf_mul i 0 ≡ get_or N.hf_mul i 0)
  cells_at i h =
      let p = cell_at L.bw L.bh i h in
      let c = cells p.x p.y p.in_x p.in_y in
      let e : p.y * N.bw + p.x ≡ i = ap (λ (w : ℕ). p.y * w + p.x) (sym wide) ∙ sym p.place in
      (ap (λ (n : ℕ). get_or L.kinds n 0) p.place ∙ c.0 ∙ ap (λ (n : ℕ). get_or N.kinds n 0) e, ap (λ (n : ℕ). get_or L.hf_mul n 0) p.place ∙ c.1 ∙ ap (λ (n : ℕ). get_or N.hf_mul n 0) e)

  long : N.bh * N.bw ≡ L.bh * L.bw
  long = rw (wide, high)

  same_lists : (L.kinds ≡ N.kinds) × (L.hf_mul ≡ N.hf_mul)
  same_lists = (
    ext_get_or 0 L.kinds N.kinds (here.kinds_length ∙ sym long ∙ sym there.kinds_length) (λ i h. (cells_at i (let z = here.kinds_length in omega arith)).0),
    ext_get_or 0 L.hf_mul N.hf_mul (here.hf_mul_length ∙ sym long ∙ sym there.hf_mul_length) (λ i h. (cells_at i (let z = here.hf_mul_length in omega arith)).1),
  )

-- layouts with the same varblocks are lent alike: both without blocks, or as the same
module _ (L N : LentLayout) (here : LaidOut L) (there : LaidOut N) (s : SameVarblocks L N) where
  -- a layout with a block has a varblock
  pub same_empty : Empty L.bw L.bh → Empty N.bw N.bh
  same_empty e = go (empty_or_not N.bw N.bh)
    where
      go : Empty N.bw N.bh ⊎ ((1 ≤ N.bw) × (1 ≤ N.bh)) → Empty N.bw N.bh
      go (inl h) = h
      go (inr h) =
          let o = there.valid.owned 0 0 (omega arith) (omega arith) in
          let v = o.covers in
          let a = v.from_x in let b = v.from_y in
          let c = same_corner N L (varblocks_turned L N s) o.ox o.oy (omega arith) (omega arith) v.corner in
          absurd (no_cell L.bw L.bh o.ox o.oy e c.0 c.1)

module _ (L N : LentLayout) (here : LaidOut L) (there : LaidOut N) (s : SameVarblocks L N) where
  empty_lists : Empty L.bw L.bh → Empty N.bw N.bh → (L.kinds ≡ N.kinds) × (L.hf_mul ≡ N.hf_mul)
  empty_lists e f =
      let a = no_blocks L.bw L.bh e in let b = no_blocks N.bw N.bh f in
      (none_equal L.kinds N.kinds (here.kinds_length ∙ a) (there.kinds_length ∙ b), none_equal L.hf_mul N.hf_mul (here.hf_mul_length ∙ a) (there.hf_mul_length ∙ b))

  equal_sides : (1 ≤ L.bw) × (1 ≤ L.bh) → (1 ≤ N.bw) × (1 ≤ N.bh) → (L.bw ≡ N.bw) × (L.bh ≡ N.bh)
  equal_sides some some' =
      let a = not_wider L N here there (same_rectangles L N s) some.0 some.1 in
      let b = not_wider N L there here (same_rectangles N L (varblocks_turned L N s)) some'.0 some'.1 in
      (omega arith, omega arith)

  pub same_lent : SidesAlike L.bw L.bh N.bw N.bh × (L.kinds ≡ N.kinds) × (L.hf_mul ≡ N.hf_mul)
  same_lent = go (empty_or_not L.bw L.bh) (empty_or_not N.bw N.bh)
    where
      go : Empty L.bw L.bh ⊎ ((1 ≤ L.bw) × (1 ≤ L.bh)) → Empty N.bw N.bh ⊎ ((1 ≤ N.bw) × (1 ≤ N.bh)) → SidesAlike L.bw L.bh N.bw N.bh × (L.kinds ≡ N.kinds) × (L.hf_mul ≡ N.hf_mul)
      go (inl e) q = let f = same_empty L N here there s e in let l = empty_lists e f in (inl (e, f), l.0, l.1)
      go (inr h) (inl f) = let e = same_empty N L there here (varblocks_turned L N s) f in let l = empty_lists e f in (inl (e, f), l.0, l.1)
      go (inr h) (inr k) = let d = equal_sides h k in let l = same_lists L N here there s d.0 d.1 in (inr d, l.0, l.1)
