-- The rectangles that are left from (x, y) on.
use Rattle.std.specs.Prelude.{◌≡◌, List, [], ◌∷◌}
use Rattle.std.proofs.Math.Path.{refl, ap}
use Rattle.std.proofs.Common.{◌∙◌, le-leb}
use Prim.Native.Nat.{ℕ, zero, suc, ◌+◌, ◌-◌, ◌≤◌, ◌<◌}
use native.Mathlib.Omega.{arith}
use Rattle.std.proofs.lemmas.Bool.{lt-leb}
use Rattle.layout.specs.Valid.{Cells}
use Rattle.layout.specs.Varblocks.{Varblock, corners_row, corners_from}
use Rattle.layout.specs.laws.Rest.{left_in}

cells_left : (m n : ℕ) → 0 < m → left_in m n ≡ n
cells_left zero n h = absurd (omega arith)
cells_left (suc m) n h = refl

module _ (bw bh : ℕ) (K M : Cells) where
  abbrev pub rest : ℕ → ℕ → List Varblock
  rest x y = corners_row K M (left_in (bh - y) (bw - x)) x y (corners_from K M bw (bh - (y + 1)) (y + 1))

  more : (x y : ℕ) → x < bw → y < bh → left_in (bh - y) (bw - x) ≡ suc (bw - (x + 1))
  more x y h l = cells_left (bh - y) (bw - x) (omega arith) ∙ omega arith

  again : (x y : ℕ) → y < bh → left_in (bh - y) (bw - x) ≡ bw - x
  again x y l = cells_left (bh - y) (bw - x) (omega arith)

  pub rest_corner : (x y : ℕ) → x < bw → y < bh → 2 ≤ K x y → rest x y ≡ record { x = x; y = y; type = K x y - 2; hf_mul = M x y } ∷ rest (x + 1) y
  unfolding corners_row
  rest_corner x y h j l =
      ap (λ (n : ℕ). corners_row K M n x y (corners_from K M bw (bh - (y + 1)) (y + 1))) (more x y h j) ∙ rw (le-leb 2 (K x y) l, again (x + 1) y j)

  pub rest_plain : (x y : ℕ) → x < bw → y < bh → K x y < 2 → rest x y ≡ rest (x + 1) y
  unfolding corners_row
  rest_plain x y h j l =
      ap (λ (n : ℕ). corners_row K M n x y (corners_from K M bw (bh - (y + 1)) (y + 1))) (more x y h j) ∙ rw (lt-leb 2 (K x y) l, again (x + 1) y j)

  pub rest_rows : (n y : ℕ) → n ≡ bh - y → corners_from K M bw n y ≡ rest 0 y
  unfolding corners_from corners_row
  rest_rows zero y e =
      let p : bh - y ≡ 0 = omega arith in
      let q : bh - (y + 1) ≡ 0 = omega arith in
      rw (p, q)
  rest_rows (suc n) y e =
      let p : bh - y ≡ suc n = omega arith in
      let q : bh - (y + 1) ≡ n = omega arith in
      let r : bw - 0 ≡ bw = omega arith in
      rw (p, q, r)

  pub rest_turn : (y : ℕ) → y < bh → rest bw y ≡ rest 0 (y + 1)
  unfolding corners_row
  rest_turn y h =
      let e : bw - bw ≡ 0 = omega arith in
      ap (λ (n : ℕ). corners_row K M n bw y (corners_from K M bw (bh - (y + 1)) (y + 1))) (again bw y h ∙ e) ∙ rest_rows (bh - (y + 1)) (y + 1) refl

  pub rest_end : rest 0 bh ≡ []
  unfolding corners_row corners_from
  rest_end = let p : bh - bh ≡ 0 = omega arith in let q : bh - (bh + 1) ≡ 0 = omega arith in rw (p, q)
