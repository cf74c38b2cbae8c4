-- The statements that other crates cite.
use Rattle.std.specs.Prelude.{◌≡◌, Bool, ◌↔◌, List, ℕ, ◌*◌, ◌≤◌, ◌<◌, length}
use Rattle.std.proofs.Math.Path.{refl, sym}
use Rattle.std.proofs.Math.Bool.{true, false}
use Rattle.std.proofs.Common.{arith}
use Rattle.layout.specs.Grid.{block_at}
use Rattle.layout.specs.Valid.{Covers, Owned, Layout}
use Rattle.layout.specs.Check.{passes, check_run, is_layout}
use Rattle.layout.specs.laws.CheckLaws.{check_in}
use Rattle.layout.proofs.laws.CheckValid.{check_valid}
use Rattle.layout.proofs.laws.ValidCheck.{valid_check}
use Rattle.layout.specs.Varblocks.{varblocks_of, area}
use Rattle.layout.proofs.laws.Area.{area_valid}

module _ (bw bh : ℕ) (kinds hf_mul : List ℕ) where
  -- what 18 lets pass is a layout, and every layout
  pub layout_iff : length kinds ≡ bh * bw → length hf_mul ≡ bh * bw → (is_layout bw bh kinds hf_mul ≡ true) ↔ Layout bw bh kinds hf_mul
  unfolding check_run
  layout_iff k m = (
    λ e. record { kinds_length = k; hf_mul_length = m; valid = check_valid bw bh (block_at kinds bw) (block_at hf_mul bw) bw (omega arith) e },
    λ ok. valid_check bw bh (block_at kinds bw) (block_at hf_mul bw) ok.valid bw (omega arith),
  )

  pub layout_check : Layout bw bh kinds hf_mul → is_layout bw bh kinds hf_mul ≡ true
  layout_check ok = (layout_iff ok.kinds_length ok.hf_mul_length).1 ok

  -- the room for columns does not matter
  pub check_room : (room : ℕ) → bw ≤ room → passes (check_in room bw bh (block_at kinds bw) (block_at hf_mul bw)) ≡ is_layout bw bh kinds hf_mul
  unfolding check_run
  check_room room h =
      same (passes (check_in room bw bh (block_at kinds bw) (block_at hf_mul bw))) (is_layout bw bh kinds hf_mul)
      (λ e. valid_check bw bh (block_at kinds bw) (block_at hf_mul bw) (check_valid bw bh (block_at kinds bw) (block_at hf_mul bw) room h e) bw (omega arith))
      (λ e. valid_check bw bh (block_at kinds bw) (block_at hf_mul bw) (check_valid bw bh (block_at kinds bw) (block_at hf_mul bw) bw (omega arith) e) room h)
    where
      same : (a b : Bool) → (a ≡ true → b ≡ true) → (b ≡ true → a ≡ true) → a ≡ b
      same true b f g = sym (f refl)
      same false true f g = g refl
      same false false f g = refl

  -- rectangles that share a cell of the grid are one
  pub disjoint : Layout bw bh kinds hf_mul → (a b c d x y : ℕ) → x < bw → y < bh → Covers (block_at kinds bw) a b x y → Covers (block_at kinds bw) c d x y → (a ≡ c) × (b ≡ d)
  disjoint ok a b c d x y i j v w =
      let o = ok.valid.owned x y i j in
      let p = o.only a b v in
      let q = o.only c d w in
      (omega arith, omega arith)

  -- each cell of the grid is in one
  pub covered : Layout bw bh kinds hf_mul → (x y : ℕ) → x < bw → y < bh → Owned (block_at kinds bw) x y
  covered ok x y i j = ok.valid.owned x y i j

  pub layout_area : Layout bw bh kinds hf_mul → area (varblocks_of bw bh kinds hf_mul) ≡ bw * bh
  layout_area ok = area_valid bw bh (block_at kinds bw) (block_at hf_mul bw) ok.valid
