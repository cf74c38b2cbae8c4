-- A grid without blocks: nothing is visited, there are no varblocks and no groups, and it is a layout (document 02, No. 2).
use Rattle.std.specs.Prelude.{◌≡◌, refl, Bool, true, false, ◌↔◌, ◌⊎◌, List, [], ℕ, zero, suc, ◌+◌, ◌*◌, ◌≤◌, ◌<◌, eqb}
use Rattle.std.proofs.Common.{inl, inr, mul-zero, zero-mul, arith, eqb-true, eq-eqb, ltb-true}
use Rattle.laws.specs.laws.Cases.{le_or_lt, or_true, or_either}
use Rattle.layout.specs.RowByRow.{along_row, rows, row_by_row}
use Rattle.layout.specs.Valid.{Cells, Layout}
use Rattle.layout.specs.Varblocks.{Varblock, corners_row, corners_from, varblocks_of, area}
use Rattle.layout.specs.Cut.{groups, has_group}
use Rattle.layout.specs.Lent.{LentLayout, HasVarblock}
use Rattle.layout.specs.Empty.{Empty, is_empty}

-- the test is what it says
pub is_empty_lem : (bw bh : ℕ) → (is_empty bw bh ≡ true) ↔ Empty bw bh
is_empty_lem bw bh = (λ e. there (or_true (eqb bw 0) (eqb bh 0) e), λ e. or_either (eqb bw 0) (eqb bh 0) (back e))
  where
    there : (eqb bw 0 ≡ true) ⊎ (eqb bh 0 ≡ true) → Empty bw bh
    there (inl e) = inl (eqb-true bw 0 e)
    there (inr e) = inr (eqb-true bh 0 e)

    back : Empty bw bh → (eqb bw 0 ≡ true) ⊎ (eqb bh 0 ≡ true)
    back (inl e) = inl (eq-eqb bw 0 e)
    back (inr e) = inr (eq-eqb bh 0 e)

-- without blocks, or with at least one
pub empty_or_not : (bw bh : ℕ) → Empty bw bh ⊎ ((1 ≤ bw) × (1 ≤ bh))
empty_or_not bw bh = go (le_or_lt 1 bw) (le_or_lt 1 bh)
  where
    go : (1 ≤ bw) ⊎ (bw < 1) → (1 ≤ bh) ⊎ (bh < 1) → Empty bw bh ⊎ ((1 ≤ bw) × (1 ≤ bh))
    go (inl a) (inl b) = inr (a, b)
    go (inr a) b = inl (inl (omega arith))
    go (inl a) (inr b) = inl (inr (omega arith))

-- steps over no blocks change nothing
narrow_rows : {S : Type 0} (f : ℕ → ℕ → S → S) (n y : ℕ) (s : S) → rows f 0 n y s ≡ s
unfolding rows along_row
narrow_rows f zero y s = refl
narrow_rows f (suc n) y s = narrow_rows f n (y + 1) s

narrow_corners : (K M : Cells) (n y : ℕ) → corners_from K M 0 n y ≡ []
unfolding corners_from corners_row
narrow_corners K M zero y = refl
narrow_corners K M (suc n) y = narrow_corners K M n (y + 1)

pub no_steps : {S : Type 0} (f : ℕ → ℕ → S → S) (bw bh : ℕ) (s : S) → Empty bw bh → row_by_row f bw bh s ≡ s
unfolding rows
no_steps f bw bh s (inl e) = rw e (narrow_rows f bh 0 s)
no_steps f bw bh s (inr e) = rw e

module _ (bw bh : ℕ) where
  pub no_blocks : Empty bw bh → bh * bw ≡ 0
  no_blocks (inl e) = rw e (mul-zero bh)
  no_blocks (inr e) = rw e (zero-mul bw)

  -- no varblocks, and so an area of 0
  pub no_varblocks : (kinds hf_mul : List ℕ) → Empty bw bh → varblocks_of bw bh kinds hf_mul ≡ []
  unfolding corners_from
  no_varblocks kinds hf_mul (inl e) = rw e (narrow_corners _ _ bh 0)
  no_varblocks kinds hf_mul (inr e) = rw e

  pub no_area : (kinds hf_mul : List ℕ) → Empty bw bh → area (varblocks_of bw bh kinds hf_mul) ≡ 0
  unfolding area
  no_area kinds hf_mul e = rw (no_varblocks kinds hf_mul e)

  -- every index is outside
  pub no_groups : (g : ℕ) → Empty bw bh → has_group bw bh g ≡ false
  no_groups g e = go (has_group bw bh g) refl e
    where
      none : Empty bw bh → groups bh * groups bw ≡ 0
      none (inl e) = rw e (mul-zero (groups bh))
      none (inr e) = rw e (zero-mul (groups bw))

      go : (b : Bool) → has_group bw bh g ≡ b → Empty bw bh → b ≡ false
      go false t e = refl
      go true t e = absurd (let z = none e in let l = ltb-true g (groups bh * groups bw) t in omega arith)

  pub no_cell : (x y : ℕ) → Empty bw bh → x < bw → y < bh → ⊥
  no_cell x y (inl e) i j = omega arith
  no_cell x y (inr e) i j = omega arith

  -- it is a layout, lent as two empty lists
  pub empty_layout : Empty bw bh → Layout bw bh [] []
  empty_layout e = record {
    kinds_length = let z = no_blocks e in omega arith;
    hf_mul_length = let z = no_blocks e in omega arith;
    valid = record {
      fits = λ x y i j c. absurd (no_cell x y e i j);
      plain = λ x y i j c. absurd (no_cell x y e i j);
      owned = λ x y i j. absurd (no_cell x y e i j);
    };
  }

pub no_varblock : (L : LentLayout) → Empty L.bw L.bh → (v : Varblock) → HasVarblock L v → ⊥
no_varblock L e v h = no_cell L.bw L.bh v.x v.y e h.in_x h.in_y
