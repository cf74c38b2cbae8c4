-- The ends of the cut's checks, and its copying loops.
use Rattle.std.specs.Prelude.{◌≡◌, true, false, List, ℕ, ◌+◌, ◌*◌, ◌≤◌, length}
use Rattle.std.proofs.Common.{sym, ◌∙◌, mul-le-mul_right, arith}
use Rattle.refusal.specs.declared.Said.{Said}
use Rattle.refusal.specs.Said.{said_at}
use Rattle.layout.proofs.laws.Loops.{rows_left, loop_start}
use Rattle.layout.specs.Grid.{grid_of, block_at}
use Rattle.layout.proofs.laws.Fill.{write, written}
use Rattle.layout.specs.Check.{is_layout}
use Rattle.layout.specs.Cut.{group_x, group_y, has_group, bw_of_group, bh_of_group, cut}
use Rattle.layout.proofs.laws.CutLaws.{starts_x, starts_y}
use Rattle.refusal.specs.Answer.{gives, refuses}
use Rattle.lent_sides.specs.Limits.{in_limits, lengths_fit}
use Rattle.lent_sides.specs.laws.Limits.{in_limits_lem, lengths_fit_lem}
use Rattle.lent_cut.specs.Calls.{outcome, cut_check, cut_of}
use Rattle.refusal.specs.laws.Answer.{pass}
use Rattle.lent_check.specs.declared.GroupSides.{GroupSides}
use Rattle.lent_check.specs.GroupSides.{group_sides}
use Rattle.lent_cut.specs.laws.CutSteps.{Passed, cut_done}

module _ (bw bh : ℕ) (kinds hf_mul : List ℕ) (g ok om : ℕ) where
  pub cut_size : in_limits 256 bw bh ≡ false → refuses (said_at 2 0 0) ≡ cut_check bw bh kinds hf_mul g ok om
  unfolding cut_check
  cut_size e = rw e

  module _ (e : in_limits 256 bw bh ≡ true) where
    pub cut_index : has_group bw bh g ≡ false → refuses (said_at 2 0 0) ≡ cut_check bw bh kinds hf_mul g ok om
    unfolding cut_check
    cut_index f = rw (e, f)

    module _ (f : has_group bw bh g ≡ true) where
      pub cut_lent : lengths_fit bw bh (length kinds) (length hf_mul) ≡ false → refuses (said_at 1 0 0) ≡ cut_check bw bh kinds hf_mul g ok om
      unfolding cut_check
      cut_lent h = rw (e, f, h)

      module _ (h : lengths_fit bw bh (length kinds) (length hf_mul) ≡ true) where
        pub cut_buffers : lengths_fit (bw_of_group bw g) (bh_of_group bw bh g) ok om ≡ false → refuses (said_at 1 0 0) ≡ cut_check bw bh kinds hf_mul g ok om
        unfolding cut_check
        cut_buffers i = rw (e, f, h, i)

        module _ (i : lengths_fit (bw_of_group bw g) (bh_of_group bw bh g) ok om ≡ true) where
          pub cut_fault : is_layout bw bh kinds hf_mul ≡ false → refuses (said_at 18 0 0) ≡ cut_check bw bh kinds hf_mul g ok om
          unfolding cut_check
          cut_fault j = rw (e, f, h, i, j)

          pub cut_fine : is_layout bw bh kinds hf_mul ≡ true → gives tt ≡ cut_check bw bh kinds hf_mul g ok om
          unfolding cut_check
          cut_fine j = rw (e, f, h, i, j)

  pub passed : cut_check bw bh kinds hf_mul g ok om ≡ gives tt → (Passed bw bh kinds hf_mul g ok om)
  unfolding cut_check
  passed e =
      let a = pass 2 (in_limits 256 bw bh) _ tt e in
      let b = pass 2 (has_group bw bh g) _ tt a.1 in
      let c = pass 1 (lengths_fit bw bh (length kinds) (length hf_mul)) _ tt b.1 in
      let d = pass 1 (lengths_fit (bw_of_group bw g) (bh_of_group bw bh g) ok om) _ tt c.1 in
      let f = pass 18 (is_layout bw bh kinds hf_mul) (gives tt) tt d.1 in
      record { sides = a.0; index = b.0; lent = c.0; buffers = d.0; layout = f.0 }

module _ (bw bh : ℕ) (kinds hf_mul : List ℕ) (g : ℕ) (out_kinds out_hf_mul : List ℕ) where
  pub cut_refused : (s : Said) → cut_check bw bh kinds hf_mul g (length out_kinds) (length out_hf_mul) ≡ refuses s → cut_of bw bh kinds hf_mul g out_kinds out_hf_mul ≡ outcome (refuses s) out_kinds out_hf_mul
  unfolding cut_of
  cut_refused s e = rw e

  pub cut_done_lem : cut_check bw bh kinds hf_mul g (length out_kinds) (length out_hf_mul) ≡ gives tt → cut_of bw bh kinds hf_mul g out_kinds out_hf_mul ≡ cut_done bw bh kinds hf_mul g
  unfolding cut_of
  cut_done_lem e = rw e

  -- the group's cells are in the layout, and the buffers are as long as it has cells
  pub record Ready (gx gy : ℕ) (r : GroupSides) : Type 0 where
    pub fits_x : 32 * gx + r.bw ≤ bw
    pub fits_y : 32 * gy + r.bh ≤ 256
    pub fits : (32 * gy + r.bh) * bw ≤ length kinds
    pub same : length hf_mul ≡ length kinds
    pub out_kinds_fit : length out_kinds ≡ r.bh * r.bw
    pub out_hf_mul_fit : length out_hf_mul ≡ r.bh * r.bw

  pub ready : (gx gy : ℕ) (r : GroupSides) → Passed bw bh kinds hf_mul g (length out_kinds) (length out_hf_mul) → gx ≡ group_x bw g → gy ≡ group_y bw g → r ≡ group_sides (bw_of_group bw g) (bh_of_group bw bh g) → Ready gx gy r
  ready gx gy r p ex ey er = rw (ex, ey, er) here
    where
      here : Ready (group_x bw g) (group_y bw g) (group_sides (bw_of_group bw g) (bh_of_group bw bh g))
      here =
          let s = in_limits_lem 256 bw bh p.sides in
          let x = starts_x bw bh g p.index in
          let y = starts_y bw bh g p.index in
          let l = lengths_fit_lem bw bh (length kinds) (length hf_mul) p.lent in
          let b = lengths_fit_lem (bw_of_group bw g) (bh_of_group bw bh g) (length out_kinds) (length out_hf_mul) p.buffers in
          let h : 32 * group_y bw g + bh_of_group bw bh g ≤ bh = omega arith in
          let m = mul-le-mul_right bw h in
          record { fits_x = omega arith; fits_y = omega arith; fits = omega arith; same = omega arith; out_kinds_fit = b.0; out_hf_mul_fit = b.1 }

pub copied : (bw bh g : ℕ) (l : List ℕ) (gx gy : ℕ) (r : GroupSides) → gx ≡ group_x bw g → gy ≡ group_y bw g → r ≡ group_sides (bw_of_group bw g) (bh_of_group bw bh g)
    → grid_of (λ x y. block_at l bw (32 * gx + x) (32 * gy + y)) r.bw r.bh ≡ cut bw bh g l
unfolding cut
copied bw bh g l gx gy r ex ey er = rw (ex, ey, er)

-- copying cell by cell gives the grid
pub copy_start : (f : ℕ → ℕ → ℕ) (w h : ℕ) (l : List ℕ) → length l ≡ h * w → grid_of f w h ≡ rows_left (write f w h) w h 0 l
copy_start f w h l e = sym (written f w h l e) ∙ loop_start (write f w h) w h l
