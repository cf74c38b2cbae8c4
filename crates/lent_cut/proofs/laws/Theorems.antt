-- What the cut promises (document 01, Layout, "Added by us").
use Rattle.std.proofs.Math.Path.{◌≡◌}
use Rattle.std.specs.Prelude.{refl, Bool, List, ℕ, length}
use Rattle.std.proofs.Common.{ap, sym, ◌∙◌}
use Rattle.std.proofs.Math.Bool.{true, false}
use native.Mathlib.Omega.{arith}
use Rattle.refusal.specs.declared.Said.{Said}
use Rattle.refusal.specs.Said.{said_at}
use Rattle.layout.proofs.laws.Empty.{no_groups}
use Rattle.layout.specs.Valid.{Layout}
use Rattle.layout.specs.Check.{is_layout}
use Rattle.layout.specs.Cut.{has_group, bw_of_group, bh_of_group, cut}
use Rattle.layout.proofs.laws.CutLaws.{cut_layout, starts_x, starts_y}
use Rattle.layout.proofs.laws.Theorems.{layout_iff}
use Rattle.lent_check.specs.declared.GroupSides.{GroupSides}
use Rattle.refusal.specs.Answer.{Answer, gives, refuses, unless}
use Rattle.refusal.specs.laws.Answer.{refused_with}
use Rattle.lent_check.specs.Calls.{check_of}
use Rattle.lent_sides.specs.Limits.{in_limits, lengths_fit}
use Rattle.lent_sides.specs.laws.Limits.{lengths_fit_lem}
use Rattle.lent_check.specs.GroupSides.{group_sides}
use Rattle.lent_cut.specs.Calls.{Outcome, outcome, cut_check, cut_by, cut_of}
use Rattle.lent_check.specs.laws.Theorems.{checks}
use Rattle.lent_cut.specs.laws.CutSteps.{Passed, cut_done}
use Rattle.lent_cut.proofs.laws.CutSteps.{passed, cut_size, cut_index, cut_done_lem, cut_refused}
use Rattle.lent_cut.specs.laws.Theorems.{CutEmpty, CutSome}

-- The cut.
module _ (bw bh : ℕ) (kinds hf_mul : List ℕ) (g : ℕ) (out_kinds out_hf_mul : List ℕ) where
  -- a layout is never refused with 18, at whatever position
  pub cut_not_18 : Layout bw bh kinds hf_mul → (why : Said) → (cut_of bw bh kinds hf_mul g out_kinds out_hf_mul).answer ≡ refuses why → why.number ≡ 18 → ⊥
  unfolding cut_of cut_check
  cut_not_18 ok why e n = go (in_limits 256 bw bh) (has_group bw bh g) (lengths_fit bw bh (length kinds) (length hf_mul)) (lengths_fit (bw_of_group bw g) (bh_of_group bw bh g) (length out_kinds) (length out_hf_mul)) (is_layout bw bh kinds hf_mul)
      ((layout_iff bw bh kinds hf_mul ok.kinds_length ok.hf_mul_length).1 ok) (ap refused_with e ∙ n)
    where
      go : (p q r s t : Bool) → t ≡ true
          → refused_with (cut_by (unless 2 p (unless 2 q (unless 1 r (unless 1 s (unless 18 t (gives tt)))))) (outcome (gives (group_sides (bw_of_group bw g) (bh_of_group bw bh g))) (cut bw bh g kinds) (cut bw bh g hf_mul)) out_kinds out_hf_mul).answer ≡ 18 → ⊥
      go false q r s t f z = let y : ◌≡◌ {A = ℕ} 2 18 = z in omega arith
      go true false r s t f z = let y : ◌≡◌ {A = ℕ} 2 18 = z in omega arith
      go true true false s t f z = let y : ◌≡◌ {A = ℕ} 1 18 = z in omega arith
      go true true true false t f z = let y : ◌≡◌ {A = ℕ} 1 18 = z in omega arith
      go true true true true true f z = let y : ◌≡◌ {A = ℕ} 0 18 = z in omega arith
      go true true true true false f z = let y : ◌≡◌ {A = ℕ} 0 1 = cc in omega arith

  -- an accepted cut has passed its checks, and hands back the sides of the group that it wrote
  accepted : (r : GroupSides) → (cut_of bw bh kinds hf_mul g out_kinds out_hf_mul).answer ≡ gives r
      → Passed bw bh kinds hf_mul g (length out_kinds) (length out_hf_mul) × (cut_of bw bh kinds hf_mul g out_kinds out_hf_mul ≡ cut_done bw bh kinds hf_mul g) × (group_sides (bw_of_group bw g) (bh_of_group bw bh g) ≡ r)
  accepted r e = go (cut_check bw bh kinds hf_mul g (length out_kinds) (length out_hf_mul)) refl
    where
      go : (a : Answer Unit) → cut_check bw bh kinds hf_mul g (length out_kinds) (length out_hf_mul) ≡ a
          → Passed bw bh kinds hf_mul g (length out_kinds) (length out_hf_mul) × (cut_of bw bh kinds hf_mul g out_kinds out_hf_mul ≡ cut_done bw bh kinds hf_mul g) × (group_sides (bw_of_group bw g) (bh_of_group bw bh g) ≡ r)
      go (refuses s) c = absurd (let d : refuses s ≡ gives r = ap (λ (o : Outcome). o.answer) (sym (cut_refused bw bh kinds hf_mul g out_kinds out_hf_mul s c)) ∙ e in let z : ◌≡◌ {A = ℕ} 0 1 = cc in omega arith)
      go (gives t) c =
          let d = cut_done_lem bw bh kinds hf_mul g out_kinds out_hf_mul c in
          let q : gives (group_sides (bw_of_group bw g) (bh_of_group bw bh g)) ≡ gives r = ap (λ (o : Outcome). o.answer) (sym d) ∙ e in
          (passed bw bh kinds hf_mul g (length out_kinds) (length out_hf_mul) c, d, cc)

  -- what it wrote is a group that the check passes
  pub cut_checks : (r : GroupSides) → (cut_of bw bh kinds hf_mul g out_kinds out_hf_mul).answer ≡ gives r
      → check_of 32 r.bw r.bh (cut_of bw bh kinds hf_mul g out_kinds out_hf_mul).kinds (cut_of bw bh kinds hf_mul g out_kinds out_hf_mul).hf_mul ≡ gives tt
  cut_checks r e = let a = accepted r e in rw (← a.2, a.1) (written a.0)
    where
      written : Passed bw bh kinds hf_mul g (length out_kinds) (length out_hf_mul) → check_of 32 (bw_of_group bw g) (bh_of_group bw bh g) (cut bw bh g kinds) (cut bw bh g hf_mul) ≡ gives tt
      written p =
          let l = lengths_fit_lem bw bh (length kinds) (length hf_mul) p.lent in
          let ok = (layout_iff bw bh kinds hf_mul l.0 l.1).0 p.layout in
          let x = starts_x bw bh g p.index in
          let y = starts_y bw bh g p.index in
          checks 32 (bw_of_group bw g) (bh_of_group bw bh g) (cut bw bh g kinds) (cut bw bh g hf_mul) (record { bw_to = omega arith; bh_to = omega arith }) (cut_layout bw bh g kinds hf_mul ok)

  -- and has a block at least, so that no cut hands back a group without blocks (document 02, No. 2)
  pub cut_some : CutSome bw bh kinds hf_mul g out_kinds out_hf_mul
  cut_some r e =
      let a = accepted r e in
      let x = starts_x bw bh g a.0.index in
      let y = starts_y bw bh g a.0.index in
      rw (← a.2) (omega arith, omega arith)

  -- every index of a layout without blocks is refused with 2, whatever else is lent, and nothing is written (document 02, No. 2)
  pub cut_empty : CutEmpty bw bh kinds hf_mul g out_kinds out_hf_mul
  cut_empty e = cut_refused bw bh kinds hf_mul g out_kinds out_hf_mul (said_at 2 0 0) (sym (go (in_limits 256 bw bh) refl))
    where
      go : (b : Bool) → in_limits 256 bw bh ≡ b → refuses (said_at 2 0 0) ≡ cut_check bw bh kinds hf_mul g (length out_kinds) (length out_hf_mul)
      go false l = cut_size bw bh kinds hf_mul g (length out_kinds) (length out_hf_mul) l
      go true l = cut_index bw bh kinds hf_mul g (length out_kinds) (length out_hf_mul) l (no_groups bw bh g e)
