-- The groups of a layout together have all its varblocks, each once and where it was.
use Rattle.std.specs.Prelude.{◌≡◌, ℕ, ◌+◌, ◌*◌, ◌/◌, ◌%◌, ◌<◌}
use Rattle.std.proofs.Common.{ap, sym, ◌∙◌, arith, lt-ltb}
use Rattle.layout.specs.Cut.{groups, group_x, group_y}
use Rattle.layout.proofs.laws.CutLaws.{cut_at, group_digits, group_at, group_x_lem, group_y_lem, group_lt, block_in}
use Rattle.layout.specs.Lent.{LentLayout, HasVarblock}
use Rattle.layout.specs.Varblocks.{Varblock}
use Rattle.layout.specs.Groups.{InOneGroup, cut_group, moved}

module _ (L : LentLayout) where
  -- a varblock of a group is the layout's
  pub of_layout : (g : ℕ) (v : Varblock) → HasVarblock (cut_group L g) v → HasVarblock L (moved L g v)
  of_layout g v h =
      let i = h.in_x in let j = h.in_y in
      record {
        in_x = omega arith;
        in_y = omega arith;
        is_type = sym (cut_at L.bw L.bh g L.kinds v.x v.y i j) ∙ h.is_type;
        is_hf_mul = sym (cut_at L.bw L.bh g L.hf_mul v.x v.y i j) ∙ h.is_hf_mul;
      }

  -- a varblock of the layout is in just one group
  pub in_one_group : (v : Varblock) → HasVarblock L v → InOneGroup L v
  in_one_group v h = record { group = g; part = p; has = lt-ltb g (groups L.bh * groups L.bw) (group_lt L.bw L.bh v.x v.y h.in_x h.in_y); within = inside; same = there; only = alone }
    where
      g : ℕ
      g = group_at L.bw v.x v.y

      p : Varblock
      p = record { x = v.x % 32; y = v.y % 32; type = v.type; hf_mul = v.hf_mul }

      gx : group_x L.bw g ≡ v.x / 32
      gx = group_x_lem L.bw L.bh v.x v.y h.in_x h.in_y

      gy : group_y L.bw g ≡ v.y / 32
      gy = group_y_lem L.bw L.bh v.x v.y h.in_x h.in_y

      at_x : 32 * group_x L.bw g + v.x % 32 ≡ v.x
      at_x = let e = gx in omega arith

      at_y : 32 * group_y L.bw g + v.y % 32 ≡ v.y
      at_y = let e = gy in omega arith

      there : moved L g p ≡ v
      there = rw (at_x, at_y)

      inside : HasVarblock (cut_group L g) p
      inside =
          let b = block_in L.bw L.bh v.x v.y h.in_x h.in_y in
          record {
            in_x = b.0;
            in_y = b.1;
            is_type = cut_at L.bw L.bh g L.kinds (v.x % 32) (v.y % 32) b.0 b.1 ∙ rw (at_x, at_y) h.is_type;
            is_hf_mul = cut_at L.bw L.bh g L.hf_mul (v.x % 32) (v.y % 32) b.0 b.1 ∙ rw (at_x, at_y) h.is_hf_mul;
          }

      alone : (f : ℕ) (q : Varblock) → HasVarblock (cut_group L f) q → moved L f q ≡ v → (f ≡ g) × (q ≡ p)
      alone f q w e =
          let i = w.in_x in let j = w.in_y in let a = gx in let b = gy in
          let ex : 32 * group_x L.bw f + q.x ≡ v.x = ap (λ (u : Varblock). u.x) e in
          let ey : 32 * group_y L.bw f + q.y ≡ v.y = ap (λ (u : Varblock). u.y) e in
          let fx : group_x L.bw f ≡ group_x L.bw g = omega arith in
          let fy : group_y L.bw f ≡ group_y L.bw g = omega arith in
          let k : group_y L.bw f * groups L.bw + group_x L.bw f ≡ group_y L.bw g * groups L.bw + group_x L.bw g = rw (fx, fy) in
          let qx : q.x ≡ v.x % 32 = omega arith in
          let qy : q.y ≡ v.y % 32 = omega arith in
          let t : q.type ≡ v.type = ap (λ (u : Varblock). u.type) e in
          let m : q.hf_mul ≡ v.hf_mul = ap (λ (u : Varblock). u.hf_mul) e in
          let o : 0 < groups L.bw = omega (arith, h.in_x) in
          ((group_digits L.bw o f).1 ∙ k ∙ sym (group_digits L.bw o g).1, rw (← qx, ← qy, ← t, ← m))
