-- Kinds by what the check does with them: corners of one block, larger corners, and the rest.
use Rattle.std.specs.Prelude.{◌≡◌, refl, Bool, true, false, ◌&&◌, cond, ◌⊎◌, ℕ, ◌+◌, ◌≤◌, T, leb, eqb}
use Rattle.std.proofs.Common.{inl, inr, arith, eqb→eq, leb→le, eqb-true}
use Rattle.std.specs.Float.Ieee.Fits.{and_l, and_r}
use Rattle.std.proofs.lemmas.Bool.{eqb-false}
use Rattle.laws.specs.laws.Tables.{each_at}
use Rattle.dct_select.specs.Transforms.{TRANSFORMS, wide, high}
use Rattle.layout.specs.Kinds.{wide_of, high_of}
use Rattle.lent_cells.specs.laws.Cells.{within_of, one_block, larger_of}

-- a corner is of one block or larger
abbrev Sorted : ℕ → Bool
Sorted k = cond (eqb (larger_of k) 0) (eqb (wide_of k) 1 && (eqb (high_of k) 1 && eqb (one_block k) 1)) (leb 1 (wide_of k) && (leb 1 (high_of k) && eqb (one_block k) 0))

pub record Single (k : ℕ) : Type 0 where
  pub plain : larger_of k ≡ 0
  pub width : wide_of k ≡ 1
  pub height : high_of k ≡ 1
  pub one : one_block k ≡ 1

pub record Larger (k : ℕ) : Type 0 where
  pub more : larger_of k ≡ 0 → ⊥
  pub width : 1 ≤ wide_of k
  pub height : 1 ≤ high_of k
  pub one : one_block k ≡ 0

pub sort : (k : ℕ) → 2 ≤ k → k ≤ 28 → Single k ⊎ Larger k
unfolding larger_of one_block within_of wide high TRANSFORMS
sort k h l = go (eqb (larger_of k) 0) refl (each_at Sorted 27 2 tt k h (omega arith))
  where
    go : (b : Bool) → eqb (larger_of k) 0 ≡ b
        → T (cond b (eqb (wide_of k) 1 && (eqb (high_of k) 1 && eqb (one_block k) 1)) (leb 1 (wide_of k) && (leb 1 (high_of k) && eqb (one_block k) 0))) → Single k ⊎ Larger k
    go true e t =
        let r = and_r (eqb (wide_of k) 1) _ t in
        inl (record { plain = eqb-true (larger_of k) 0 e; width = eqb→eq (wide_of k) 1 (and_l (eqb (wide_of k) 1) _ t); height = eqb→eq (high_of k) 1 (and_l (eqb (high_of k) 1) _ r); one = eqb→eq (one_block k) 1 (and_r (eqb (high_of k) 1) _ r) })
    go false e t =
        let r = and_r (leb 1 (wide_of k)) _ t in
        inr (record { more = eqb-false (larger_of k) 0 e; width = leb→le 1 (wide_of k) (and_l (leb 1 (wide_of k)) _ t); height = leb→le 1 (high_of k) (and_l (leb 1 (high_of k)) _ r); one = eqb→eq (one_block k) 0 (and_r (leb 1 (high_of k)) _ r) })

pub larger_flag : (k : ℕ) → larger_of k ≤ 1
unfolding larger_of
larger_flag k = go (eqb (within_of k 1 5 + within_of k 14 19) 0)
  where
    go : (b : Bool) → cond b 1 0 ≤ 1
    go true = omega arith
    go false = omega arith

-- a corner has an x at least
pub wide_some : (k : ℕ) → 2 ≤ k → k ≤ 28 → 1 ≤ wide_of k
wide_some k h l = go (sort k h l)
  where
    go : Single k ⊎ Larger k → 1 ≤ wide_of k
    go (inl s) = let w = s.width in omega arith
    go (inr s) = s.width
