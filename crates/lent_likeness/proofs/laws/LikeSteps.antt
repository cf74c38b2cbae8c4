-- The ends of the likeness test.
use Rattle.std.specs.Prelude.{◌≡◌, Bool, true, false, ◌&&◌, ◌↔◌, ◌⊎◌, ℕ, ◌*◌, eqb, length}
use Rattle.std.proofs.Common.{sym, inl, inr, eqb-true, eq-eqb}
use Rattle.laws.specs.laws.Cases.{and-true, or_true, or_either}
use Rattle.refusal.specs.Said.{said_at}
use Rattle.refusal.specs.Answer.{gives, refuses}
use Rattle.layout.specs.Empty.{is_empty}
use Rattle.layout.proofs.laws.Empty.{is_empty_lem}
use Rattle.lent_sides.specs.Limits.{lengths_fit}
use Rattle.lent_sides.specs.laws.Limits.{lengths_fit_lem}
use Rattle.lent_check.specs.laws.Laws.{lent_cells}
use Rattle.lent_lists.specs.Same.{same}
use Rattle.lent_lists.proofs.laws.Same.{same_iff}
use Rattle.lent_likeness.specs.Like.{FilteredLayout}
use Rattle.lent_likeness.specs.Calls.{sided, strengths_finite, all_lengths_fit, holds_layout, sides_alike, alike, like_of}
use Rattle.lent_likeness.specs.laws.LikeSteps.{is_lent, SidesAlike, LentAlike}

-- two tests, the second where the first holds
module _ (r a b : Bool) (e : r ≡ a) where
  pub both_second : (s : Bool) → s ≡ b → r ≡ true → s ≡ a && b
  both_second s f t = rw (f, ← e, t)

  pub both_first : r ≡ false → false ≡ a && b
  both_first t = rw (← e, t)

-- sigma is as long as the layout if it is as long as kinds
pub sigma_length : (bw bh kinds hf_mul sigma : ℕ) → lengths_fit bw bh kinds hf_mul ≡ true → eqb sigma kinds ≡ lengths_fit bw bh kinds hf_mul && eqb sigma (bh * bw)
sigma_length bw bh kinds hf_mul sigma e = rw (e, ← (lengths_fit_lem bw bh kinds hf_mul e).0)

is_lent_lem : (L : FilteredLayout) → sided L ≡ true → all_lengths_fit L ≡ true → is_lent L ≡ holds_layout L
is_lent_lem L a b =
    lent_cells L.layout.bw L.layout.bh L.layout.kinds L.layout.hf_mul a
    (and-true (lengths_fit L.layout.bw L.layout.bh (length L.layout.kinds) (length L.layout.hf_mul)) _ b).0

module _ (L N : FilteredLayout) where
  pub like_size : (sided L && sided N) ≡ false → refuses (said_at 2 0 0) ≡ like_of L N
  unfolding like_of
  like_size a = rw a

  module _ (a : (sided L && sided N) ≡ true) where
    pub like_float : (strengths_finite L && strengths_finite N) ≡ false → refuses (said_at 11 0 0) ≡ like_of L N
    unfolding like_of
    like_float f = rw (a, f)

    module _ (f : (strengths_finite L && strengths_finite N) ≡ true) where
      pub like_length : (all_lengths_fit L && all_lengths_fit N) ≡ false → refuses (said_at 1 0 0) ≡ like_of L N
      unfolding like_of
      like_length b = rw (a, f, b)

      module _ (b : (all_lengths_fit L && all_lengths_fit N) ≡ true) where
        pub like_fault : (holds_layout L && holds_layout N) ≡ false → refuses (said_at 18 0 0) ≡ like_of L N
        unfolding like_of
        like_fault c = rw (a, f, b, c)

        pub like_says : (holds_layout L && holds_layout N) ≡ true → (r : Bool) → alike L N ≡ r → gives r ≡ like_of L N
        unfolding like_of
        like_says c r e = rw (a, f, b, c, e)

    pub both_lent : (all_lengths_fit L && all_lengths_fit N) ≡ true → (is_lent L && is_lent N) ≡ (holds_layout L && holds_layout N)
    both_lent b =
        let p = and-true (sided L) (sided N) a in
        let q = and-true (all_lengths_fit L) (all_lengths_fit N) b in
        rw (is_lent_lem L p.0 q.0, is_lent_lem N p.1 q.1)

  -- the test of likeness: the sides, then the lists
  pub unlike_sides : sides_alike L.layout.bw L.layout.bh N.layout.bw N.layout.bh ≡ false → alike L N ≡ false
  unfolding alike
  unlike_sides e = rw e

  pub alike_lists : sides_alike L.layout.bw L.layout.bh N.layout.bw N.layout.bh ≡ true
      → alike L N ≡ same L.layout.kinds N.layout.kinds && (same L.layout.hf_mul N.layout.hf_mul && same L.sigma N.sigma)
  unfolding alike
  alike_lists e = rw e

module _ (bw bh bw' bh' : ℕ) where
  sides_pass : SidesAlike bw bh bw' bh' → sides_alike bw bh bw' bh' ≡ true
  sides_pass (inl p) = or_either (is_empty bw bh && is_empty bw' bh') (eqb bw bw' && eqb bh bh') (inl (rw ((is_empty_lem bw bh).1 p.0, (is_empty_lem bw' bh').1 p.1)))
  sides_pass (inr p) = or_either (is_empty bw bh && is_empty bw' bh') (eqb bw bw' && eqb bh bh') (inr (rw (eq-eqb bw bw' p.0, eq-eqb bh bh' p.1)))

  sides_passed : sides_alike bw bh bw' bh' ≡ true → SidesAlike bw bh bw' bh'
  sides_passed e = go (or_true (is_empty bw bh && is_empty bw' bh') (eqb bw bw' && eqb bh bh') e)
    where
      go : (is_empty bw bh && is_empty bw' bh' ≡ true) ⊎ (eqb bw bw' && eqb bh bh' ≡ true) → SidesAlike bw bh bw' bh'
      go (inl t) = let p = and-true (is_empty bw bh) (is_empty bw' bh') t in inl ((is_empty_lem bw bh).0 p.0, (is_empty_lem bw' bh').0 p.1)
      go (inr t) = let p = and-true (eqb bw bw') (eqb bh bh') t in inr (eqb-true bw bw' p.0, eqb-true bh bh' p.1)

-- it is what the test says
pub alike_lent : (L N : FilteredLayout) → (alike L N ≡ true) ↔ LentAlike L N
unfolding alike
alike_lent L N = (there, back)
  where
    there : alike L N ≡ true → LentAlike L N
    there e =
        let p = and-true (sides_alike L.layout.bw L.layout.bh N.layout.bw N.layout.bh) _ e in
        let r = and-true (same L.layout.kinds N.layout.kinds) _ p.1 in
        let s = and-true (same L.layout.hf_mul N.layout.hf_mul) (same L.sigma N.sigma) r.1 in
        record {
          sides = sides_passed L.layout.bw L.layout.bh N.layout.bw N.layout.bh p.0;
          kinds = (same_iff L.layout.kinds N.layout.kinds).0 r.0;
          hf_mul = (same_iff L.layout.hf_mul N.layout.hf_mul).0 s.0;
          sigma = (same_iff L.sigma N.sigma).0 s.1;
        }

    back : LentAlike L N → alike L N ≡ true
    back a =
        rw (
          sides_pass L.layout.bw L.layout.bh N.layout.bw N.layout.bh a.sides,
          (same_iff L.layout.kinds N.layout.kinds).1 a.kinds,
          (same_iff L.layout.hf_mul N.layout.hf_mul).1 a.hf_mul,
          (same_iff L.sigma N.sigma).1 a.sigma,
        )

-- turned round
pub lent_turned : (L N : FilteredLayout) → LentAlike L N → LentAlike N L
lent_turned L N a = record { sides = go a.sides; kinds = sym a.kinds; hf_mul = sym a.hf_mul; sigma = sym a.sigma }
  where
    go : SidesAlike L.layout.bw L.layout.bh N.layout.bw N.layout.bh → SidesAlike N.layout.bw N.layout.bh L.layout.bw L.layout.bh
    go (inl p) = inl (p.1, p.0)
    go (inr p) = inr (sym p.0, sym p.1)
