-- Laws: what the likeness test promises (document 01, Layout, "Added by us"; document 02, No. 12).
use Rattle.std.proofs.Math.Path.{◌≡◌, refl, ap}
use Rattle.std.proofs.Common.{sym, ◌∙◌, inl, inr, arith, eqb-true, eq-eqb}
use Rattle.std.specs.Prelude.{Bool, ◌&&◌, ◌↔◌, ◌⊎◌, ℕ, ◌*◌, length}
use Rattle.std.proofs.Math.Bool.{true, false, and_comm}
use Rattle.std.proofs.lemmas.Bool.{false≢true}
use Rattle.std.specs.Float.Ieee.Bits.{is_true}
use Rattle.laws.specs.laws.Cases.{and-true}
use Rattle.laws.specs.laws.Tables.{at_each, each_every, some_fails}
use Rattle.refusal.specs.Said.{said_at}
use Rattle.refusal.specs.Answer.{gives, refuses, unless}
use Rattle.refusal.specs.laws.Answer.{pass, refused_with, refused_later}
use Rattle.layout.specs.Empty.{Empty}
use Rattle.layout.proofs.laws.Empty.{no_blocks, no_varblock}
use Rattle.layout.proofs.laws.Theorems.{layout_iff}
use Rattle.lent_sides.specs.Limits.{Sided, lengths_fit}
use Rattle.lent_sides.specs.laws.Limits.{in_limits_lem, lengths_fit_lem, fit_lengths, limits_in}
use Rattle.lent_lists.specs.Finite.{finite_pattern, all_finite}
use Rattle.lent_likeness.specs.Like.{FilteredLayout, SameVarblocks, Alike, SameRectangles}
use Rattle.lent_likeness.specs.Calls.{sided, strengths_finite, all_lengths_fit, holds_layout, alike, like_of}
use Rattle.lent_likeness.specs.Theorems.{Sound, NotFinite}
use Rattle.lent_likeness.proofs.laws.Like.{none_equal, same_empty, same_lent, same_rectangles}
use Rattle.lent_likeness.specs.laws.LikeSteps.{SidesAlike, LentAlike}
use Rattle.lent_likeness.proofs.laws.LikeSteps.{alike_lent, lent_turned}

-- a lent layout that no check refuses passes them all, and the other way round
module _ (L : FilteredLayout) where
  sound : sided L ≡ true → strengths_finite L ≡ true → all_lengths_fit L ≡ true → holds_layout L ≡ true → Sound L
  sound a f b c =
      let p = and-true (lengths_fit L.layout.bw L.layout.bh (length L.layout.kinds) (length L.layout.hf_mul)) _ b in
      let l = lengths_fit_lem L.layout.bw L.layout.bh (length L.layout.kinds) (length L.layout.hf_mul) p.0 in
      record {
        sides = in_limits_lem 256 L.layout.bw L.layout.bh a;
        layout = (layout_iff L.layout.bw L.layout.bh L.layout.kinds L.layout.hf_mul l.0 l.1).0 c;
        sigma_length = eqb-true (length L.sigma) (L.layout.bh * L.layout.bw) p.1;
        finite = at_each finite_pattern L.sigma (rw f tt) 0;
      }

  module _ (s : Sound L) where
    sound_sided : sided L ≡ true
    sound_sided = limits_in 256 L.layout.bw L.layout.bh s.sides

    sound_finite : strengths_finite L ≡ true
    sound_finite = is_true (all_finite L.sigma) (each_every finite_pattern L.sigma 0 s.finite)

    sound_lengths : all_lengths_fit L ≡ true
    sound_lengths =
        rw (
          fit_lengths L.layout.bw L.layout.bh (length L.layout.kinds) (length L.layout.hf_mul) s.layout.kinds_length s.layout.hf_mul_length,
          eq-eqb (length L.sigma) (L.layout.bh * L.layout.bw) s.sigma_length,
        )

    sound_layout : holds_layout L ≡ true
    sound_layout = (layout_iff L.layout.bw L.layout.bh L.layout.kinds L.layout.hf_mul s.layout.kinds_length s.layout.hf_mul_length).1 s.layout

  -- not all finite: one of them is not
  one_not_finite : strengths_finite L ≡ false → NotFinite L
  one_not_finite e = let s = some_fails finite_pattern L.sigma 0 e in record { place = s.0; lent = s.1; not_finite = s.2 }

  not_finite_lem : NotFinite L → strengths_finite L ≡ false
  not_finite_lem n = go (strengths_finite L) refl
    where
      go : (b : Bool) → strengths_finite L ≡ b → b ≡ false
      go true e = absurd (let t = at_each finite_pattern L.sigma (rw e tt) 0 n.place n.lent in rw n.not_finite at t)
      go false e = refl

module _ (L N : FilteredLayout) where
  tests : (r : Bool) → like_of L N ≡ gives r → Sound L × Sound N × (alike L N ≡ r)
  unfolding like_of
  tests r e =
      let a = pass 2 (sided L && sided N) _ r e in
      let f = pass 11 (strengths_finite L && strengths_finite N) _ r a.1 in
      let b = pass 1 (all_lengths_fit L && all_lengths_fit N) _ r f.1 in
      let c = pass 18 (holds_layout L && holds_layout N) (gives (alike L N)) r b.1 in
      let p = and-true (sided L) (sided N) a.0 in
      let g = and-true (strengths_finite L) (strengths_finite N) f.0 in
      let q = and-true (all_lengths_fit L) (all_lengths_fit N) b.0 in
      let s = and-true (holds_layout L) (holds_layout N) c.0 in
      (sound L p.0 g.0 q.0 s.0, sound N p.1 g.1 q.1 s.1, (let d = c.1 in cc))

  says : (r : Bool) → Sound L → Sound N → alike L N ≡ r → like_of L N ≡ gives r
  unfolding like_of
  says r s t e =
      rw (
        sound_sided L s,
        sound_sided N t,
        sound_finite L s,
        sound_finite N t,
        sound_lengths L s,
        sound_lengths N t,
        sound_layout L s,
        sound_layout N t,
        e,
      )

  -- the test decides likeness
  same_alike : Sound L → Sound N → Alike L N → alike L N ≡ true
  same_alike s t a =
      let e = same_lent L.layout N.layout s.layout t.layout a.varblocks in
      (alike_lent L N).1 (record { sides = e.0; kinds = e.1; hf_mul = e.2; sigma = a.sigma })

  alike_same : alike L N ≡ true → Alike L N
  unfolding SameVarblocks
  alike_same e = let a = (alike_lent L N).0 e in record { varblocks = go a a.sides; sigma = a.sigma }
    where
      go : LentAlike L N → SidesAlike L.layout.bw L.layout.bh N.layout.bw N.layout.bh → SameVarblocks L.layout N.layout
      go a (inl p) v = ((λ h. absurd (no_varblock L.layout p.0 v h)), (λ h. absurd (no_varblock N.layout p.1 v h)))
      go a (inr p) v = rw (p.0, p.1, a.kinds, a.hf_mul) ((λ h. h), (λ h. h))

  pub like_yes : (like_of L N ≡ gives true) ↔ (Sound L × Sound N × Alike L N)
  like_yes = (λ e. let t = tests true e in (t.0, t.1, alike_same t.2), λ t. says true t.0 t.1 (same_alike t.0 t.1 t.2))

  pub like_no : (like_of L N ≡ gives false) ↔ (Sound L × Sound N × (Alike L N → ⊥))
  like_no = (there, λ t. says false t.0 t.1 (not_alike (alike L N) refl t.2))
    where
      there : like_of L N ≡ gives false → Sound L × Sound N × (Alike L N → ⊥)
      there e = let t = tests false e in (t.0, t.1, λ a. false≢true (sym t.2 ∙ same_alike t.0 t.1 a))

      not_alike : (b : Bool) → alike L N ≡ b → (Alike L N → ⊥) → alike L N ≡ false
      not_alike true e n = absurd (n (alike_same e))
      not_alike false e n = e

  -- sound layouts are not refused
  pub like_answers : Sound L → Sound N → (r : Bool) × (like_of L N ≡ gives r)
  like_answers s t = (alike L N, says (alike L N) s t refl)

  -- whatever is alike now was alike before No. 12
  pub like_before : like_of L N ≡ gives true → SameRectangles L.layout N.layout
  like_before e = same_rectangles L.layout N.layout (like_yes.0 e).2.varblocks

  alike_turned : alike L N ≡ alike N L
  alike_turned = go (alike L N) (alike N L) refl refl
    where
      go : (p q : Bool) → alike L N ≡ p → alike N L ≡ q → p ≡ q
      go true true e f = refl
      go false false e f = refl
      go true false e f = absurd (false≢true (sym f ∙ (alike_lent N L).1 (lent_turned L N ((alike_lent L N).0 e))))
      go false true e f = absurd (false≢true (sym e ∙ (alike_lent L N).1 (lent_turned N L ((alike_lent N L).0 f))))

  -- turned round it answers the same, refusals too
  pub like_turned : like_of L N ≡ like_of N L
  unfolding like_of
  like_turned =
      rw (
        and_comm (sided L) (sided N),
        and_comm (strengths_finite L) (strengths_finite N),
        and_comm (all_lengths_fit L) (all_lengths_fit N),
        and_comm (holds_layout L) (holds_layout N),
        alike_turned,
      )

-- 11 exactly if the sides are within the limits and one of the sigma that either is lent is not finite
module _ (L N : FilteredLayout) where
  which : strengths_finite L && strengths_finite N ≡ false → NotFinite L ⊎ NotFinite N
  which e = go (strengths_finite L) refl e
    where
      go : (b : Bool) → strengths_finite L ≡ b → b && strengths_finite N ≡ false → NotFinite L ⊎ NotFinite N
      go true a f = inr (one_not_finite N f)
      go false a f = inl (one_not_finite L a)

  both_not : NotFinite L ⊎ NotFinite N → strengths_finite L && strengths_finite N ≡ false
  both_not (inl n) = rw (not_finite_lem L n)
  both_not (inr n) = and_comm (strengths_finite L) (strengths_finite N) ∙ rw (not_finite_lem N n)

  pub like_float_refused : (like_of L N ≡ refuses (said_at 11 0 0)) ↔ (Sided 256 L.layout.bw L.layout.bh × Sided 256 N.layout.bw N.layout.bh × (NotFinite L ⊎ NotFinite N))
  unfolding like_of
  like_float_refused = (there, back)
    where
      there : like_of L N ≡ refuses (said_at 11 0 0) → Sided 256 L.layout.bw L.layout.bh × Sided 256 N.layout.bw N.layout.bh × (NotFinite L ⊎ NotFinite N)
      there e =
          let a = refused_later 2 (sided L && sided N) _ (said_at 11 0 0) (λ z. omega arith) e in
          let p = and-true (sided L) (sided N) a.0 in
          (in_limits_lem 256 L.layout.bw L.layout.bh p.0, in_limits_lem 256 N.layout.bw N.layout.bh p.1, which (go (strengths_finite L && strengths_finite N) a.1))
        where
          go : (f : Bool) → unless 11 f (unless 1 (all_lengths_fit L && all_lengths_fit N) (unless 18 (holds_layout L && holds_layout N) (gives (alike L N)))) ≡ refuses (said_at 11 0 0) → f ≡ false
          go false e = refl
          go true e =
              let b = refused_later 1 (all_lengths_fit L && all_lengths_fit N) _ (said_at 11 0 0) (λ z. omega arith) e in
              let c = refused_later 18 (holds_layout L && holds_layout N) (gives (alike L N)) (said_at 11 0 0) (λ z. omega arith) b.1 in
              absurd (let z : ◌≡◌ {A = ℕ} 0 11 = ap refused_with c.1 in omega arith)

      back : Sided 256 L.layout.bw L.layout.bh × Sided 256 N.layout.bw N.layout.bh × (NotFinite L ⊎ NotFinite N) → like_of L N ≡ refuses (said_at 11 0 0)
      back t = rw (limits_in 256 L.layout.bw L.layout.bh t.0, limits_in 256 N.layout.bw N.layout.bh t.1, both_not t.2)

pub like_itself : (L : FilteredLayout) → Sound L → like_of L L ≡ gives true
unfolding SameVarblocks
like_itself L s = (like_yes L L).1 (s, s, record { varblocks = λ v. ((λ h. h), (λ h. h)); sigma = refl })

pub like_joined : (L N O : FilteredLayout) → like_of L N ≡ gives true → like_of N O ≡ gives true → like_of L O ≡ gives true
unfolding SameVarblocks
like_joined L N O e f =
    let t = (like_yes L N).0 e in
    let u = (like_yes N O).0 f in
    let a = t.2 in let b = u.2 in
    (like_yes L O).1 (t.0, u.1, record { varblocks = λ v. ((λ h. (b.varblocks v).0 ((a.varblocks v).0 h)), (λ h. (a.varblocks v).1 ((b.varblocks v).1 h))); sigma = a.sigma ∙ b.sigma })

-- Layouts without blocks: alike whatever their sides, and like no other (document 02, No. 2).
module _ (L N : FilteredLayout) (s : Sound L) (t : Sound N) (e : Empty L.layout.bw L.layout.bh) where
  pub empty_alike : Empty N.layout.bw N.layout.bh → like_of L N ≡ gives true
  unfolding SameVarblocks
  empty_alike f =
      (like_yes L N).1 (
        s,
        t,
        record {
          varblocks = λ v. ((λ h. absurd (no_varblock L.layout e v h)), (λ h. absurd (no_varblock N.layout f v h)));
          sigma = none_equal L.sigma N.sigma (s.sigma_length ∙ no_blocks L.layout.bw L.layout.bh e) (t.sigma_length ∙ no_blocks N.layout.bw N.layout.bh f);
        },
      )

  pub empty_unlike : (Empty N.layout.bw N.layout.bh → ⊥) → like_of L N ≡ gives false
  empty_unlike n = (like_no L N).1 (s, t, λ a. n (same_empty L.layout N.layout s.layout t.layout a.varblocks e))
