-- Laws on transforms looked up by number (document 01, Transform).
use Rattle.std.specs.Prelude.{◌≡◌, ◌⊎◌, ℕ, ◌≤◌, ◌<◌, eqb}
use Rattle.std.proofs.Common.{ap, sym, ◌∙◌, inl, inr, arith, eqb→eq}
use Rattle.std.proofs.Math.ListN.{get_or-eq_default}
use Rattle.laws.specs.laws.Cases.{le_or_lt}
use Rattle.refusal.specs.declared.Said.{Said}
use Rattle.refusal.specs.Said.{said_at}
use Rattle.refusal.specs.Answer.{Answer, gives, refuses}
use Rattle.dct_select.specs.declared.Sides.{Sides}
use Rattle.dct_select.specs.declared.Carried.{Carried}
use Rattle.dct_select.specs.declared.TransformType.{TransformType}
use Rattle.dct_select.specs.Transforms.{wide, high, order_of, turns}
use Rattle.dct_select.specs.LookUp.{number_of, known, look_up, size_of}
use Rattle.dct_select.specs.laws.Rules.{below_27}
use Rattle.dct_select.specs.laws.Sides.{wide_most_lem, high_most_lem}

-- what the code's table holds for a number
abbrev pub carried_by : ℕ → Carried
carried_by t = (wide t, high t, order_of t, turns t)

-- the number of what was found, and 27 for none
abbrev pub number_in : Answer TransformType → ℕ
number_in (gives k) = number_of k
number_in (refuses r) = 27

pub number_at : (t : ℕ) → t < 27 → number_in (look_up t) ≡ t
number_at t h = eqb→eq (number_in (look_up t)) t (below_27 (λ (t : ℕ). eqb (number_in (look_up t)) t) tt t h)

pub none_at : (t : ℕ) → 27 ≤ t → look_up t ≡ refuses (said_at 5 0 0)
none_at t h = get_or-eq_default known (refuses (said_at 5 0 0)) {n = t} h

pub known_is : (t : ℕ) (k : TransformType) → look_up t ≡ gives k → (t < 27) × (number_of k ≡ t)
known_is t k e = go (le_or_lt 27 t)
  where
    go : (27 ≤ t) ⊎ (t < 27) → (t < 27) × (number_of k ≡ t)
    go (inl h) = absurd (let f = none_at t h in let z : ◌≡◌ {A = ℕ} 0 1 = cc in omega arith)
    go (inr h) = (h, ap number_in (sym e) ∙ number_at t h)

pub unknown_is : (t : ℕ) (r : Said) → look_up t ≡ refuses r → 27 ≤ t
unknown_is t r e = go (le_or_lt 27 t)
  where
    go : (27 ≤ t) ⊎ (t < 27) → 27 ≤ t
    go (inl h) = h
    go (inr h) = absurd (let f = ap number_in (sym e) ∙ number_at t h in omega arith)

-- the sides that were looked up
pub record Sized (t : ℕ) (s : Sides) : Type 0 where
  pub below : t < 27
  pub wide_is : s.wide ≡ wide t
  pub high_is : s.high ≡ high t
  pub wide_most : s.wide ≤ 32
  pub high_most : s.high ≤ 32

pub sized : (t : ℕ) (k : TransformType) (s : Sides) → look_up t ≡ gives k → s ≡ size_of k → Sized t s
sized t k s e f =
    let n = known_is t k e in
    let w : s.wide ≡ wide t = ap (λ (r : Sides). r.wide) f ∙ ap wide n.1 in
    let h : s.high ≡ high t = ap (λ (r : Sides). r.high) f ∙ ap high n.1 in
    let a = wide_most_lem t n.0 in
    let b = high_most_lem t n.0 in
    record { below = n.0; wide_is = w; high_is = h; wide_most = omega arith; high_most = omega arith }
