-- A column by itself at a block: what it asks for, and one law for each way out of its checks.
use Rattle.std.specs.Prelude.{◌≡◌, ℕ, ◌+◌, ◌%◌, ◌^◌, ◌<◌, ◌≤◌, ◌≢◌, true, false, nat_le, nat_lt, Result, Ok, Err, IsErrAnd, MatchResult}
use Rattle.std.proofs.Common.{ap, sym, subst, arith}
use borrow.Author.Tests.{lt-ltb, le-ltb, le-leb, lt-leb, leb-true, ltb-true}
use Rattle.laws.specs.laws.Cases.{and-true}
use Rattle.refusal.specs.declared.Refusal.{Refusal}
use Rattle.refusal.specs.declared.Said.{Said}
use Rattle.refusal.specs.Said.{said_at, said}
use Rattle.refusal.specs.Answer.{gives, refuses, answered}
use Rattle.refusal.specs.laws.Answer.{pass, worked}
use Rattle.dct_select.specs.Transforms.{COUNT, wide, high}
use Rattle.dct_select.specs.declared.TransformType.{TransformType}
use Rattle.dct_select.specs.LookUp.{look_up}
use Rattle.dct_select.specs.laws.LookUp.{unknown_is}
use Rattle.dct_select.specs.laws.Sides.{wide_most_lem, high_most_lem}
use Rattle.layout_column.specs.declared.JudgedColumn.{JudgedColumn}
use Rattle.layout_column.specs.Columns.{positive, column_checks}
use Rattle.layout_column.specs.laws.Judged.{judged_column, judged_of, Fitting}

-- a number looked up, the refusal being told anew: what was found stands for the number, and nothing is found from 27 on
module _ (t : ℕ) (m : Result TransformType Refusal) (P : Refusal → Refusal → Type 0) where
  pub found : (r : Result TransformType Refusal) (k : TransformType) → answered r ≡ look_up t → MatchResult r (λ v. m ≡ Ok v) (λ e. IsErrAnd m (P e)) → m ≡ Ok k
      → look_up t ≡ gives k
  found (Ok v) k a b e = cc
  found (Err w) k a b e = absurd (subst (λ (z : Result TransformType Refusal). IsErrAnd z (P w)) e b)

  pub not_found : (r : Result TransformType Refusal) (w : Refusal) → answered r ≡ look_up t → MatchResult r (λ v. m ≡ Ok v) (λ e. IsErrAnd m (P e)) → m ≡ Err w
      → 27 ≤ t
  not_found (Ok v) w a b e = absurd (let z : ◌≡◌ {A = ℕ} 0 1 = cc in omega arith)
  not_found (Err v) w a b e = unknown_is t (said v) (sym a)

module _ (t h x y : ℕ) where
  pub judged_unknown : 27 ≤ t → refuses (said_at 5 x y) ≡ judged_of t h x y
  unfolding judged_of
  judged_unknown a = rw (le-ltb t 27 a)

  module _ (a : t < 27) where
    pub judged_hf_mul : positive h ≡ false → refuses (said_at 6 x y) ≡ judged_of t h x y
    unfolding judged_of
    judged_hf_mul b = rw (lt-ltb t 27 a, b)

    module _ (b : positive h ≡ true) where
      pub judged_wide : 32 < x % 32 + wide t → refuses (said_at 7 x y) ≡ judged_of t h x y
      unfolding judged_of
      judged_wide d = rw (lt-ltb t 27 a, b, lt-leb (x % 32 + wide t) 32 d)

      pub judged_high : x % 32 + wide t ≤ 32 → 32 < y % 32 + high t → refuses (said_at 7 x y) ≡ judged_of t h x y
      unfolding judged_of
      judged_high d e =
          rw (lt-ltb t 27 a, b, le-leb (x % 32 + wide t) 32 d, lt-leb (y % 32 + high t) 32 e)

      pub judged_asks : (g w n : ℕ) → g ≡ h → w ≡ wide t → n ≡ high t → x % 32 + w ≤ 32 → y % 32 + n ≤ 32
          → gives (record { kind = 2 + t; hf_mul = g; wide = w; high = n }) ≡ judged_of t h x y
      unfolding judged_of
      judged_asks g w n p q r d e =
          rw (lt-ltb t 27 a, b, p, q, r, le-leb (x % 32 + wide t) 32 (rw q at d), le-leb (y % 32 + high t) 32 (rw r at e))

pub fitting : (t h x y : ℕ) (u : Unit) → column_checks t h x y ≡ gives u → Fitting t h x y
fitting t h x y u e =
    let p1 = pass 5 (nat_lt t COUNT) _ u e in
    let p2 = pass 6 (positive h) _ u p1.1 in
    let p3 = pass 7 (nat_le (x % 32 + wide t) 32) _ u p2.1 in
    let p4 = pass 7 (nat_le (y % 32 + high t) 32) _ u p3.1 in
    let p5 = and-true (nat_le 1 h) (nat_lt h (2 ^ 31)) p2.0 in
    record {
      known = ltb-true t 27 p1.0;
      positive = leb-true 1 h p5.0;
      signed = ltb-true h (2 ^ 31) p5.1;
      square_x = leb-true (x % 32 + wide t) 32 p3.0;
      square_y = leb-true (y % 32 + high t) 32 p4.0;
    }

refused_not : (s : Said) (v : JudgedColumn) → refuses s ≢ gives v
refused_not s v e = let z : ◌≡◌ {A = ℕ} 0 1 = cc in omega arith

asked : (v u : JudgedColumn) → gives v ≡ gives u → v ≡ u
asked v u e = cc

-- what a column asks for has at most 32 blocks each way, and an hf_mul above 0
pub asks_most : (t h x y : ℕ) (v : JudgedColumn) → judged_of t h x y ≡ gives v → (v.wide ≤ 32) × (v.high ≤ 32) × (1 ≤ v.hf_mul)
unfolding judged_of
asks_most t h x y v e =
    let w = worked (column_checks t h x y) (λ (s : Said). refuses (said_at s.number x y)) (λ (u : Unit). gives (judged_column t h)) (gives v) (λ s f. refused_not _ v f) e in
    let f = fitting t h x y w.0 w.1 in
    let q = asked (judged_column t h) v w.2 in
    let a = wide_most_lem t f.known in
    let b = high_most_lem t f.known in
    let w : wide t ≡ v.wide = ap (λ (u : JudgedColumn). u.wide) q in
    let n : high t ≡ v.high = ap (λ (u : JudgedColumn). u.high) q in
    let m : h ≡ v.hf_mul = ap (λ (u : JudgedColumn). u.hf_mul) q in
    let s = f.positive in
    (omega arith, omega arith, omega arith)
