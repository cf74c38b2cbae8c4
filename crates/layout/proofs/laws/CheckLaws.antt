-- The check with room for more columns, what one cell of it tells, and when it passes.
use Rattle.std.specs.Prelude.{◌≡◌, Bool, ◌&&◌, cond, ◌⊎◌, List, ℕ, zero, suc, ◌+◌, ◌^◌, ◌%◌, ◌≤◌, ◌<◌, leb, get_or}
use Rattle.std.proofs.Math.Path.{refl}
use Rattle.std.proofs.Math.Bool.{true, false}
use Rattle.std.proofs.Common.{inl, inr, arith}
use Rattle.std.proofs.Math.Dec.{ltb, eqb}
use borrow.Author.Tests.{ltb-true, ltb-false, leb-true, eqb-true, lt-ltb, le-ltb, le-leb, lt-leb, eq-eqb, ne_eqb}
use Rattle.layout.specs.Kinds.{wide_of, high_of}
use Rattle.laws.specs.laws.Cases.{eq_or_ne, and-true}
use Rattle.laws.specs.Lists.{fill_from}
use Rattle.layout.specs.Valid.{Fits}
use Rattle.layout.specs.Check.{Covering, Fault, Until, clear, fitting, visit_cell}
use Rattle.layout.specs.laws.CheckLaws.{Passed, opened, covered}

pub clear_each : (u : List ℕ) (y x n : ℕ) → clear u y x n ≡ true → (i : ℕ) → x ≤ i → i < x + n → get_or u i 0 ≤ y
unfolding clear
clear_each u y x zero e i a b = absurd (omega arith)
clear_each u y x (suc n) e i a b =
    let p = and-true (leb (get_or u x 0) y) (clear u y (x + 1) n) e in
    go (leb-true (get_or u x 0) y p.0) (λ h. clear_each u y (x + 1) n p.1 i h (omega arith)) (eq_or_ne i x)
  where
    go : get_or u x 0 ≤ y → (x + 1 ≤ i → get_or u i 0 ≤ y) → (i ≡ x) ⊎ (i ≡ x → ⊥) → get_or u i 0 ≤ y
    go h r (inl q) = rw q h
    go h r (inr q) = r (omega arith)

pub each_clear : (u : List ℕ) (y x n : ℕ) → ((i : ℕ) → x ≤ i → i < x + n → get_or u i 0 ≤ y) → clear u y x n ≡ true
unfolding clear
each_clear u y x zero f = refl
each_clear u y x (suc n) f =
    rw (le-leb (get_or u x 0) y (f x (omega arith) (omega arith))) (each_clear u y (x + 1) n (λ i a b. f i (omega arith) (omega arith)))

pub fitting_fits : (bw bh x y k m : ℕ) → fitting bw bh x y k m ≡ true → Fits bw bh x y k m
unfolding fitting
fitting_fits bw bh x y k m e =
    let p1 = and-true _ (ltb m (2 ^ 31)) e in
    let p2 = and-true _ (leb 1 m) p1.0 in
    let p3 = and-true _ (leb (y % 32 + high_of k) 32) p2.0 in
    let p4 = and-true _ (leb (x % 32 + wide_of k) 32) p3.0 in
    let p5 = and-true _ (leb (y + high_of k) bh) p4.0 in
    let p6 = and-true (leb k 28) (leb (x + wide_of k) bw) p5.0 in
    record {
      known = leb-true k 28 p6.0;
      in_x = leb-true (x + wide_of k) bw p6.1;
      in_y = leb-true (y + high_of k) bh p5.1;
      square_x = leb-true (x % 32 + wide_of k) 32 p4.1;
      square_y = leb-true (y % 32 + high_of k) 32 p3.1;
      positive = leb-true 1 m p2.1;
      signed = ltb-true m (2 ^ 31) p1.1;
    }

pub fits_fitting : (bw bh x y k m : ℕ) → Fits bw bh x y k m → fitting bw bh x y k m ≡ true
unfolding fitting
fits_fitting bw bh x y k m f =
    rw (le-leb k 28 f.known, le-leb (x + wide_of k) bw f.in_x, le-leb (y + high_of k) bh f.in_y, le-leb (x % 32 + wide_of k) 32 f.square_x, le-leb (y % 32 + high_of k) 32 f.square_y, le-leb 1 m f.positive, lt-ltb m (2 ^ 31) f.signed)

-- by cases on how a cell passes, where a bad end proves nothing
module _ (bw bh k m x y : ℕ) (u : List ℕ) (P : Covering → Type 0) (Q : Type 0) (bad : P Fault → Q)
    (good : (u' : List ℕ) → Passed bw bh k m x y u u' → P (Until u') → Q) where
  pub visit_cases : P (visit_cell bw bh k m x y u) → Q
  unfolding visit_cell
  visit_cases = go (ltb y (get_or u x 0)) refl
    where
      inner : (b : Bool) → eqb k 1 && eqb m 0 ≡ b → ltb y (get_or u x 0) ≡ true → P (cond b (Until u) Fault) → Q
      inner true e h p = let q = and-true (eqb k 1) (eqb m 0) e in good u (covered (ltb-true y (get_or u x 0) h) (eqb-true k 1 q.0) (eqb-true m 0 q.1)) p
      inner false e h p = bad p

      outer : (b : Bool) → leb 2 k && (fitting bw bh x y k m && clear u y x (wide_of k)) ≡ b → ltb y (get_or u x 0) ≡ false
          → P (cond b (Until (fill_from u x (wide_of k) (y + high_of k))) Fault) → Q
      outer true e h p =
          let q = and-true (leb 2 k) _ e in
          let r = and-true (fitting bw bh x y k m) _ q.1 in
          good _ (opened (ltb-false y (get_or u x 0) h) (leb-true 2 k q.0) (fitting_fits bw bh x y k m r.0) (clear_each u y x (wide_of k) r.1)) p
      outer false e h p = bad p

      go : (b : Bool) → ltb y (get_or u x 0) ≡ b
          → P (cond b (cond (eqb k 1 && eqb m 0) (Until u) Fault) (cond (leb 2 k && (fitting bw bh x y k m && clear u y x (wide_of k))) (Until (fill_from u x (wide_of k) (y + high_of k))) Fault)) → Q
      go true e p = inner (eqb k 1 && eqb m 0) refl e p
      go false e p = outer (leb 2 k && (fitting bw bh x y k m && clear u y x (wide_of k))) refl e p

pub visit_covered : (bw bh k m x y : ℕ) (u : List ℕ) → y < get_or u x 0 → k ≡ 1 → m ≡ 0 → visit_cell bw bh k m x y u ≡ Until u
unfolding visit_cell
visit_covered bw bh k m x y u h e f = rw (lt-ltb y (get_or u x 0) h, eq-eqb k 1 e, eq-eqb m 0 f)

pub visit_opened : (bw bh k m x y : ℕ) (u : List ℕ) → get_or u x 0 ≤ y → 2 ≤ k → Fits bw bh x y k m → ((i : ℕ) → x ≤ i → i < x + wide_of k → get_or u i 0 ≤ y)
    → visit_cell bw bh k m x y u ≡ Until (fill_from u x (wide_of k) (y + high_of k))
unfolding visit_cell
visit_opened bw bh k m x y u h l f c =
    rw (le-ltb y (get_or u x 0) h, le-leb 2 k l, fits_fitting bw bh x y k m f, each_clear u y x (wide_of k) c)

-- The ends of one cell, for code.
module _ (bw bh k m x y : ℕ) (u : List ℕ) where
  pub visit_not_one : y < get_or u x 0 → (k ≡ 1 → ⊥) → visit_cell bw bh k m x y u ≡ Fault
  unfolding visit_cell
  visit_not_one h n = rw (lt-ltb y (get_or u x 0) h, ne_eqb k 1 n)

  pub visit_one : y < get_or u x 0 → k ≡ 1 → visit_cell bw bh k m x y u ≡ cond (eqb m 0) (Until u) Fault
  unfolding visit_cell
  visit_one h e = rw (lt-ltb y (get_or u x 0) h, eq-eqb k 1 e)

  pub visit_small : get_or u x 0 ≤ y → k < 2 → visit_cell bw bh k m x y u ≡ Fault
  unfolding visit_cell
  visit_small h l = rw (le-ltb y (get_or u x 0) h, lt-leb 2 k l)

  pub visit_unfit : get_or u x 0 ≤ y → 2 ≤ k → fitting bw bh x y k m ≡ false → visit_cell bw bh k m x y u ≡ Fault
  unfolding visit_cell
  visit_unfit h l e = rw (le-ltb y (get_or u x 0) h, le-leb 2 k l, e)

  pub visit_unclear : get_or u x 0 ≤ y → 2 ≤ k → fitting bw bh x y k m ≡ true → clear u y x (wide_of k) ≡ false → visit_cell bw bh k m x y u ≡ Fault
  unfolding visit_cell
  visit_unclear h l e f = rw (le-ltb y (get_or u x 0) h, le-leb 2 k l, e, f)

  pub visit_raised : get_or u x 0 ≤ y → 2 ≤ k → fitting bw bh x y k m ≡ true → clear u y x (wide_of k) ≡ true → visit_cell bw bh k m x y u ≡ Until (fill_from u x (wide_of k) (y + high_of k))
  unfolding visit_cell
  visit_raised h l e f = rw (le-ltb y (get_or u x 0) h, le-leb 2 k l, e, f)
