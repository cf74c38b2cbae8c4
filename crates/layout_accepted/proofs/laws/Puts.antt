-- A column that was placed: what it is, and what its varblock changes.
use Rattle.std.specs.Prelude.{◌≡◌, ◌⊎◌, List, ltb, set}
use Rattle.std.proofs.Math.Path.{refl, ap}
use Rattle.std.proofs.Common.{sym, ◌∙◌, inl, inr}
use Prim.Native.Nat.{ℕ, ◌+◌, ◌*◌, ◌-◌, ◌<◌}
use native.Mathlib.Omega.{arith}
use Rattle.std.proofs.Math.ListN.{length, length-set}
use borrow.Author.Tests.{ltb-true}
use Rattle.laws.specs.laws.Cases.{eq_or_ne}
use Rattle.refusal.specs.declared.Said.{Said}
use Rattle.refusal.specs.laws.Answer.{pass, worked}
use Rattle.dct_select.specs.Transforms.{wide, high}
use Rattle.dct_select.specs.laws.Sides.{wide_some, high_some}
use Rattle.layout.specs.laws.Stretch.{Place, left, inside, right}
use Rattle.layout.proofs.laws.Stretch.{place}
use Rattle.layout.specs.Grid.{block_at}
use Rattle.layout.proofs.laws.Grid.{set_same, set_other}
use Rattle.layout.specs.laws.Order.{Here}
use Rattle.layout_filter.specs.Strength.{divided_by}
use Rattle.layout_column.specs.laws.Judged.{Fitting}
use Rattle.layout_column.proofs.laws.Judged.{fitting}
use Rattle.layout_placing.specs.Scan.{Scan, Taking, Left, scan}
use Rattle.layout_placing.specs.Reading.{Job, Placed, Going, stop_at, placed, place_in, next_type, next_hf_mul, next_checks, column}
use Rattle.layout_placing.specs.Reading as reading
use Rattle.layout_accepted.specs.laws.Took.{InRect, Took}
use Rattle.layout_accepted.proofs.laws.Took.{took}
use Rattle.layout_accepted.specs.laws.Puts.{Column, Spot, body, corner, beyond}

pub spot : (x y w h a b : ℕ) → Spot x y w h a b
spot x y w h a b = go (place x w a) (place y h b) (eq_or_ne a x) (eq_or_ne b y)
  where
    go : Place x w a → Place y h b → (a ≡ x) ⊎ (a ≡ x → ⊥) → (b ≡ y) ⊎ (b ≡ y → ⊥) → Spot x y w h a b
    go (left p) q e f = beyond (λ m. omega arith)
    go (right p) q e f = beyond (λ m. omega arith)
    go (inside p p') (left q) e f = beyond (λ m. omega arith)
    go (inside p p') (right q) e f = beyond (λ m. omega arith)
    go (inside p p') (inside q q') (inl e) (inl f) = corner (e, f)
    go (inside p p') (inside q q') (inl e) (inr f) = body (λ m. f m.1) (p, p', q, q')
    go (inside p p') (inside q q') (inr e) f = body (λ m. e m.0) (p, p', q, q')

module _ (J : Job) (x y : ℕ) (p q : Placed) (lk : length p.kinds ≡ J.bh * J.bw) (lm : length p.hf_mul ≡ J.bh * J.bw) (hx : x < J.bw) (hy : y < J.bh) where
  -- after the scan
  module _ (t h : ℕ) (fits : Fitting t h x y) where
    a : t < 27
    a = fits.known

    scanned : Scan
    scanned = scan J.bw J.bh (divided_by J.filter h) J.lookups J.sharpness x y (wide t) (high t) (Taking p.kinds p.sigma)

    put : (k s : List ℕ) → scanned ≡ Taking k s
        → q ≡ record { used = p.used + 1; kinds = set k (y * J.bw + x) (2 + t); hf_mul = set p.hf_mul (y * J.bw + x) h; sigma = s } → Column J x y p q t h
    unfolding scanned
    put k s f g = record {
      fits = fits;
      in_x = let z = w.in_x (x + (wide t - 1)) y (let m = wide_some t a in let n = high_some t a in (omega arith, omega arith, omega arith, omega arith)) in let m = wide_some t a in omega arith;
      in_y = let z = w.in_y x (y + (high t - 1)) (let m = wide_some t a in let n = high_some t a in (omega arith, omega arith, omega arith, omega arith)) in let m = high_some t a in omega arith;
      free = w.free;
      puts = record {
        at_corner = kinds_at x y ∙ set_same k J.bw J.bh x y (2 + t) l hx hy;
        in_body = λ i j n m. kinds_at i j ∙ set_other k J.bw x y (2 + t) i j hx (w.in_x i j m) n ∙ w.taken i j m;
        elsewhere = λ i j r n. kinds_at i j ∙ set_other k J.bw x y (2 + t) i j hx r (λ m. n (itself i j m)) ∙ w.kept i j r n;
        hf_mul_corner = hf_mul_at x y ∙ set_same p.hf_mul J.bw J.bh x y h lm hx hy;
        hf_mul_other = λ i j r n. hf_mul_at i j ∙ set_other p.hf_mul J.bw x y h i j hx r n;
      };
      length_k = ap (λ (o : Placed). length o.kinds) g ∙ length-set k (y * J.bw + x) (2 + t) ∙ l;
      length_m = ap (λ (o : Placed). length o.hf_mul) g ∙ length-set p.hf_mul (y * J.bw + x) h ∙ lm;
      used_is = ap (λ (o : Placed). o.used) g;
      taken = k;
      scan_is = f ∙ ap (λ (o : Placed). Taking k o.sigma) (sym g);
    }
      where
        both : Took J.bw J.bh (block_at p.kinds J.bw) (block_at k J.bw) x y (wide t) (high t) × (length k ≡ J.bh * J.bw)
        both = took J.bw J.bh (divided_by J.filter h) J.lookups J.sharpness x y (wide t) (high t) p.kinds p.sigma s k lk f

        w : Took J.bw J.bh (block_at p.kinds J.bw) (block_at k J.bw) x y (wide t) (high t)
        w = both.0

        l : length k ≡ J.bh * J.bw
        l = both.1

        kinds_at : (i j : ℕ) → block_at q.kinds J.bw i j ≡ block_at (set k (y * J.bw + x) (2 + t)) J.bw i j
        kinds_at i j = ap (λ (o : Placed). block_at o.kinds J.bw i j) g

        hf_mul_at : (i j : ℕ) → block_at q.hf_mul J.bw i j ≡ block_at (set p.hf_mul (y * J.bw + x) h) J.bw i j
        hf_mul_at i j = ap (λ (o : Placed). block_at o.hf_mul J.bw i j) g

        itself : (i j : ℕ) → Here x y i j → InRect x y (wide t) (high t) i j
        itself i j m = let u = wide_some t a in let v = high_some t a in (omega arith, omega arith, omega arith, omega arith)

    put_by : place_in J (2 + t) h (wide t) (high t) x y p ≡ Going q → Column J x y p q t h
    unfolding reading.place scanned
    put_by f = go scanned refl f
      where
        going : (u v : Placed) → Going u ≡ Going v → u ≡ v
        going u v i = cc

        go : (s : Scan) → scanned ≡ s → placed J.bw (2 + t) h x y p s ≡ Going q → Column J x y p q t h
        go (Left n i j) g i' = absurd (let z : ◌≡◌ {A = ℕ} 0 1 = cc in omega arith)
        go (Taking k s) g i' = put k s g (sym (going _ q i'))

  pub column_put : column J x y p ≡ Going q → Column J x y p q (next_type J p) (next_hf_mul J p) × (p.used < length J.types)
  unfolding column
  column_put e =
      let w = worked (next_checks J x y p) (λ (s : Said). stop_at s.number x y p) (λ (u : Unit). place_in J (2 + t) h (wide t) (high t) x y p) (Going q) stopped e in
      let f = pass 4 (ltb p.used (length J.types)) _ w.0 w.1 in
      (put_by t h (fitting t h x y w.0 f.1) w.2, ltb-true p.used (length J.types) f.0)
    where
      t : ℕ
      t = next_type J p

      h : ℕ
      h = next_hf_mul J p

      stopped : (s : Said) → stop_at s.number x y p ≡ Going q → ⊥
      stopped s e = let z : ◌≡◌ {A = ℕ} 0 1 = cc in omega arith
