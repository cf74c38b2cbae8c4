-- Every filter strength under the limits is finite: its size is at most 65,504 × 65,536 × 65,504.
use Rattle.std.specs.Prelude.{◌≡◌, ℕ, ◌*◌, ◌^◌, ◌<◌, ◌≤◌, Bool, true, false, cond, not, ◌&&◌, ◌||◌, T, List, ℤ, pos, ◌==◌, from_bits, nat_le, nat_lt, slice_index_or, Float, Option, Some, None}
use Rattle.std.proofs.Math.Path.{refl, ap}
use Rattle.std.proofs.Common.{sym, ◌∙◌, subst, true≢false, le_of_eq, mul-one, one-mul, mul_comm, mul_assoc, mul-pos, mul-le-mul, zero-mul, lt_of_lt_of_le, arith, ltb→lt, leb→le, eqb→eq, pow_pos, ne_eqb}
use Rattle.std.proofs.Props.{props}
use Rattle.std.proofs.Math.Nat.{le_trans, mul-mul-mul_comm}
use Rattle.std.proofs.Math.Dec.{lit≤}
use Rattle.std.specs.Float.Ieee.{nan, binary32, up, down, round, size, span, climb, units, odd, mul, div, le, lt, eq, of_int, fits, is_nan}
use Rattle.std.specs.Float.{inf, fin}
use Rattle.std.specs.Float.Ieee.Fits.{down_pos, and_l, and_r, round_is, mul-fits}
use Rattle.std.specs.Float.Ieee.Exact.{HasValue, units_val}
use Rattle.std.specs.Float.Ieee.Order.{drop, kept, round_mono, transfer}
use Rattle.std.specs.Float.Ieee.Scale.{grid, overflow, finite, round_val}
use Rattle.std.specs.Float.Ieee.Bits.{is_true, of_bits-to_bits}
use Rattle.std.specs.Int.Count.{count_trailing_zeros}
use Rattle.laws.specs.laws.Tables.{each_at}
use Rattle.layout_filter.specs.declared.Filter.{Filter}
use Rattle.layout_filter.specs.declared.ScaledMultiplier.{ScaledMultiplier}
use Rattle.layout_filter.specs.declared.DividedMultiplier.{DividedMultiplier}
use Rattle.layout_filter.specs.Strength.{two16, nearest, scaled, divided, times_look_up, sigma_of, pattern, scaled_by, divided_by}
use Rattle.layout_filter.specs.declared.Filter.TheVariants.{Off, On}
use Rattle.layout_filter.specs.Limits.{LIMIT, MINUS_LIMIT, in_limits, scale_fits, lookups_fit, params_fit}
use Rattle.layout_filter.specs.Finite.{SIGMA_MOST, Within}
use Rattle.layout_filter.specs.laws.Finite.{SCALED_MOST, ScaledBounded, DividedBounded, DividedBoundedLaw, TimesWithin}

pub within_no_nan : (n : ℕ) (x : Float) → Within n x → T (not (is_nan x))
unfolding Within is_nan
within_no_nan n nan h = absurd h
within_no_nan n (inf s) h = absurd h
within_no_nan n (fin s m e) h = tt

pub within_finite : (n : ℕ) (x : Float) → Within n x → T (finite x)
unfolding Within
within_finite n nan h = absurd h
within_finite n (inf s) h = absurd h
within_finite n (fin s m e) h = tt

-- ---- two values that are not negative, in order
or_le : (a b : ℕ) (t u : Bool) → (T t → a ≤ b) → (T u → a ≤ b) → T (t || u) → a ≤ b
or_le a b true u f g h = f tt
or_le a b false u f g h = g h

at_most : (a b : ℕ) (v : Bool) → T (nat_lt a b || (a == b && v)) → a ≤ b
at_most a b v = or_le a b (nat_lt a b) (a == b && v) (λ (t : T (nat_lt a b)). let l = ltb→lt a b t in omega arith) (λ (t : T (a == b && v)). le_of_eq (eqb→eq a b (and_l (a == b) v t)))

le_cross : (m : ℕ) (e : ℤ) (n : ℕ) (d : ℤ) → T (le (fin false m e) (fin false n d)) → m * up e * down d ≤ n * up d * down e
unfolding le lt eq
le_cross m e n d h = at_most (m * up e * down d) (n * up d * down e) _ h

-- 1 or more in size
unfoldable AtLeast : Float → Type 0
AtLeast nan = ⊥
AtLeast (inf s) = ⊥
AtLeast (fin s m e) = down e ≤ m * up e

some : (n : ℕ) (d : ℤ) → n ≡ 0 → down d ≤ n * up d → ⊥
some n d z h = let p = down_pos d in let q : n * up d ≡ 0 = ap (λ (k : ℕ). k * up d) z ∙ zero-mul (up d) in omega arith

-- ---- rounding stays at or below a whole number n that f32 has, c × 2^j
module _ (n c j : ℕ) (value : c * 2 ^ j ≡ n) (exact : round binary32 false n 1 ≡ fin false c (pos j)) where
  no_overflow : (q k : ℕ) → T (le (units binary32 false q k) (fin false c (pos j))) → q * 2 ^ k < overflow binary32
  unfolding units le lt eq
  no_overflow q k = go (nat_lt (q * 2 ^ k) (overflow binary32)) (ltb→lt (q * 2 ^ k) (overflow binary32))
    where
      go : (b : Bool) → (T b → q * 2 ^ k < overflow binary32) → T (le (cond b (odd 25 false q k 149) (inf false)) (fin false c (pos j))) → q * 2 ^ k < overflow binary32
      go true h t = h tt
      go false h t = absurd t

  grid_most : (x : Float) (g : ℕ) → HasValue x false g (2 ^ 149) → T (le x (fin false c (pos j))) → g * 1 ≤ n * 2 ^ 149
  grid_most nan g v h = absurd v
  grid_most (inf s) g v h = absurd v
  grid_most (fin true m e) g v h = absurd (true≢false v.0)
  grid_most (fin false m e) g v h =
      transfer g n (2 ^ 149) 1 (m * up e) n (down e) 1 (down_pos e) (pow_pos 0) (sym v.1) refl
      (le_trans (le_cross m e c (pos j) h) (le_of_eq (ap (λ (z : ℕ). z * down e) value)))

  within_of : (x : Float) (s : Bool) (g : ℕ) → HasValue x s g (2 ^ 149) → g * 1 ≤ n * 2 ^ 149 → Within n x
  unfolding Within
  within_of nan s g v h = absurd v
  within_of (inf t) s g v h = absurd v
  within_of (fin t m e) s g v h =
      le_trans (le_of_eq (sym (mul-one (m * up e))))
      (transfer (m * up e) n (down e) 1 g n (2 ^ 149) 1 (pow_pos 149) (pow_pos 0) v.1 refl h)

  round_within : (s : Bool) (a b : ℕ) → 0 < b → a ≤ n * b → Within n (round binary32 s a b)
  round_within s a b B h =
      let k = kept 24 (a * 2 ^ 149) b in
      let d = drop 24 (a * 2 ^ 149) b in
      let l : T (le (round binary32 false a b) (fin false c (pos j))) =
      subst (λ (z : Float). T (le (round binary32 false a b) z)) exact
      (round_mono binary32 a b n 1 B (pow_pos 0) (le_trans (le_of_eq (mul-one a)) h)) in
      let o = no_overflow k d (subst (λ (z : Float). T (le z (fin false c (pos j)))) (round_is binary32 false a b) l) in
      within_of (round binary32 s a b) s (grid binary32 a b)
      (subst (λ (z : Float). HasValue z s (grid binary32 a b) (2 ^ 149)) (sym (round_is binary32 s a b)) (units_val binary32 s k d o))
      (grid_most (round binary32 false a b) (grid binary32 a b) (round_val binary32 a b o) l)

  -- a product, of factors whose bounds have the product n
  mul_within : (p q : ℕ) (x y : Float) → p * q ≡ n → Within p x → Within q y → Within n (mul binary32 x y)
  unfolding Within mul
  mul_within p q nan y r a b = absurd a
  mul_within p q (inf s) y r a b = absurd a
  mul_within p q (fin s m e) nan r a b = absurd b
  mul_within p q (fin s m e) (inf t) r a b = absurd b
  mul_within p q (fin s m e) (fin t u d) r a b =
      unfold Within in round_within _ (m * up e * (u * up d)) (down e * down d) (mul-pos (down_pos e) (down_pos d))
      (le_trans (mul-le-mul a b) (le_of_eq (mul-mul-mul_comm p (down e) q (down d) ∙ ap (λ (z : ℕ). z * (down e * down d)) r)))

  -- a quotient by 1 or more
  div_within : (x y : Float) → Within n x → AtLeast y → Within n (div binary32 x y)
  unfolding Within div AtLeast
  div_within nan y a b = absurd a
  div_within (inf s) y a b = absurd a
  div_within (fin s m e) nan a b = absurd b
  div_within (fin s m e) (inf t) a b = absurd b
  div_within (fin s m e) (fin t u d) a b =
      rw (ne_eqb u 0 (λ (z : u ≡ 0). some u d z b))
      (round_within _ (m * up e * down d) (u * up d * down e)
      (mul-pos (lt_of_lt_of_le (down_pos d) b) (down_pos e))
      (le_trans (mul-le-mul a b) (le_of_eq (mul_assoc n (down e) (u * up d) ∙ ap (λ (z : ℕ). n * z) (mul_comm (down e) (u * up d))))))

exact_one : round binary32 false 1 1 ≡ fin false 1 (pos 0)
unfolding round size span climb units odd count_trailing_zeros
exact_one = refl

exact_word : round binary32 false 4294967296 1 ≡ fin false 1 (pos 32)
unfolding round size span climb units odd count_trailing_zeros
exact_word = refl

exact_scaled : round binary32 false SCALED_MOST 1 ≡ fin false 2047 (pos 21)
unfolding round size span climb units odd count_trailing_zeros
exact_scaled = refl

exact_sigma : round binary32 false SIGMA_MOST 1 ≡ fin false 4190209 (pos 26)
unfolding round size span climb units odd count_trailing_zeros
exact_sigma = refl

-- the nearest f32 to a whole number from 1 on is 1 or more
nearest_positive : (n : ℕ) → 1 ≤ n → n ≤ 4294967296 → AtLeast (nearest n)
unfolding AtLeast of_int Within le lt eq
nearest_positive n h k =
    go (round binary32 false n 1)
    (round_within 4294967296 1 32 refl exact_word false n 1 (pow_pos 0) (le_trans k (le_of_eq (sym (mul-one 4294967296)))))
    (subst (λ (z : Float). T (le z (round binary32 false n 1))) exact_one (round_mono binary32 1 1 n 1 (pow_pos 0) (pow_pos 0) (omega arith)))
  where
    ends : (m : ℕ) (e : ℤ) → 1 * 1 * down e ≤ m * up e * 1 → down e ≤ m * up e
    ends m e h = le_trans (le_of_eq (sym (one-mul (down e)))) (le_trans h (le_of_eq (mul-one (m * up e))))

    go : (x : Float) → Within 4294967296 x → T (le (fin false 1 (pos 0)) x) → AtLeast x
    go nan a h = absurd a
    go (inf s) a h = absurd a
    go (fin true m e) a h = ends m e (le_of_eq (eqb→eq (1 * 1 * down e) (m * up e * 1) (and_l (1 * 1 * down e == m * up e * 1) _ h)))
    go (fin false m e) a h = ends m e (le_cross 1 (pos 0) m e h)

-- ---- the limits
limits_within : (x : Float) → in_limits x ≡ true → Within 65504 x
unfolding in_limits Within le lt eq
limits_within x e = go x (rw e tt)
  where
    under : (m : ℕ) (e : ℤ) → m * up e * 1 ≤ 65504 * down e → m * up e ≤ 65504 * down e
    under m e h = le_trans (le_of_eq (sym (mul-one (m * up e)))) h

    go : (x : Float) → T (le MINUS_LIMIT x && le x LIMIT) → Within 65504 x
    go nan h = absurd h
    go (inf true) h = absurd h
    go (inf false) h = absurd h
    go (fin true m e) h =
        under m e
        (or_le (m * up e * 1) (65504 * down e) (nat_lt (m * up e * 1) (65504 * down e)) _
        (λ t. let l = ltb→lt (m * up e * 1) (65504 * down e) t in omega arith)
        (λ t. le_of_eq (sym (eqb→eq (65504 * down e) (m * up e * 1) (and_l (65504 * down e == m * up e * 1) _ t))))
        (and_l (le MINUS_LIMIT (fin true m e)) (le (fin true m e) LIMIT) h))
    go (fin false m e) h = under m e (le_cross m e 2047 (pos 5) (and_r (le MINUS_LIMIT (fin false m e)) (le (fin false m e) LIMIT) h))

-- ---- the four steps
pub scaled_within : (m : Float) (scale : ℕ) → Within 65504 m → 1 ≤ scale → scale ≤ 73728 → Within SCALED_MOST (scaled m scale)
scaled_within m scale w a b =
    div_within SCALED_MOST 2047 21 refl exact_scaled (mul binary32 m two16) (nearest scale)
    (mul_within SCALED_MOST 2047 21 refl exact_scaled 65504 65536 m two16 refl w (unfold Within in lit≤ tt)) (nearest_positive scale a (omega arith))

pub divided_within : (q : Float) (h : ℕ) → Within SCALED_MOST q → 1 ≤ h → h < 4294967296 → Within SCALED_MOST (divided q h)
divided_within q h w a b = div_within SCALED_MOST 2047 21 refl exact_scaled q (nearest h) w (nearest_positive h a (omega arith))

pub times_within : TimesWithin
times_within q l a b = mul_within SIGMA_MOST 4190209 26 refl exact_sigma SCALED_MOST 65504 q l refl a b

pub scaled_bounded : (f : Filter) (lookups : List Float) (scale : ℕ) → params_fit f lookups scale ≡ true → ScaledBounded (scaled_by f scale) lookups
unfolding ScaledBounded scaled_by
scaled_bounded Off lookups scale e = tt
scaled_bounded (On m) lookups scale e =
    let t : T (params_fit (On m) lookups scale) = rw e tt in
    let a = and_l (scale_fits scale && in_limits m) (lookups_fit lookups) t in
    let b = and_l (scale_fits scale) (in_limits m) a in
    let each = each_at (λ (k : ℕ). in_limits (slice_index_or lookups k nan)) 8 0 (and_r (scale_fits scale && in_limits m) (lookups_fit lookups) t) in (
      scaled_within m scale (limits_within m (is_true (in_limits m) (and_r (scale_fits scale) (in_limits m) a)))
          (leb→le 1 scale (and_l (nat_le 1 scale) (nat_le scale 73728) b)) (leb→le scale 73728 (and_r (nat_le 1 scale) (nat_le scale 73728) b)),
      λ k l. limits_within (slice_index_or lookups k nan) (is_true (in_limits (slice_index_or lookups k nan)) (each k (omega arith) (omega arith))),
    )

pub divided_bounded : DividedBoundedLaw
unfolding ScaledBounded DividedBounded divided_by
divided_bounded None lookups h a b w = tt
divided_bounded (Some q) lookups h a b w = (divided_within q.0 h w.0 a b, w.1)

-- the last step is within 65,504 × 65,536 × 65,504, so it is no NaN
pub times_bounds : (q : DividedMultiplier) (lookups : List Float) (s : ℕ) → s < 8 → DividedBounded (Some q) lookups → Within SIGMA_MOST (times_look_up q.0 lookups s)
unfolding DividedBounded
times_bounds q lookups s l w = times_within q.0 (slice_index_or lookups s nan) w.0 (w.1 s l)

pub times_bounded : (q : DividedMultiplier) (lookups : List Float) (s : ℕ) → s < 8 → DividedBounded (Some q) lookups → T (not (is_nan (times_look_up q.0 lookups s)))
times_bounded q lookups s l w = within_no_nan SIGMA_MOST (times_look_up q.0 lookups s) (times_bounds q lookups s l w)

-- a filter strength under the limits is finite, and at most 65,504 × 65,536 × 65,504 in size
pub sigma_within : (f : Filter) (scale h : ℕ) (lookups : List Float) (sharpness : ℕ) → params_fit f lookups scale ≡ true → 1 ≤ h → h < 4294967296
    → ((m : Float) → f ≡ On m → sharpness < 8) → Within SIGMA_MOST (sigma_of f scale h lookups sharpness)
unfolding sigma_of
sigma_within Off scale h lookups sharpness e a b s = unfold Within in lit≤ tt
sigma_within (On m) scale h lookups sharpness e a b s =
    let w : DividedBounded (divided_by (scaled_by (On m) scale) h) lookups = divided_bounded (scaled_by (On m) scale) lookups h a b (scaled_bounded (On m) lookups scale e) in
    unfold scaled_by in unfold divided_by in times_bounds (record { 0 = divided (scaled m scale) h }) lookups sharpness (s m refl) w

-- f32 holds it, so its bit pattern reads back as itself
sigma_fits : (f : Filter) (scale h : ℕ) (lookups : List Float) (sharpness : ℕ) → T (fits binary32 (sigma_of f scale h lookups sharpness))
unfolding sigma_of
sigma_fits Off scale h lookups sharpness = unfold fits in tt
sigma_fits (On m) scale h lookups sharpness = mul-fits binary32 (divided (scaled m scale) h) (slice_index_or lookups sharpness nan)

pub sigma_back : (f : Filter) (scale h : ℕ) (lookups : List Float) (sharpness : ℕ) → from_bits binary32 (pattern (sigma_of f scale h lookups sharpness)) ≡ sigma_of f scale h lookups sharpness
sigma_back f scale h lookups sharpness = of_bits-to_bits binary32 (sigma_of f scale h lookups sharpness) (sigma_fits f scale h lookups sharpness)

-- within a bound or not: a fact
within_prop : (n : ℕ) (x : Float) → IsProp (Within n x)
unfolding Within
within_prop n nan = Prim.hlevel props
within_prop n (inf s) = Prim.hlevel props
within_prop n (fin s m e) = Prim.hlevel props

pub scaled_bounded_prop : (f : Option ScaledMultiplier) (lookups : List Float) → IsProp (ScaledBounded f lookups)
unfolding ScaledBounded
scaled_bounded_prop None lookups = Prim.hlevel props
scaled_bounded_prop (Some q) lookups = Prim.hlevel (props, within_prop)
