-- Laws: What the laws ask of a size, and that each of the 13 is one.
use Rattle.std.specs.Prelude.{◌≡◌, ℕ, zero, suc, ◌*◌, ◌/◌, ◌%◌, ◌<◌, ◌≤◌, Bool, ◌&&◌, T, leb, get_or, ◌==◌, nat_le, slice_index_or, refl}
use Rattle.std.proofs.Common.{ap, sym, ◌∙◌, mul-div_cancel, div-add-mod', mul_assoc, mul_comm, mul-lt-mul_of_pos_right, mul-le-mul_right, mul-le-mul_left, zero-mul, arith, leb→le, eqb→eq}
use Rattle.std.specs.Float.Ieee.Fits.{and_l, and_r}
use Rattle.laws.specs.Tables.{every}
use Rattle.laws.specs.laws.Tables.{at_each}
use Rattle.order_sizes.specs.BlockSizes.{BLOCK_SIZES, width_of, height_of}
use Rattle.order_natural.specs.Places.{Place}
use Rattle.order_natural.specs.Order.{Size}
use Rattle.order_natural.specs.laws.Sizes.{right}

pub of_right : (s : Place) → T (right s) → Size s.0 s.1
of_right s t =
    let t₁ = and_r (s.1 % 8 == 0) (s.0 % s.1 == 0 && (nat_le 1 s.1 && nat_le 1 s.0)) t in
    let t₂ = and_r (s.0 % s.1 == 0) (nat_le 1 s.1 && nat_le 1 s.0) t₁ in
    record {
      eights = eqb→eq (s.1 % 8) 0 (and_l (s.1 % 8 == 0) (s.0 % s.1 == 0 && (nat_le 1 s.1 && nat_le 1 s.0)) t);
      multiple = eqb→eq (s.0 % s.1) 0 (and_l (s.0 % s.1 == 0) (nat_le 1 s.1 && nat_le 1 s.0) t₁);
      height_some = leb→le 1 s.1 (and_l (nat_le 1 s.1) (nat_le 1 s.0) t₂);
      width_some = leb→le 1 s.0 (and_r (nat_le 1 s.1) (nat_le 1 s.0) t₂);
    }

-- each of the 13 is such a size
pub all_right : T (every right BLOCK_SIZES)
unfolding BLOCK_SIZES
all_right = tt

pub size_of : (k : ℕ) → k < 13 → Size (width_of k) (height_of k)
unfolding BLOCK_SIZES width_of height_of
size_of k h = of_right (slice_index_or BLOCK_SIZES k (0, 0)) (at_each right BLOCK_SIZES all_right (0, 0) k h)

-- how large they get
abbrev most : Place → Bool
most s = nat_le s.0 256 && nat_le (s.0 * s.1) 65536

most_at : (k : ℕ) → k < 13 → T (most (slice_index_or BLOCK_SIZES k (0, 0)))
unfolding BLOCK_SIZES
most_at k h = at_each most BLOCK_SIZES tt (0, 0) k h

pub width_most : (k : ℕ) → k < 13 → width_of k ≤ 256
unfolding width_of
width_most k h = let s = get_or BLOCK_SIZES k (0, 0) in leb→le s.0 256 (and_l (nat_le s.0 256) (nat_le (s.0 * s.1) 65536) (most_at k h))

pub places_most : (k : ℕ) → k < 13 → width_of k * height_of k ≤ 65536
unfolding width_of height_of
places_most k h = let s = get_or BLOCK_SIZES k (0, 0) in leb→le (s.0 * s.1) 65536 (and_r (nat_le s.0 256) (nat_le (s.0 * s.1) 65536) (most_at k h))

least_at : (k : ℕ) → k < 13 → T (nat_le 64 ((get_or BLOCK_SIZES k (0, 0)).0 * (get_or BLOCK_SIZES k (0, 0)).1))
unfolding BLOCK_SIZES
least_at k h = at_each (λ (s : Place). leb 64 (s.0 * s.1)) BLOCK_SIZES tt (0, 0) k h

pub places_least : (k : ℕ) → k < 13 → 64 ≤ width_of k * height_of k
unfolding width_of height_of
places_least k h = leb→le 64 ((get_or BLOCK_SIZES k (0, 0)).0 * (get_or BLOCK_SIZES k (0, 0)).1) (least_at k h)

-- the numbers of a size: s = width / height, k = height / 8, w = width / 8
module _ (width height : ℕ) (z : Size width height) where
  pub width_by : width ≡ height * (width / height)
  width_by = let e = div-add-mod' width height in let m = z.multiple in mul_by (mul_comm height (width / height)) (omega arith)
    where
      mul_by : {a b c : ℕ} → a ≡ b → c ≡ b → c ≡ a
      mul_by p q = q ∙ sym p

  pub height_by : height ≡ height / 8 * 8
  height_by = let e = div-add-mod' height 8 in let m = z.eights in omega arith

  -- width / 8 = (height / 8) * s
  pub w_by : width / 8 ≡ height / 8 * (width / height)
  w_by =
      let s = width / height in
      let k = height / 8 in
      let e : height * s ≡ k * s * 8 = ap (λ (n : ℕ). n * s) height_by ∙ mul_assoc k 8 s ∙ ap (λ (n : ℕ). k * n) (mul_comm 8 s) ∙ sym (mul_assoc k s 8) in
      ap (λ (n : ℕ). n / 8) (width_by ∙ e) ∙ mul-div_cancel (k * s) (omega arith)

  pub width_eights : width ≡ width / 8 * 8
  width_eights =
      let s = width / height in
      let k = height / 8 in
      let e : height * s ≡ k * s * 8 = ap (λ (n : ℕ). n * s) height_by ∙ mul_assoc k 8 s ∙ ap (λ (n : ℕ). k * n) (mul_comm 8 s) ∙ sym (mul_assoc k s 8) in
      width_by ∙ e ∙ ap (λ (n : ℕ). n * 8) (sym w_by)

  pub s_some : 0 < width / height
  s_some = go (width / height) refl
    where
      go : (n : ℕ) → width / height ≡ n → 0 < n
      go zero e = let d = div-add-mod' width height in let m = z.multiple in let w = z.width_some in absurd (omega (arith, zero-mul height, ap (λ (n : ℕ). n * height) e))
      go (suc n) e = omega arith

  -- no higher than wide
  pub not_higher : height ≤ width
  not_higher = let e : height * 1 ≡ height = omega arith in omega (arith, width_by, mul-le-mul_left height s_some)

  -- below in rows of height is below in rows of width
  pub row_in : (y : ℕ) → y < height → y * (width / height) < width
  row_in y h = omega (arith, width_by, mul-lt-mul_of_pos_right h s_some)

  pub row_out : (y : ℕ) → height ≤ y → width ≤ y * (width / height)
  row_out y h = omega (arith, width_by, mul-le-mul_right (width / height) h)

  pub corner_in : (y : ℕ) → y < height / 8 → y * (width / height) < width / 8
  corner_in y h = rw w_by (mul-lt-mul_of_pos_right h s_some)

  pub corner_out : (y : ℕ) → height / 8 ≤ y → width / 8 ≤ y * (width / height)
  corner_out y h = rw w_by (mul-le-mul_right (width / height) h)
