-- Laws: Lent bytes as one number, and the windows of it that the code gathers.
use Rattle.std.specs.Prelude.{◌≡◌, ℕ, zero, suc, ◌+◌, ◌-◌, ◌*◌, ◌/◌, ◌%◌, ◌^◌, ◌<◌, ◌≤◌, List, [], ◌∷◌, ◌++◌, length, take, drop, bit_and, bit_or, slice_index, refl}
use Rattle.std.proofs.Common.{ap, sym, ◌∙◌, not-suc-le-zero, le_of_suc-le-suc, mul_comm, mul_left_comm, mul_assoc, mul-suc, mul-zero, zero-add, add-zero, mul-one, one-mul, mod-eq_of_lt, lt_of_lt_of_le, arith, add-one, pow-add, pow_pos, pow_mono, shr-shr, shl_exact, length-drop, length-append, get_or-drop}
use Rattle.std.proofs.Math.Nat.{div-eq_of_lt, add-mul-div_left, add-mul-mod_self_left}
use Rattle.std.specs.Int.Bits.{or_shifted_r, mask_lt}
use Rattle.std.proofs.lemmas.Nat.{and_mask, mod-pow-add}
use Rattle.std.proofs.Math.Pow.{field, mod-mod-pow}
use Rattle.bits.specs.Bits.{low_bits, bits_of, value_of, Bytes}

-- the bytes as one number, the first byte lowest
abbrev pub number : List ℕ → ℕ
number [] = 0
number (b ∷ s) = b + 256 * number s

pow_byte : (k : ℕ) → 2 ^ (8 * suc k) ≡ 256 * 2 ^ (8 * k)
pow_byte k = ap (λ (e : ℕ). 2 ^ e) (mul-suc 8 k) ∙ pow-add 2 (8 * k) 8 ∙ mul_comm (2 ^ (8 * k)) 256

-- one byte more
pub take_more : (s : List ℕ) (k : ℕ) → k < length s → number (take (suc k) s) ≡ number (take k s) + slice_index s k * 2 ^ (8 * k)
take_more [] k h = absurd (not-suc-le-zero h)
take_more (b ∷ s) zero h = simp (mul-zero, mul-one, zero-add, add-zero)
take_more (b ∷ s) (suc k) h =
    ap (λ (x : ℕ). b + 256 * x) (take_more s k (le_of_suc-le-suc h))
    ∙ rw (pow_byte k, mul_left_comm (slice_index s k) 256 (2 ^ (8 * k))) (omega arith)

-- the first k bytes, and the rest above them
split : (s : List ℕ) (k : ℕ) → number s ≡ number (take k s) + 2 ^ (8 * k) * number (drop k s)
split s zero = simp (one-mul, zero-add)
split [] (suc k) = simp (mul-zero, zero-add)
split (b ∷ s) (suc k) = rw (pow_byte k, mul_assoc 256 (2 ^ (8 * k)) (number (drop k s))) (omega (arith, split s k))

pub take_lt : (s : List ℕ) (k : ℕ) → Bytes s → number (take k s) < 2 ^ (8 * k)
take_lt s zero h = omega arith
take_lt [] (suc k) h = pow_pos (8 * suc k)
take_lt (b ∷ s) (suc k) h = rw (pow_byte k) (omega (arith, h 0, take_lt s k (λ i. h (suc i))))

take_mod : (s : List ℕ) (k : ℕ) → Bytes s → number (take k s) ≡ number s % 2 ^ (8 * k)
take_mod s k h =
    sym (ap (λ (x : ℕ). x % 2 ^ (8 * k)) (split s k) ∙ add-mul-mod_self_left (number (take k s)) (2 ^ (8 * k)) (number (drop k s)) ∙ mod-eq_of_lt (take_lt s k h))

drop_shift : (s : List ℕ) (k : ℕ) → Bytes s → number (drop k s) ≡ number s / 2 ^ (8 * k)
drop_shift s k h =
    sym (ap (λ (x : ℕ). x / 2 ^ (8 * k)) (split s k)
    ∙ add-mul-div_left (number (take k s)) (number (drop k s)) (pow_pos (8 * k))
    ∙ ap (λ (x : ℕ). x + number (drop k s)) (div-eq_of_lt (take_lt s k h))
    ∙ zero-add (number (drop k s)))

-- n bits from bit j on lie in the low m bits, where j + n ≤ m
low_field : (x j n m : ℕ) → j + n ≤ m → x % 2 ^ m / 2 ^ j % 2 ^ n ≡ x / 2 ^ j % 2 ^ n
low_field x j n m h =
    let e : m ≡ (m - j - n + n) + j = omega arith in
    ap (λ (k : ℕ). x % 2 ^ k / 2 ^ j % 2 ^ n) e
    ∙ ap (λ (y : ℕ). y % 2 ^ n) (field x (m - j - n + n) j)
    ∙ mod-mod-pow (x / 2 ^ j) (m - j - n) n

-- a window of c bytes from byte f on has the n bits from bit 8 f + j on
pub window : (s : List ℕ) (f c j n : ℕ) → Bytes s → j + n ≤ 8 * c → number (take c (drop f s)) / 2 ^ j % 2 ^ n ≡ number s / 2 ^ (8 * f + j) % 2 ^ n
window s f c j n h l =
    ap (λ (x : ℕ). x / 2 ^ j % 2 ^ n) (take_mod (drop f s) c (λ i. rw get_or-drop (h (f + i))))
    ∙ low_field (number (drop f s)) j n (8 * c) l
    ∙ ap (λ (x : ℕ). x / 2 ^ j % 2 ^ n) (drop_shift s f h)
    ∙ ap (λ (x : ℕ). x % 2 ^ n) (shr-shr (number s) (8 * f) j)

-- a byte laid above k bytes by a shift and an or
pub laid : (s : List ℕ) (f k acc sh v : ℕ) → Bytes s → f + k < length s → k < 5 → sh ≡ 8 * k → acc ≡ number (take k (drop f s)) → v ≡ slice_index s (f + k)
    → bit_or acc (v * 2 ^ sh % 2 ^ 64) ≡ number (take (k + 1) (drop f s))
laid s f k acc sh v h l m e a w =
    let b : v < 2 ^ 8 = omega (arith, h (f + k)) in
    let o : 8 + sh ≤ 64 = omega arith in
    let t : acc < 2 ^ sh = rw (a, e) (take_lt (drop f s) k (λ i. rw get_or-drop (h (f + i)))) in
    ap (λ (x : ℕ). bit_or acc x) (shl_exact 8 sh 64 b o)
    ∙ or_shifted_r v sh acc t
    ∙ rw (add-one, take_more (drop f s) k (simp length-drop (omega arith)), get_or-drop, a, e, w) (omega arith)

mask_is : (n : ℕ) → n ≤ 32 → 1 * 2 ^ n % 2 ^ 64 ≡ 2 ^ n
mask_is n h = shl_exact {a = 1} 1 n 64 (omega arith) (omega arith) ∙ one-mul (2 ^ n)

pub mask_pos : (n : ℕ) → n ≤ 32 → 1 ≤ 1 * 2 ^ n % 2 ^ 64
mask_pos n h = rw (mask_is n h) (pow_pos n)

pub masked : (x n : ℕ) → n ≤ 32 → bit_and x (1 * 2 ^ n % 2 ^ 64 - 1) ≡ x % 2 ^ n
masked x n h = rw (mask_is n h) (and_mask x n)

pub masked_lt : (x n : ℕ) → n ≤ 32 → bit_and x (1 * 2 ^ n % 2 ^ 64 - 1) < 2 ^ 32
masked_lt x n h = rw (mask_is n h) (lt_of_lt_of_le (mask_lt x n) (pow_mono h))

-- every element is a bit
abbrev AreBits : List ℕ → Type 0
AreBits [] = Unit
AreBits (b ∷ l) = (b < 2) × AreBits l

low_are_bits : (n b : ℕ) (l : List ℕ) → AreBits l → AreBits (low_bits n b ++ l)
low_are_bits zero b l h = h
low_are_bits (suc n) b l h = (omega arith, low_are_bits n (b / 2) l h)

are_bits : (s : List ℕ) → AreBits (bits_of s)
unfolding bits_of
are_bits [] = tt
are_bits (b ∷ s) = low_are_bits 8 b (bits_of s) (are_bits s)

length_low : (n b : ℕ) → length (low_bits n b) ≡ n
length_low zero b = refl
length_low (suc n) b = ap suc (length_low n (b / 2))

pub length_bits : (s : List ℕ) → length (bits_of s) ≡ 8 * length s
unfolding bits_of
length_bits [] = refl
length_bits (b ∷ s) = length-append (low_bits 8 b) (bits_of s) ∙ omega (arith, length_low 8 b, length_bits s)

-- bits, then a byte's own
value_low : (b : ℕ) (l : List ℕ) → b < 256 → value_of (low_bits 8 b ++ l) ≡ b + 256 * value_of l
unfolding value_of
value_low b l h = omega arith

value_bits : (s : List ℕ) → Bytes s → value_of (bits_of s) ≡ number s
unfolding bits_of value_of
value_bits [] h = refl
value_bits (b ∷ s) h = value_low b (bits_of s) (h 0) ∙ ap (λ (x : ℕ). b + 256 * x) (value_bits s (λ i. h (suc i)))

value_drop : (p : ℕ) (l : List ℕ) → AreBits l → value_of (drop p l) ≡ value_of l / 2 ^ p
unfolding value_of
value_drop zero l h = omega arith
value_drop (suc p) [] h = sym (div-eq_of_lt (pow_pos (suc p)))
value_drop (suc p) (b ∷ l) h =
    let e : (b + 2 * value_of l) / 2 ^ 1 ≡ value_of l = omega (arith, h.0) in
    let f : 1 + p ≡ suc p = omega arith in
    value_drop p l h.1 ∙ ap (λ (x : ℕ). x / 2 ^ p) (sym e) ∙ shr-shr (b + 2 * value_of l) 1 p ∙ ap (λ (k : ℕ). (b + 2 * value_of l) / 2 ^ k) f

value_take : (n : ℕ) (l : List ℕ) → AreBits l → value_of (take n l) ≡ value_of l % 2 ^ n
unfolding value_of
value_take zero l h = omega arith
value_take (suc n) [] h = sym (mod-eq_of_lt (pow_pos (suc n)))
value_take (suc n) (b ∷ l) h =
    let e : (b + 2 * value_of l) / 2 ^ 1 ≡ value_of l = omega (arith, h.0) in
    let g : (b + 2 * value_of l) % 2 ^ 1 ≡ b = omega (arith, h.0) in
    let f : n + 1 ≡ suc n = omega arith in
    let m : (b + 2 * value_of l) % 2 ^ (n + 1) ≡ ((b + 2 * value_of l) / 2 ^ 1 % 2 ^ n) * 2 ^ 1 + (b + 2 * value_of l) % 2 ^ 1 = mod-pow-add (b + 2 * value_of l) n 1 in
    ap (λ (x : ℕ). b + 2 * x) (value_take n l h.1)
    ∙ sym (ap (λ (k : ℕ). (b + 2 * value_of l) % 2 ^ k) (sym f) ∙ m ∙ rw (e, g) (omega arith))

drop_bits : (p : ℕ) (l : List ℕ) → AreBits l → AreBits (drop p l)
drop_bits zero l h = h
drop_bits (suc p) [] h = tt
drop_bits (suc p) (b ∷ l) h = drop_bits p l h.1

-- a field of the list of bits is a window of the number
pub value_field : (s : List ℕ) (p n : ℕ) → Bytes s → value_of (take n (drop p (bits_of s))) ≡ number s / 2 ^ p % 2 ^ n
value_field s p n h =
    value_take n (drop p (bits_of s)) (drop_bits p (bits_of s) (are_bits s))
    ∙ ap (λ (x : ℕ). x % 2 ^ n) (value_drop p (bits_of s) (are_bits s) ∙ ap (λ (x : ℕ). x / 2 ^ p) (value_bits s h))
