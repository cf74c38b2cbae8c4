-- Contexts of coefficients, where no more are due than places remain: they stay below 458, and each tells the entries that it is made of.
use Rattle.std.specs.Prelude.{◌≡◌, ℕ, suc, ◌+◌, ◌*◌, ◌-◌, ◌/◌, ◌<◌, ◌≤◌, T, leb, eqb, get_or}
use Rattle.std.proofs.Common.{arith, div-mul-le_self, div-lt_iff_lt-mul, lt_of_mul-lt-mul_right, add-mul, leb→le, eqb→eq}
use Rattle.std.specs.Float.Ieee.Fits.{and_l, and_r}
use Rattle.laws.specs.Tables.{each}
use Rattle.laws.specs.laws.Tables.{each_at}
use Rattle.coeff_context.specs.Context.{coeff_context, NUM_NONZERO, FREQ}
use Rattle.coeff_context.specs.laws.Contexts.{entries, non_zero_in, told}

pairs : T (each (λ (a : ℕ). each (told a) (63 - a) 0) 63 0)
unfolding NUM_NONZERO FREQ
pairs = tt

pair : (a c : ℕ) → a + c < 63 → T (told a c)
pair a c h = each_at (told a) (63 - a) 0 (each_at (λ (m : ℕ). each (told m) (63 - m) 0) 63 0 pairs a (omega arith) (omega arith)) c (omega arith) (omega arith)

pub entries_most : (a c : ℕ) → a + c < 63 → entries a c ≤ 228
entries_most a c h = leb→le (entries a c) 228 (and_l (leb (entries a c) 228) (eqb (non_zero_in (entries a c)) (get_or NUM_NONZERO a 0)) (pair a c h))

pub entries_tell : (a c : ℕ) → a + c < 63 → non_zero_in (entries a c) ≡ get_or NUM_NONZERO a 0
entries_tell a c h =
    eqb→eq (non_zero_in (entries a c)) (get_or NUM_NONZERO a 0) (and_r (leb (entries a c) 228) (eqb (non_zero_in (entries a c)) (get_or NUM_NONZERO a 0)) (pair a c h))

pub quotients : (blocks n i : ℕ) → n + i < 63 * blocks → n / blocks + i / blocks < 63
quotients blocks n i h =
    let a : n / blocks * blocks ≤ n = div-mul-le_self n blocks in
    let b : i / blocks * blocks ≤ i = div-mul-le_self i blocks in
    let e : (n / blocks + i / blocks) * blocks ≡ n / blocks * blocks + i / blocks * blocks = add-mul (n / blocks) (i / blocks) blocks in
    lt_of_mul-lt-mul_right blocks (omega arith)

-- suc n that are not 0 are due at place i
pub context_below : (blocks n i prev : ℕ) → suc n + i ≤ 63 * blocks → prev ≤ 1 → coeff_context blocks n i prev < 458
unfolding coeff_context
context_below blocks n i prev h f =
    let q : entries (n / blocks) (i / blocks) ≤ 228 = entries_most (n / blocks) (i / blocks) (quotients blocks n i (omega arith)) in
    omega arith

-- places and counts have an entry each
pub below_63 : (blocks n : ℕ) → n < 63 * blocks → n / blocks < 63
below_63 blocks n h = (div-lt_iff_lt-mul {k = blocks} {x = n} {y = 63} (omega (arith, h))).1 h

-- the largest entries: of the table by counts below 32 for each block, and of the table by places
pub entry_at : (blocks n : ℕ) → n < 32 * blocks → get_or NUM_NONZERO (n / blocks) 0 ≤ 180
unfolding NUM_NONZERO
entry_at blocks n h =
    leb→le (get_or NUM_NONZERO (n / blocks) 0) 180
    (each_at (λ (k : ℕ). leb (get_or NUM_NONZERO k 0) 180) 32 0 tt (n / blocks) (omega arith) ((div-lt_iff_lt-mul {k = blocks} {x = n} {y = 32} (omega (arith, h))).1 h))

pub freq_at : (blocks i : ℕ) → i < 63 * blocks → get_or FREQ (i / blocks) 0 ≤ 30
unfolding FREQ
freq_at blocks i h =
    leb→le (get_or FREQ (i / blocks) 0) 30 (each_at (λ (k : ℕ). leb (get_or FREQ k 0) 30) 63 0 tt (i / blocks) (omega arith) (below_63 blocks i h))

-- no context is too large for a count of at most 32 × blocks
pub context_fits : (blocks n i prev : ℕ) → n < 32 * blocks → i < 63 * blocks → prev ≤ 1 → coeff_context blocks n i prev < 458
unfolding coeff_context
context_fits blocks n i prev h g f = omega (arith, entry_at blocks n h, freq_at blocks i g, f)
