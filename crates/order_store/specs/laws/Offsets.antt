-- Laws: Where the lists of the store begin.
use Rattle.std.specs.Prelude.{◌≡◌, refl, List, [], ◌∷◌, ℕ, zero, suc, ◌+◌, ◌*◌, ◌/◌, ◌%◌, ◌<◌, ◌≤◌, eqb, length, get_or}
use Rattle.std.proofs.Common.{ap, sym, ◌∙◌, not-suc-le-zero, le_of_suc-le-suc, arith, eqb→eq}
use Rattle.laws.specs.laws.Tables.{each_at}
use Rattle.order_sizes.specs.BlockSizes.{BLOCK_SIZES, width_of, height_of}
use Rattle.order_store.specs.Store.{PLACES, thrice, places_in, before, first_of}

-- order k, channel c begins behind c lists of its own size
pub before_by : (ss : List (ℕ × ℕ)) (k c : ℕ) → k < length ss → c < 3 → before (thrice ss) (3 * k + c) ≡ 3 * before ss k + c * places_in (get_or ss k (0, 0))
before_by [] k c h l = absurd (not-suc-le-zero h)
before_by (s ∷ ss) zero zero h l = omega arith
before_by (s ∷ ss) zero (suc zero) h l = omega arith
before_by (s ∷ ss) zero (suc (suc zero)) h l = omega arith
before_by (s ∷ ss) zero (suc (suc (suc c))) h l = absurd (omega arith)
before_by (s ∷ ss) (suc k) c h l =
    let i : 3 * suc k + c ≡ suc (suc (suc (3 * k + c))) = omega arith in
    let r = before_by ss k c (le_of_suc-le-suc h) l in
    rw i (omega arith)

thrice_at : (ss : List (ℕ × ℕ)) (k c : ℕ) → k < length ss → c < 3 → get_or (thrice ss) (3 * k + c) (0, 0) ≡ get_or ss k (0, 0)
thrice_at [] k c h l = absurd (not-suc-le-zero h)
thrice_at (s ∷ ss) zero zero h l = refl
thrice_at (s ∷ ss) zero (suc zero) h l = refl
thrice_at (s ∷ ss) zero (suc (suc zero)) h l = refl
thrice_at (s ∷ ss) zero (suc (suc (suc c))) h l = absurd (omega arith)
thrice_at (s ∷ ss) (suc k) c h l =
    let i : 3 * suc k + c ≡ suc (suc (suc (3 * k + c))) = omega arith in
    rw i (thrice_at ss k c (le_of_suc-le-suc h) l)

before_step : (ss : List (ℕ × ℕ)) (i : ℕ) → i < length ss → before ss (i + 1) ≡ before ss i + places_in (get_or ss i (0, 0))
before_step [] i h = absurd (not-suc-le-zero h)
before_step (s ∷ []) zero h = omega arith
before_step (s ∷ t ∷ ss) zero h = omega arith
before_step (s ∷ ss) (suc i) h =
    let e : suc i + 1 ≡ suc (i + 1) = omega arith in
    let r = before_step ss i (le_of_suc-le-suc h) in
    rw e (omega arith)

before_most : (ss : List (ℕ × ℕ)) (i : ℕ) → i ≤ length ss → before ss i ≤ before ss (length ss)
before_most [] zero h = omega arith
before_most [] (suc i) h = absurd (not-suc-le-zero h)
before_most (s ∷ ss) zero h = omega arith
before_most (s ∷ ss) (suc i) h = let r = before_most ss i (le_of_suc-le-suc h) in omega arith

pub sizes_13 : length BLOCK_SIZES ≡ 13
unfolding BLOCK_SIZES
sizes_13 = refl

pub lists_39 : length (thrice BLOCK_SIZES) ≡ 39
unfolding BLOCK_SIZES
lists_39 = refl

pub store_places : before (thrice BLOCK_SIZES) (length (thrice BLOCK_SIZES)) ≡ PLACES
unfolding BLOCK_SIZES PLACES
store_places = refl

pub places_by : 2 * PLACES ≡ 787968
unfolding PLACES
places_by = refl

pub third : (i : ℕ) → 3 * (i / 3) + i % 3 ≡ i
third i = omega arith

-- the size of list i
pub list_size : (i : ℕ) → i < 39 → get_or (thrice BLOCK_SIZES) i (0, 0) ≡ get_or BLOCK_SIZES (i / 3) (0, 0)
list_size i h = ap (λ (j : ℕ). get_or (thrice BLOCK_SIZES) j (0, 0)) (sym (third i)) ∙ thrice_at BLOCK_SIZES (i / 3) (i % 3) (omega (arith, sizes_13)) (omega arith)

pub first_step : (i : ℕ) → i < 39 → first_of (i + 1) ≡ first_of i + 2 * (width_of (i / 3) * height_of (i / 3))
unfolding first_of width_of height_of
first_step i h = omega (arith, before_step (thrice BLOCK_SIZES) i (omega (arith, lists_39)), ap places_in (list_size i h))

pub first_most : (i : ℕ) → i ≤ 39 → first_of i ≤ 787968
unfolding first_of
first_most i h = omega (arith, before_most (thrice BLOCK_SIZES) i (omega (arith, lists_39)), store_places, places_by)

pub first_end : first_of 39 ≡ 787968
unfolding first_of
first_end = ap (λ (n : ℕ). 2 * before (thrice BLOCK_SIZES) n) (sym lists_39) ∙ omega (arith, store_places, places_by)

pub first_start : first_of 0 ≡ 0
unfolding first_of BLOCK_SIZES
first_start = refl

-- order k, channel c: the list 3 k + c
pub first_channel : (k c : ℕ) → k < 13 → c < 3 → first_of (3 * k + c) ≡ first_of (3 * k) + c * (2 * (width_of k * height_of k))
unfolding first_of width_of height_of
first_channel k c h l =
    let z : 3 * k + 0 ≡ 3 * k = omega arith in
    let b = rw z at (before_by BLOCK_SIZES k 0 (omega (arith, sizes_13)) (omega arith)) in
    let e : c * (2 * places_in (get_or BLOCK_SIZES k (0, 0))) ≡ 2 * (c * places_in (get_or BLOCK_SIZES k (0, 0))) = twice c (places_in (get_or BLOCK_SIZES k (0, 0))) in
    omega (arith, before_by BLOCK_SIZES k c (omega (arith, sizes_13)) l)
  where
    twice : (c n : ℕ) → c * (2 * n) ≡ 2 * (c * n)
    twice zero n = omega arith
    twice (suc c) n = let r = twice c n in omega arith

-- the first number of each order's lists, and the numbers of one of them, as the code has them
abbrev pub FIRSTS : List ℕ
FIRSTS = 0 ∷ 384 ∷ 768 ∷ 2304 ∷ 8448 ∷ 9216 ∷ 10752 ∷ 13824 ∷ 38400 ∷ 50688 ∷ 148992 ∷ 198144 ∷ 591360 ∷ []

abbrev pub COUNTS : List ℕ
COUNTS = 128 ∷ 128 ∷ 512 ∷ 2048 ∷ 256 ∷ 512 ∷ 1024 ∷ 8192 ∷ 4096 ∷ 32768 ∷ 16384 ∷ 131072 ∷ 65536 ∷ []

pub first_at : (o k : ℕ) → k < 13 → o ≡ k → get_or FIRSTS k 0 ≡ first_of (3 * o)
unfolding first_of BLOCK_SIZES
first_at o k h e = rw e (eqb→eq (get_or FIRSTS k 0) (first_of (3 * k)) (each_at (λ (k : ℕ). eqb (get_or FIRSTS k 0) (first_of (3 * k))) 13 0 tt k (omega arith) (omega arith)))

pub count_at : (o k : ℕ) → k < 13 → o ≡ k → get_or COUNTS k 0 ≡ 2 * (width_of o * height_of o)
unfolding BLOCK_SIZES width_of height_of
count_at o k h e =
    rw e (eqb→eq (get_or COUNTS k 0) (2 * (width_of k * height_of k)) (each_at (λ (k : ℕ). eqb (get_or COUNTS k 0) (2 * (width_of k * height_of k))) 13 0 tt k (omega arith) (omega arith)))
