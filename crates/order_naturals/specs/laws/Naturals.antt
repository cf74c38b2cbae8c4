-- Laws: A store of natural orders (document 01, Orders).
use Rattle.std.specs.Prelude.{◌≡◌, refl, Bool, true, false, cond, List, [], ◌∷◌, ◌++◌, ℕ, suc, ◌+◌, ◌*◌, ◌-◌, ◌/◌, ◌<◌, ◌≤◌, T, eqb, length, get_or, take, drop}
use Rattle.std.proofs.Common.{ap, sym, ◌∙◌, append_assoc, add-one, arith, length-append, drop_of_length-le, drop-cons, take_all, eq-eqb, ne_eqb}
use Rattle.std.specs.Float.Ieee.Fits.{and_l, and_r}
use Rattle.laws.specs.Tables.{every}
use Rattle.laws.specs.laws.Laid.{Laid, Halfway, halfway_end, laid_part}
use Rattle.order_sizes.specs.declared.OrderSize.{OrderSize}
use Rattle.order_sizes.specs.BlockSizes.{BLOCK_SIZES, width_of, height_of}
use Rattle.order_sizes.specs.laws.BlockSizes.{block_size}
use Rattle.order_natural.specs.Places.{Place, flat}
use Rattle.order_natural.specs.Natural.{natural}
use Rattle.order_natural.specs.laws.Sizes.{right}
use Rattle.order_natural.proofs.laws.Sizes.{of_right, all_right, size_of}
use Rattle.order_natural.proofs.laws.Turns.{natural_numbers}
use Rattle.order_natural.specs.laws.Filling.{three_of}
use Rattle.order_store.specs.Store.{PLACES, stored, thrice, before, first_of}
use Rattle.order_store.specs.laws.Offsets.{first_step, first_most, first_channel, sizes_13, store_places, places_by}
use Rattle.order_naturals.specs.Naturals.{naturals}

unfoldable pub whole_store : List ℕ → Bool
whole_store store = eqb (length store) (2 * PLACES)

unfoldable pub natural_store : List ℕ → List ℕ
natural_store store = cond (whole_store store) (stored (naturals BLOCK_SIZES)) store

list_long : (k : ℕ) → k < 13 → length (flat (natural (width_of k) (height_of k))) ≡ 2 * (width_of k * height_of k)
list_long k h = natural_numbers (width_of k) (height_of k) (size_of k h)

three_long : (k : ℕ) → k < 13 → length (three_of k) ≡ 3 * (2 * (width_of k * height_of k))
unfolding three_of
three_long k h =
    let l = flat (natural (width_of k) (height_of k)) in
    omega (arith, length-append l (l ++ l), length-append l l, list_long k h)

-- what is left to write from order k on
unfoldable pub from_order : ℕ → List ℕ
from_order k = stored (naturals (drop k BLOCK_SIZES))

naturals_long : (ss : List Place) → T (every right ss) → length (stored (naturals ss)) ≡ 2 * before (thrice ss) (length (thrice ss))
naturals_long [] t = refl
naturals_long (s ∷ ss) t =
    let r = naturals_long ss (and_r (right s) (every right ss) t) in
    let n = flat (natural s.0 s.1) in
    let m = natural_numbers s.0 s.1 (of_right s (and_l (right s) (every right ss) t)) in
    omega (
      arith,
      length-append n (n ++ (n ++ stored (naturals ss))),
      length-append n (n ++ stored (naturals ss)),
      length-append n (stored (naturals ss)),
    )

pub whole_long : length (stored (naturals BLOCK_SIZES)) ≡ 787968
whole_long = naturals_long BLOCK_SIZES all_right ∙ omega (arith, store_places, places_by)

pub order_turn : (k : ℕ) → k < 13 → from_order k ≡ three_of k ++ from_order (k + 1)
unfolding from_order three_of width_of height_of
order_turn k h =
    let d : drop k BLOCK_SIZES ≡ get_or BLOCK_SIZES k (0, 0) ∷ drop (suc k) BLOCK_SIZES = drop-cons BLOCK_SIZES k (0, 0) (omega (arith, sizes_13)) in
    let l = flat (natural (width_of k) (height_of k)) in
    rw (d, add-one k) (sym (append_assoc l (l ++ l) (stored (naturals (drop (suc k) BLOCK_SIZES))) ∙ rw (append_assoc l l (stored (naturals (drop (suc k) BLOCK_SIZES))))))

pub order_start : from_order 0 ≡ stored (naturals BLOCK_SIZES)
unfolding from_order
order_start = refl

order_end : (k : ℕ) → 13 ≤ k → from_order k ≡ []
unfolding from_order
order_end k h = let n : length BLOCK_SIZES ≤ k = omega (arith, sizes_13) in rw (drop_of_length-le BLOCK_SIZES n)

module _ (k : ℕ) (h : k < 13) (s : OrderSize) (e : s ≡ block_size k) (first : ℕ) (b : first ≡ first_of (3 * k)) where
  pub record OrderAt : Type 0 where
    pub next : first + 3 * (2 * (s.width * s.height)) ≡ first_of (3 * (k + 1))
    pub room : first + 3 * (2 * (s.width * s.height)) ≤ 787968
    pub size : 2 * (s.width * s.height) ≡ 2 * (width_of k * height_of k)

  pub order_at : OrderAt
  order_at =
      let a : s.width * s.height ≡ width_of k * height_of k = rw e in
      let d : (3 * k + 2) / 3 ≡ k = omega arith in
      let f = rw d at (first_step (3 * k + 2) (omega arith)) in
      let c = first_channel k 2 h (omega arith) in
      let n : 3 * k + 2 + 1 ≡ 3 * (k + 1) = omega arith in
      let f' : first_of (3 * (k + 1)) ≡ first_of (3 * k + 2) + 2 * (width_of k * height_of k) = rw n at f in
      record { next = omega arith; room = omega (arith, first_most (3 * (k + 1)) (omega arith)); size = omega arith }

  -- the three lists lie in the store
  pub order_laid : (st st' : List ℕ) → length st ≡ 787968 → (part : List ℕ) → part ≡ three_of k → st' ≡ take first st ++ (part ++ drop (first + 3 * (2 * (s.width * s.height)) - first) (drop first st))
      → Laid st st' first (three_of k) (first + 3 * (2 * (s.width * s.height)))
  order_laid st st' n part p w =
      let e = first + 3 * (2 * (s.width * s.height)) in
      let o = order_at in
      rw p at (laid_part st st' first e part (omega (arith, o.room)) (omega arith) (ap length p ∙ three_long k h ∙ omega (arith, o.size)) w)

pub all_written : (st st₀ : List ℕ) (k first : ℕ) → 13 ≤ k → length st₀ ≡ 787968 → Halfway st₀ st 0 (stored (naturals BLOCK_SIZES)) first (from_order k) → (true ≡ whole_store st₀) × (st ≡ natural_store st₀)
unfolding whole_store natural_store
all_written st st₀ k first h n w =
    let l = halfway_end st₀ st 0 (stored (naturals BLOCK_SIZES)) first (from_order k) (order_end k h) w in
    let a : length st ≤ first = omega (arith, l.end, l.long, whole_long) in
    let f : st ≡ stored (naturals BLOCK_SIZES) = sym (take_all first st a) ∙ l.front in
    (rw (eq-eqb (length st₀) (2 * PLACES) (n ∙ sym places_by)), rw (eq-eqb (length st₀) (2 * PLACES) (n ∙ sym places_by)) f)

pub none_written : (st : List ℕ) → (length st ≡ 787968 → ⊥) → (false ≡ whole_store st) × (st ≡ natural_store st)
unfolding whole_store natural_store
none_written st n = (rw (ne_eqb (length st) (2 * PLACES) (λ e. n (e ∙ places_by))), rw (ne_eqb (length st) (2 * PLACES) (λ e. n (e ∙ places_by))))

pub natural_store_lem : (store : List ℕ) → length store ≡ 787968 → natural_store store ≡ stored (naturals BLOCK_SIZES)
unfolding whole_store natural_store
natural_store_lem store n = rw (eq-eqb (length store) (2 * PLACES) (n ∙ sym places_by))
