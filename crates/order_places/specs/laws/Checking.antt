-- The check of stored places, list by list.
use Rattle.std.specs.Prelude.{◌≡◌, Bool, true, false, ◌&&◌, List, ◌∷◌, ℕ, suc, ◌+◌, ◌*◌, ◌-◌, ◌/◌, ◌<◌, ◌≤◌, length, get_or, take, drop}
use Rattle.std.proofs.Common.{sym, ◌∙◌, add-one, arith, drop_of_length-le, drop-cons, drop-drop, eq-eqb, ne_eqb}
use Rattle.order_sizes.specs.declared.OrderSize.{OrderSize}
use Rattle.order_sizes.specs.BlockSizes.{BLOCK_SIZES, width_of, height_of}
use Rattle.order_sizes.specs.laws.BlockSizes.{block_size}
use Rattle.order_store.specs.Store.{PLACES, thrice, inside_all, lists_fit, places_fit, first_of}
use Rattle.order_store.specs.laws.Offsets.{first_step, first_start, first_most, lists_39, list_size, places_by}
use Rattle.order_places.specs.laws.Powers.{Power, width_power, height_power}

-- the lists from i on
unfoldable pub fit_from : List ℕ → ℕ → Bool
fit_from store i = lists_fit (drop i (thrice BLOCK_SIZES)) (drop (first_of i) store)

pub fit_start : (store : List ℕ) → length store ≡ 787968 → fit_from store 0 ≡ places_fit store
unfolding fit_from places_fit
fit_start store n = rw (first_start, eq-eqb (length store) (2 * PLACES) (n ∙ sym places_by))

pub fit_length : (store : List ℕ) → (length store ≡ 787968 → ⊥) → false ≡ places_fit store
unfolding places_fit
fit_length store n = rw (ne_eqb (length store) (2 * PLACES) (λ e. n (e ∙ places_by)))

pub fit_end : (store : List ℕ) (i : ℕ) → 39 ≤ i → fit_from store i ≡ true
unfolding fit_from
fit_end store i h = let k : length (thrice BLOCK_SIZES) ≤ i = omega (arith, lists_39) in rw (drop_of_length-le (thrice BLOCK_SIZES) k)

-- list i, and those behind it
pub fit_next : (store : List ℕ) (i : ℕ) → i < 39
    → fit_from store i ≡ (inside_all (width_of (i / 3)) (height_of (i / 3)) (take (2 * (width_of (i / 3) * height_of (i / 3))) (drop (first_of i) store)) && fit_from store (i + 1))
unfolding fit_from width_of height_of
fit_next store i h =
    let m = 2 * (width_of (i / 3) * height_of (i / 3)) in
    let p : drop i (thrice BLOCK_SIZES) ≡ get_or BLOCK_SIZES (i / 3) (0, 0) ∷ drop (suc i) (thrice BLOCK_SIZES) = drop-cons (thrice BLOCK_SIZES) i (0, 0) (omega (arith, lists_39)) ∙ rw (list_size i h) in
    let q : drop (first_of (i + 1)) store ≡ drop m (drop (first_of i) store) = rw (first_step i h) (sym (drop-drop m (first_of i) store)) in
    rw (p, q, add-one i)

module _ (store : List ℕ) (i : ℕ) (h : i < 39) (s : OrderSize) (e : s ≡ block_size (i / 3)) (first : ℕ) (b : first ≡ first_of i) where
  -- what the code knows of list i
  pub record ListAt : Type 0 where
    pub next : first + 2 * (s.width * s.height) ≡ first_of (i + 1)
    pub room : first + 2 * (s.width * s.height) ≤ 787968
    pub width : Power s.width
    pub height : Power s.height

  pub list_at : ListAt
  list_at =
      let n : first + 2 * (s.width * s.height) ≡ first_of (i + 1) = rw (e, b) (sym (first_step i h)) in
      record { next = n; room = omega (arith, first_most (i + 1) (omega arith)); width = rw e (width_power (i / 3) (omega arith)); height = rw e (height_power (i / 3) (omega arith)) }

  abbrev pub part : List ℕ
  part = take (first + 2 * (s.width * s.height) - first) (drop first store)

  pub fit_turn : fit_from store i ≡ (inside_all s.width s.height part && fit_from store (i + 1))
  fit_turn =
      let z : first + 2 * (s.width * s.height) - first ≡ 2 * (s.width * s.height) = omega arith in
      rw (z, b, e) (fit_next store i h)

  pub fit_stop : inside_all s.width s.height part ≡ false → fit_from store i ≡ false
  fit_stop f = fit_turn ∙ rw f
