-- The stretches of a store that an accepted order call wrote.
use Rattle.std.specs.Prelude.{◌≡◌, refl, true, ℕ, zero, suc, ◌+◌, ◌*◌, ◌<◌, ◌≤◌, get_or, drop}
use Rattle.std.proofs.Common.{ap, ◌∙◌, le_of_suc-le-suc, arith, length-append, take_at, drop_at}
use mathlib.Core.List.{List, [], ◌∷◌}
use Rattle.std.proofs.Math.ListN.{length}
use Rattle.std.proofs.Math.Seq.{drop-append-add, drop-cons}
use borrow.Author.Tests.{lt-ltb, eq-eqb}
use Rattle.order_natural.specs.Places.{Place, flat}
use Rattle.order_natural.specs.Order.{Order}
use Rattle.order_sizes.specs.BlockSizes.{BLOCK_SIZES, width_of, height_of}
use Rattle.order_store.specs.laws.Offsets.{store_places}
use Rattle.order_call.specs.Orders.{Given, plan, orders}
use Rattle.order_natural.proofs.laws.Turns.{flat_length}
use Rattle.order_store.specs.Store.{stored, thrice, places_in, before, PLACES, stretch, inside_all, lists_fit, places_fit}
use Rattle.order_natural.proofs.laws.Listing.{listing_length, listing_inside}
use Rattle.order_call.specs.laws.Read.{Each}
use Rattle.order_call.proofs.laws.Accepted.{orders_accepted}

-- each list is an order of its size
abbrev Laid : List Place → List (List Place) → Type 0
Laid [] [] = Unit
Laid [] (l ∷ ls) = ⊥
Laid (s ∷ ss) [] = ⊥
Laid (s ∷ ss) (l ∷ ls) = Order s.0 s.1 l × Laid ss ls

laid_flat : (s : Place) (l : List Place) → Order s.0 s.1 l → length (flat l) ≡ 2 * places_in s
laid_flat s l o = omega (arith, flat_length l, listing_length s.0 s.1 l o.cells)

laid_drop : (ss : List Place) (ls : List (List Place)) (i : ℕ) → Laid ss ls → i ≤ length ls → drop (2 * before ss i) (stored ls) ≡ stored (drop i ls)
laid_drop [] [] zero h k = refl
laid_drop [] [] (suc i) h k = refl
laid_drop [] (l ∷ ls) i h k = absurd h
laid_drop (s ∷ ss) [] i h k = absurd h
laid_drop (s ∷ ss) (l ∷ ls) zero h k = refl
laid_drop (s ∷ ss) (l ∷ ls) (suc i) h k =
    let e : 2 * (places_in s + before ss i) ≡ length (flat l) + 2 * before ss i = omega (arith, laid_flat s l h.0) in
    rw e (drop-append-add (flat l) (stored ls) (2 * before ss i) ∙ laid_drop ss ls i h.1 (le_of_suc-le-suc k))

laid_length : (ss : List Place) (ls : List (List Place)) → Laid ss ls → length (stored ls) ≡ 2 * before ss (length ss)
laid_length [] [] h = refl
laid_length [] (l ∷ ls) h = absurd h
laid_length (s ∷ ss) [] h = absurd h
laid_length (s ∷ ss) (l ∷ ls) h = let r = laid_length ss ls h.1 in omega (arith, length-append (flat l) (stored ls), laid_flat s l h.0)

inside_flat : (w h : ℕ) (l : List Place) → ((i : ℕ) → i < length l → ((get_or l i (0, 0)).0 < w) × ((get_or l i (0, 0)).1 < h)) → inside_all w h (flat l) ≡ true
inside_flat w h [] f = refl
inside_flat w h (p ∷ l) f =
    let a = f 0 (omega arith) in
    rw (lt-ltb p.0 w a.0, lt-ltb p.1 h a.1) (inside_flat w h l (λ i b. f (suc i) (omega arith)))

laid_fits : (ss : List Place) (ls : List (List Place)) → Laid ss ls → lists_fit ss (stored ls) ≡ true
laid_fits [] [] h = refl
laid_fits [] (l ∷ ls) h = absurd h
laid_fits (s ∷ ss) [] h = absurd h
laid_fits (s ∷ ss) (l ∷ ls) h =
    let n = laid_flat s l h.0 in
    rw (take_at (flat l) (stored ls) (2 * places_in s) n, drop_at (flat l) (stored ls) (2 * places_in s) n, inside_flat s.0 s.1 l (listing_inside s.0 s.1 l h.0.cells)) (laid_fits ss ls h.1)

each_laid : (used k : ℕ) (ss : List Place) (ls : List (List Place)) → Each (plan used k ss) ls → Laid (thrice ss) ls
each_laid used k [] [] h = tt
each_laid used k [] (l ∷ ls) h = h
each_laid used k (s ∷ ss) [] h = h
each_laid used k (s ∷ ss) (a ∷ []) h = absurd h.1
each_laid used k (s ∷ ss) (a ∷ b ∷ []) h = absurd h.1.1
each_laid used k (s ∷ ss) (a ∷ b ∷ c ∷ ls) h =
    (h.0.order, (h.1.0.order, (h.1.1.0.order, each_laid used (k + 1) ss ls h.1.1.1)))

module _ (used : ℕ) (us : List ℕ) (ls : List (List Place)) (vs : List ℕ) (m : ℕ) (e : orders used us ≡ Given ls vs m) where
  laid : Laid (thrice BLOCK_SIZES) ls
  laid = each_laid used 0 BLOCK_SIZES ls (orders_accepted used us ls vs m e).entries

  pub store_length : length (stored ls) ≡ 2 * PLACES
  store_length = laid_length (thrice BLOCK_SIZES) ls laid ∙ ap (λ (n : ℕ). 2 * n) store_places

  -- looking a list up gives that list
  pub stretch_list : (k c : ℕ) → k < 13 → c < 3 → stretch (stored ls) k c ≡ flat (get_or ls (3 * k + c) [])
  unfolding stretch width_of height_of
  stretch_list k c h l =
      let a = orders_accepted used us ls vs m e in
      let i = 3 * k + c in
      let n : i < length ls = omega (arith, a.many) in
      rw (lt-ltb k 13 h, lt-ltb c 3 l, eq-eqb (length (stored ls)) (2 * PLACES) store_length)
      (rw (laid_drop (thrice BLOCK_SIZES) ls i laid (omega arith), drop-cons ls i [] n)
      (take_at (flat (get_or ls i [])) (stored (drop (suc i) ls)) (2 * (width_of k * height_of k)) (laid_flat (width_of k, height_of k) (get_or ls i []) (a.list k c h l).order)))

  -- and every stored place is inside: the coefficient call's test passes
  pub accepted_fits : places_fit (stored ls) ≡ true
  unfolding places_fit
  accepted_fits = rw (eq-eqb (length (stored ls)) (2 * PLACES) store_length) (laid_fits (thrice BLOCK_SIZES) ls laid)
