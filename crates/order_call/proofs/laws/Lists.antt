-- One list, as the code reads it.
use Rattle.std.specs.Prelude.{◌≡◌, Bool, true, false, cond, List, [], ◌∷◌, ℕ, zero, suc, ◌+◌, ◌*◌, ◌-◌, ◌/◌, ◌<◌, ◌≤◌, ltb, length, take, drop, Result, Ok, Err}
use Rattle.std.proofs.Math.Path.{refl}
use Rattle.std.proofs.Common.{ap, sym, ◌∙◌, div-le_self, arith, length-drop, length-take-le, take_all}
use Rattle.std.proofs.Math.Numerals.{add-one}
use Rattle.std.proofs.Math.ListN.{get_or, drop_of_length-le}
use Rattle.std.proofs.Math.Seq.{drop-cons}
use borrow.Author.Tests.{lt-ltb, le-leb, lt-leb}
use Rattle.refusal.specs.declared.Refusal.{Refusal}
use Rattle.refusal.specs.declared.Refusal.TheVariants as refusal
use Rattle.order_natural.specs.Places.{Place, flat, paired}
use Rattle.order_natural.specs.Natural.{natural}
use Rattle.order_natural.specs.Order.{Size}
use Rattle.order_natural.proofs.laws.Sizes.{not_higher}
use Rattle.order_natural.proofs.laws.Turns.{natural_numbers}
use Rattle.order_natural.proofs.laws.Order.{natural_facts}
use Rattle.order_permutation.specs.Digits.{ordered}
use Rattle.order_digits.specs.laws.Leading.{leading}
use Rattle.order_digits.proofs.laws.Leading.{leading_most}
use Rattle.order_permutation.specs.laws.Permuted.{all_below, permuted}
use Rattle.order_natural.proofs.laws.Flat.{paired_flat}
use Rattle.order_permutation.specs.laws.Permuting.{moved}
use Rattle.order_call.specs.Orders.{FromSymbols, Given, Refused, and_then, check, digits, by_digits, one_list, entry_list}
use Rattle.order_call.specs.laws.Lists.{Listed}

-- digits, by how many of those that are there are below what remains
pub digits_large : (n left : ℕ) (us : List ℕ) (at many : ℕ) → many ≤ n → many ≤ length us → leading (take many us) left < many
    → digits n left us at ≡ Refused (refusal.Order (at + leading (take many us) left + 1))
unfolding digits leading
digits_large n left us at zero a b h = absurd (omega arith)
digits_large zero left us at (suc many) a b h = absurd (omega arith)
digits_large (suc n) left [] at (suc many) a b h = absurd (omega arith)
digits_large (suc n) left (u ∷ us) at (suc many) a b h = go (ltb u left) h (digits_large n (left - 1) us (at + 1) many (omega arith) (omega arith))
  where
    go : (ok : Bool) → cond ok (suc (leading (take many us) (left - 1))) 0 < suc many
        → (leading (take many us) (left - 1) < many → digits n (left - 1) us (at + 1) ≡ Refused (refusal.Order (at + 1 + leading (take many us) (left - 1) + 1)))
        → check ok (at + 1) (and_then (digits n (left - 1) us (at + 1)) (λ ds. Given (u ∷ ds))) ≡ Refused (refusal.Order (at + cond ok (suc (leading (take many us) (left - 1))) 0 + 1))
    go true h r =
        let e : at + 1 + leading (take many us) (left - 1) + 1 ≡ at + suc (leading (take many us) (left - 1)) + 1 = omega arith in
        rw (r (omega arith), e)
    go false h r = let e : at + 1 ≡ at + 0 + 1 = omega arith in ap (λ (k : ℕ). Refused (refusal.Order k)) e

pub digits_short : (n left : ℕ) (us : List ℕ) (at : ℕ) → length us < n → leading us left ≡ length us → digits n left us at ≡ Refused (refusal.SymbolsEnd (at + length us))
unfolding digits leading
digits_short zero left us at a e = absurd (omega arith)
digits_short (suc n) left [] at a e = ap (λ (k : ℕ). Refused (refusal.SymbolsEnd k)) (omega arith)
digits_short (suc n) left (u ∷ us) at a e = go (ltb u left) e (digits_short n (left - 1) us (at + 1) (omega arith))
  where
    go : (ok : Bool) → cond ok (suc (leading us (left - 1))) 0 ≡ suc (length us)
        → (leading us (left - 1) ≡ length us → digits n (left - 1) us (at + 1) ≡ Refused (refusal.SymbolsEnd (at + 1 + length us)))
        → check ok (at + 1) (and_then (digits n (left - 1) us (at + 1)) (λ ds. Given (u ∷ ds))) ≡ Refused (refusal.SymbolsEnd (at + suc (length us)))
    go true h r = let f : at + 1 + length us ≡ at + suc (length us) = omega arith in rw (r (omega arith), f)
    go false h r = absurd (omega arith)

pub digits_all : (n left : ℕ) (us : List ℕ) (at : ℕ) → n ≤ length us → leading (take n us) left ≡ n → digits n left us at ≡ Given (take n us) (drop n us) (at + n)
unfolding digits leading
digits_all zero left us at a e = ap (λ (k : ℕ). Given [] us k) (omega arith)
digits_all (suc n) left [] at a e = absurd (omega arith)
digits_all (suc n) left (u ∷ us) at a e = go (ltb u left) e (digits_all n (left - 1) us (at + 1) (omega arith))
  where
    go : (ok : Bool) → cond ok (suc (leading (take n us) (left - 1))) 0 ≡ suc n
        → (leading (take n us) (left - 1) ≡ n → digits n (left - 1) us (at + 1) ≡ Given (take n us) (drop n us) (at + 1 + n))
        → check ok (at + 1) (and_then (digits n (left - 1) us (at + 1)) (λ ds. Given (u ∷ ds))) ≡ Given (u ∷ take n us) (drop n us) (at + suc n)
    go true h r = let f : at + 1 + n ≡ at + suc n = omega arith in rw (r (omega arith), f)
    go false h r = absurd (omega arith)

flat_below : (m : ℕ) (l : List Place) → ((i : ℕ) → i < length l → ((get_or l i (0, 0)).0 < m) × ((get_or l i (0, 0)).1 < m)) → all_below m (flat l) ≡ true
unfolding all_below
flat_below m [] f = refl
flat_below m (p ∷ l) f =
    let a = f 0 (omega arith) in
    rw (lt-ltb p.0 m a.0, lt-ltb p.1 m a.1) (flat_below m l (λ i b. f (suc i) (omega arith)))

module _ (width height : ℕ) (z : Size width height) (narrow : width ≤ 256) (small : width * height ≤ 65536) where
  -- the natural order can be permuted in place
  natural_permuted : (ds : List ℕ) → leading ds (width * height - width * height / 64) ≡ length ds
      → permuted (flat (natural width height)) (width * height / 64) ds ≡ flat (ordered (0, 0) (width * height / 64) (natural width height) ds)
  natural_permuted ds e =
      let l = flat (natural width height) in
      let n : length l ≡ 2 * (width * height) = natural_numbers width height z in
      let half : length l / 2 ≡ width * height = omega arith in
      let inside = (natural_facts width height z).inside in
      let below = flat_below 256 (natural width height) (λ i h. let f = inside i h in (omega (arith, f.0), omega (arith, f.1, not_higher width height z))) in
      let e' : leading ds (length l / 2 - width * height / 64) ≡ length ds = rw half e in
      let m = moved l (width * height / 64) ds (omega arith) (omega arith) (omega (arith, div-le_self (width * height) 64)) below (flat (ordered (0, 0) (width * height / 64) (paired l) ds)) e' refl in
      sym m.1 ∙ rw (paired_flat (natural width height))

  -- n digits from symbol at on: `many` of them are there, `good` of those are below what remains
  module _ (symbols : List ℕ) (at n many good : ℕ) (few : many ≤ n) (there : many ≤ length symbols - at)
      (eg : good ≡ leading (take (at + many - at) (drop at symbols)) (width * height - width * height / 64)) where
    many_by : at + many - at ≡ many
    many_by = omega arith

    good_by : good ≡ leading (take many (drop at symbols)) (width * height - width * height / 64)
    good_by = rw many_by at eg

    there' : many ≤ length (drop at symbols)
    there' = omega (arith, length-drop at symbols)

    pub digits_too_large : (m : List ℕ) → good < many → Listed (by_digits width height n (drop at symbols) at) (Err (refusal.Order (at + good + 1))) m
    digits_too_large m g =
        let g' : leading (take many (drop at symbols)) (width * height - width * height / 64) < many = rw good_by at g in
        rw (digits_large n (width * height - width * height / 64) (drop at symbols) at many few there' g', good_by) refl

    all_good : many ≤ good → leading (take many (drop at symbols)) (width * height - width * height / 64) ≡ many
    all_good g = let us = drop at symbols in omega (arith, good_by, leading_most (take many us) (width * height - width * height / 64), length-take-le many us there')

    pub digits_ended : (m : List ℕ) → many ≤ good → many < n → many ≡ length symbols - at → Listed (by_digits width height n (drop at symbols) at) (Err (refusal.SymbolsEnd (at + many))) m
    digits_ended m g f e =
        let us = drop at symbols in
        let l : many ≡ length us = omega (arith, length-drop at symbols) in
        let t : take many us ≡ us = take_all many us (omega arith) in
        let a : leading us (width * height - width * height / 64) ≡ length us = rw t at (all_good g) ∙ l in
        rw (digits_short n (width * height - width * height / 64) us at (omega arith) a, l) refl

    pub digits_read : (l m : List ℕ) → many ≤ good → n ≤ many → l ≡ flat (natural width height)
        → m ≡ permuted l (width * height / 64) (take (at + many - at) (drop at symbols)) → Listed (by_digits width height n (drop at symbols) at) (Ok (at + many)) m
    digits_read l m g f el em =
        let us = drop at symbols in
        let e : n ≡ many = omega arith in
        let a = all_good g in
        let a' : leading (take n us) (width * height - width * height / 64) ≡ n = rw e a in
        let a'' : leading (take many us) (width * height - width * height / 64) ≡ length (take many us) = a ∙ sym (length-take-le many us there') in
        let p : m ≡ flat (ordered (0, 0) (width * height / 64) (natural width height) (take many us)) = em ∙ rw (el, many_by) (natural_permuted (take many us) a'') in
        rw (digits_all n (width * height - width * height / 64) us at (omega (arith, there')) a', e) (refl, p)

-- the ways out of a list that its length, the symbol behind `at`, decides
module _ (width height : ℕ) (symbols : List ℕ) (at : ℕ) (used : Bool) where
  abbrev whole_list : FromSymbols (List Place)
  whole_list = entry_list used width height (drop at symbols) at

  pub list_unused : (m : List ℕ) → used ≡ false → m ≡ flat (natural width height) → Listed whole_list (Ok at) m
  list_unused m u e = rw u (refl, e)

  pub list_short : (m : List ℕ) → used ≡ true → length symbols ≤ at → Listed whole_list (Err (refusal.SymbolsEnd at)) m
  unfolding one_list
  list_short m u h = rw (u, drop_of_length-le symbols h) refl

  module _ (u : used ≡ true) (h : at < length symbols) (n : ℕ) (en : n ≡ get_or symbols at 0) where
    pub list_large : (m : List ℕ) → width * height - width * height / 64 < n → Listed whole_list (Err (refusal.Order (at + 1))) m
    unfolding one_list
    list_large m b =
        let b' : width * height - width * height / 64 < get_or symbols at 0 = rw en at b in
        rw (u, drop-cons symbols at 0 h, lt-leb (get_or symbols at 0) (width * height - width * height / 64) b') refl

    by_digits_lem : n ≤ width * height - width * height / 64 → entry_list true width height (drop at symbols) at ≡ by_digits width height n (drop (at + 1) symbols) (at + 1)
    unfolding one_list
    by_digits_lem b =
        let b' : get_or symbols at 0 ≤ width * height - width * height / 64 = rw en at b in
        rw (drop-cons symbols at 0 h, le-leb (get_or symbols at 0) (width * height - width * height / 64) b', en, add-one at)

    pub list_digits : (r : Result ℕ Refusal) (m : List ℕ) → n ≤ width * height - width * height / 64 → Listed (by_digits width height n (drop (at + 1) symbols) (at + 1)) r m → Listed whole_list r m
    list_digits r m b l = rw (u, by_digits_lem b) l
