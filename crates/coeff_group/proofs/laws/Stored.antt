-- The stretches of a whole store: how long they are, and where the three of an order stand.
use Rattle.std.specs.Prelude.{◌≡◌, List, ℕ, zero, suc, ◌+◌, ◌*◌, ◌/◌, ◌<◌, ◌≤◌, take, drop}
use Rattle.std.proofs.Math.Path.{ap}
use Rattle.std.proofs.Common.{sym, ◌∙◌}
use native.Mathlib.Omega.{arith}
use Rattle.std.proofs.Math.ListN.{length, length-drop}
use Rattle.std.proofs.Math.Seq.{length-take-le}
use borrow.Author.Tests.{lt-ltb, eq-eqb}
use Rattle.order_sizes.specs.BlockSizes.{BLOCK_SIZES, width_of, height_of}
use Rattle.order_store.specs.Store.{PLACES, thrice, before, stretch, first_of}
use Rattle.order_store.specs.laws.Offsets.{first_step, first_most, first_channel, places_by}
use Rattle.order_store.specs.LookedUp.{stretch_from, stretch_at}
use Rattle.order_store.specs.declared.Stretch.{Stretch}

module _ (store : List ℕ) (whole : length store ≡ 2 * PLACES) (o c : ℕ) (h : o < 13) (l : c < 3) where
  stretch_is : stretch store o c ≡ take (2 * (width_of o * height_of o)) (drop (2 * before (thrice BLOCK_SIZES) (3 * o + c)) store)
  unfolding stretch
  stretch_is = rw (lt-ltb o 13 h, lt-ltb c 3 l, eq-eqb (length store) (2 * PLACES) whole)

  third : (3 * o + c) / 3 ≡ o
  third = omega arith

  pub stretch_long : length (stretch store o c) ≡ 2 * (width_of o * height_of o)
  unfolding first_of
  stretch_long =
      let i = 3 * o + c in
      let a : first_of (i + 1) ≡ first_of i + 2 * (width_of (i / 3) * height_of (i / 3)) = first_step i (omega arith) in
      let b : first_of (i + 1) ≤ 787968 = first_most (i + 1) (omega arith) in
      let e : width_of (i / 3) * height_of (i / 3) ≡ width_of o * height_of o = rw third in
      let d = length-drop (2 * before (thrice BLOCK_SIZES) i) store in
      ap length stretch_is ∙ length-take-le (2 * (width_of o * height_of o)) (drop (2 * before (thrice BLOCK_SIZES) i) store) (omega (arith, places_by))

-- the lists of channels 0, 1, 2 stand one behind the other: `lists` is where that of channel 0 lies
module _ (store : List ℕ) (whole : length store ≡ 2 * PLACES) (o : ℕ) (h : o < 13) (lists : Stretch) (e : lists ≡ stretch_at (length store) o 0) where
  pub lists_are : lists ≡ stretch_from (first_of (3 * o)) (2 * (width_of o * height_of o))
  unfolding stretch_at
  lists_are =
      let z : 3 * o + 0 ≡ 3 * o = omega arith in
      e ∙ rw (lt-ltb o 13 h, eq-eqb (length store) (2 * PLACES) whole, z)

  -- channel c's begins behind c of them
  first_is : (c : ℕ) → c < 3 → lists.first + c * lists.len ≡ first_of (3 * o + c)
  first_is c l = rw lists_are (sym (first_channel o c h l))

  pub lists_end : lists.first + 3 * lists.len ≤ length store
  lists_end =
      let i = 3 * o + 2 in
      let t : i / 3 ≡ o = omega arith in
      let n : lists.len ≡ 2 * (width_of o * height_of o) = ap (λ (s : Stretch). s.len) lists_are in
      let f = rw t at (first_step i (omega arith)) in
      omega (arith, first_is 2 (omega arith), first_most (i + 1) (omega arith), places_by)

  pub list_is : (c : ℕ) → c < 3 → take lists.len (drop (lists.first + c * lists.len) store) ≡ stretch store o c
  unfolding first_of
  list_is c l =
      let n : lists.len ≡ 2 * (width_of o * height_of o) = ap (λ (s : Stretch). s.len) lists_are in
      rw (first_is c l, n) (sym (stretch_is store whole o c h l))

-- the c-th of three ends within the three
pub of_three : (c n : ℕ) → c < 3 → c * n + n ≤ 3 * n
of_three zero n h = omega arith
of_three (suc zero) n h = omega arith
of_three (suc (suc zero)) n h = omega arith
of_three (suc (suc (suc c))) n h = absurd (omega arith)
