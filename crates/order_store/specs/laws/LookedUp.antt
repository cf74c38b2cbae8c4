-- Laws: Looking a list up (document 01, Orders).
use Rattle.std.specs.Prelude.{◌≡◌, refl, Bool, true, false, cond, ◌&&◌, List, [], ℕ, ◌+◌, ◌*◌, ◌-◌, ◌/◌, ◌<◌, ◌≤◌, eqb, ltb, length, take, drop}
use Rattle.std.proofs.Math.Path.{sym}
use Rattle.std.proofs.Common.{◌∙◌, arith}
use borrow.Author.Tests.{lt-ltb, le-ltb, eq-eqb, ne_eqb, ltb-true, eqb-true}
use Rattle.order_sizes.specs.BlockSizes.{BLOCK_SIZES, width_of, height_of}
use Rattle.order_natural.proofs.laws.Bools.{and_false}
use Rattle.order_store.specs.declared.Stretch.{Stretch}
use Rattle.order_store.specs.Store.{PLACES, before, thrice, stretch, first_of}
use Rattle.order_store.specs.laws.Offsets.{first_step, first_most, first_channel, places_by}
use Rattle.order_store.specs.LookedUp.{stretch_at, stretch_from}

-- the stretch is that part of the store
pub stretch_at_lem : (store : List ℕ) (k c : ℕ) → stretch store k c ≡ take (stretch_at (length store) k c).len (drop (stretch_at (length store) k c).first store)
unfolding stretch stretch_at first_of
stretch_at_lem store k c = go (ltb k 13 && (ltb c 3 && eqb (length store) (2 * PLACES)))
  where
    go : (b : Bool)
        → cond b (take (2 * (width_of k * height_of k)) (drop (2 * before (thrice BLOCK_SIZES) (3 * k + c)) store)) []
        ≡ take (cond b (stretch_from (2 * before (thrice BLOCK_SIZES) (3 * k + c)) (2 * (width_of k * height_of k))) (stretch_from 0 0)).len (drop (cond b (stretch_from (2 * before (thrice BLOCK_SIZES) (3 * k + c)) (2 * (width_of k * height_of k))) (stretch_from 0 0)).first store)
    go true = refl
    go false = refl

-- an order above 12, a channel above 2, a store of another length: nowhere
pub stretch_order : (numbers k c : ℕ) → 13 ≤ k → stretch_from 0 0 ≡ stretch_at numbers k c
unfolding stretch_at
stretch_order numbers k c h = rw (le-ltb k 13 h)

pub stretch_channel : (numbers k c : ℕ) → 3 ≤ c → stretch_from 0 0 ≡ stretch_at numbers k c
unfolding stretch_at
stretch_channel numbers k c h = rw (le-ltb c 3 h, and_false (ltb k 13))

pub stretch_length : (numbers k c : ℕ) → (numbers ≡ 787968 → ⊥) → stretch_from 0 0 ≡ stretch_at numbers k c
unfolding stretch_at
stretch_length numbers k c h = rw (ne_eqb numbers (2 * PLACES) (λ e. h (e ∙ places_by)), and_false (ltb c 3), and_false (ltb k 13))

module _ (k c : ℕ) (h : k < 13) (l : c < 3) (n : ℕ) (e : n ≡ 2 * (width_of k * height_of k)) (a : ℕ) (b : a ≡ first_of (3 * k)) where
  -- the list lies inside the store
  pub record Spot : Type 0 where
    pub place : a + c * n ≡ first_of (3 * k + c)
    pub room : a + c * n + n ≤ 787968

  pub spot : Spot
  spot =
      let p : a + c * n ≡ first_of (3 * k + c) = rw (b, e) (sym (first_channel k c h l)) in
      let d : (3 * k + c) / 3 ≡ k = omega arith in
      let f = rw d at (first_step (3 * k + c) (omega arith)) in
      record { place = p; room = omega (arith, first_most (3 * k + c + 1) (omega arith)) }

  pub found : (numbers : ℕ) → numbers ≡ 787968 → stretch_from (a + c * n) n ≡ stretch_at numbers k c
  unfolding stretch_at
  found numbers m = rw (spot.place, e, lt-ltb k 13 h, lt-ltb c 3 l, eq-eqb numbers (2 * PLACES) (m ∙ sym places_by))

-- a stretch ends inside its store
pub stretch_inside : (numbers k c : ℕ) → (stretch_at numbers k c).first + (stretch_at numbers k c).len ≤ numbers
unfolding stretch_at
stretch_inside numbers k c = go (ltb k 13) refl (ltb c 3) refl (eqb numbers (2 * PLACES)) refl
  where
    go : (p : Bool) → ltb k 13 ≡ p → (q : Bool) → ltb c 3 ≡ q → (r : Bool) → eqb numbers (2 * PLACES) ≡ r
        → (cond (p && (q && r)) (stretch_from (first_of (3 * k + c)) (2 * (width_of k * height_of k))) (stretch_from 0 0)).first + (cond (p && (q && r)) (stretch_from (first_of (3 * k + c)) (2 * (width_of k * height_of k))) (stretch_from 0 0)).len ≤ numbers
    go true a true b true d =
        let i = ltb-true k 13 a in
        let j = ltb-true c 3 b in
        let n = eqb-true numbers (2 * PLACES) d in
        let t : (3 * k + c) / 3 ≡ k = omega arith in
        let f = rw t at (first_step (3 * k + c) (omega arith)) in
        omega (arith, first_most (3 * k + c + 1) (omega arith), places_by)
    go true a true b false d = omega arith
    go true a false b r d = omega arith
    go false a q b r d = omega arith

-- what the code hands back
module _ (store : List ℕ) (k c : ℕ) (s : Stretch) (e : s ≡ stretch_at (length store) k c) where
  pub ends_inside : s.first + s.len ≤ length store
  ends_inside = rw e (stretch_inside (length store) k c)

  pub handed_back : take (s.first + s.len - s.first) (drop s.first store) ≡ stretch store k c
  handed_back = let z : s.first + s.len - s.first ≡ s.len = omega arith in rw z (rw e (sym (stretch_at_lem store k c)))
