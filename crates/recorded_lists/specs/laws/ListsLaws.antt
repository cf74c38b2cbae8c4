-- Laws of room and of places.
use Rattle.std.specs.Prelude.{◌≡◌, refl, Bool, true, false, not, List, ℕ, suc, ◌+◌, ◌-◌, ◌<◌, ◌≤◌, leb}
use Rattle.std.proofs.Common.{sym, ◌∙◌, arith, leb-true, leb-false, le-leb}
use Rattle.std.proofs.lemmas.Bool.{lt-leb, not-true, not-false}
use Rattle.recorded_lists.specs.Lists.{behind_one, place_of}

-- The test of room, without a sum that may be too large.
room_cases : (b : Bool) (at n most : ℕ) → n + 2 ≤ most → leb at (most - (n + 2)) ≡ b → b ≡ leb (at + 2 + n) most
room_cases true at n most l e = let k = leb-true at (most - (n + 2)) e in sym (le-leb (at + 2 + n) most (omega (arith, k)))
room_cases false at n most l e = let k = leb-false at (most - (n + 2)) e in sym (lt-leb (at + 2 + n) most (omega (arith, k)))

pub room : (at n most : ℕ) → n + 2 ≤ most → leb at (most - (n + 2)) ≡ leb (at + 2 + n) most
room at n most l = room_cases (leb at (most - (n + 2))) at n most l refl

-- What a test of room tells, of a number that was read.
pub in_room : (r : Bool) (at n m most : ℕ) → r ≡ leb (at + 2 + n) most → n ≡ m → not r ≡ false → at + 2 + m ≤ most
in_room r at n m most e s h = let l = leb-true (at + 2 + n) most (sym e ∙ not-false r h) in omega (arith, s, l)

pub no_room : (r : Bool) (at n m most : ℕ) → r ≡ leb (at + 2 + n) most → n ≡ m → not r ≡ true → leb (at + 2 + m) most ≡ false
no_room r at n m most e s h =
    let l = leb-false (at + 2 + n) most (sym e ∙ not-true r h) in lt-leb (at + 2 + m) most (omega (arith, s, l))

-- One list more is passed, and the end.
pub place_step : (w : List ℕ) (at i k : ℕ) → i < k → place_of w (behind_one w at) (k - (i + 1)) ≡ place_of w at (k - i)
unfolding place_of
place_step w at i k l = let e : k - i ≡ suc (k - (i + 1)) = omega arith in rw e

pub place_end : (w : List ℕ) (at i k : ℕ) → k ≤ i → place_of w at (k - i) ≡ at
unfolding place_of
place_end w at i k l = let e : k - i ≡ 0 = omega arith in rw e
