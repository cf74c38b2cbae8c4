-- What is accepted: any digits below what remains; and no used order at all.
use Rattle.std.specs.Prelude.{◌≡◌, refl, false, List, [], ◌∷◌, ◌++◌, ℕ, suc, ◌+◌, ◌*◌, ◌-◌, ◌/◌, ◌^◌, ◌≤◌, length}
use Rattle.std.proofs.Common.{ap, arith, lt-ltb, le-leb}
use Rattle.std.proofs.Math.Nat.{zero-div}
use Rattle.order_natural.specs.Places.{Place}
use Rattle.order_natural.specs.Natural.{natural}
use Rattle.order_sizes.specs.BlockSizes.{BLOCK_SIZES}
use Rattle.order_permutation.specs.Digits.{Below, ordered}
use Rattle.order_naturals.specs.Naturals.{naturals}
use Rattle.order_call.specs.Orders.{Given, digits, one_list, lists, plan, is_used, orders}

below_many : (ds : List ℕ) (left : ℕ) → Below ds left → length ds ≤ left
below_many [] left b = omega arith
below_many (d ∷ ds) left b = omega (arith, b.0, below_many ds (left - 1) b.1)

pub digits_accept : (ds vs : List ℕ) (left at : ℕ) → Below ds left → digits (length ds) left (ds ++ vs) at ≡ Given ds vs (at + length ds)
unfolding digits
digits_accept [] vs left at b = ap (λ (m : ℕ). Given [] vs m) (omega arith)
digits_accept (d ∷ ds) vs left at b =
    let e : at + 1 + length ds ≡ at + suc (length ds) = omega arith in
    rw (lt-ltb d left b.0, digits_accept ds vs (left - 1) (at + 1) b.1, e)

-- a length and as many digits, each below what remains, are accepted and give the order that they choose
pub one_accepts : (width height : ℕ) (ds vs : List ℕ) (at : ℕ) → Below ds (width * height - width * height / 64)
    → one_list width height (length ds ∷ ds ++ vs) at ≡ Given (ordered (0, 0) (width * height / 64) (natural width height) ds) vs (at + 1 + length ds)
unfolding one_list
one_accepts width height ds vs at b =
    let free = width * height - width * height / 64 in
    rw (le-leb (length ds) free (below_many ds free b), digits_accept ds vs free (at + 1) b)

none_used : (k : ℕ) → is_used 0 k ≡ false
none_used k = rw (zero-div (2 ^ k))

unused : (k : ℕ) (ss : List Place) (us : List ℕ) (at : ℕ) → lists (plan 0 k ss) us at ≡ Given (naturals ss) us at
unused k [] us at = refl
unused k (s ∷ ss) us at = rw (none_used k, unused (k + 1) ss us at)

-- with no order used, every symbol stays and each list is natural
pub orders_unused : (us : List ℕ) → orders 0 us ≡ Given (naturals BLOCK_SIZES) us 0
unfolding orders
orders_unused us = unused 0 BLOCK_SIZES us 0
