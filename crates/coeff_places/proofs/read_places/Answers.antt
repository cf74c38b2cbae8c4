use Rattle.std.specs.Int.{from_bool}
use Rattle.std.proofs.Common.{Bool, false, cond, ◌≡◌, ◌*◌, ◌^◌, ◌≤◌, true, length, sym, refl, ◌∙◌, arith, rules, le-leb}
use borrow.Author.Tests.{lt-leb}
use Rattle.coeff_walk.proofs.laws.Counts.{shifted_left}
use Rattle.coeff_walk.specs.laws.Lent.{lent_fits}
use Rattle.coeff_walk.proofs.laws.Lent.{fits_ready}
use Rattle.coeff_walk.proofs.laws.Used.{not_done}
use Rattle.coeff_places.proofs.read_places.Goals.{Else-not-lent_fits, Else-spot-count}
use Rattle.coeff_places.proofs.read_places.Goals as goal

-- The flag as a number.
flag_is : (b : Bool) → from_bool b ≡ (cond b 1 0)
flag_is true = refl
flag_is false = refl

flag_le : (b : Bool) → from_bool b ≡ (cond b 1 0) → from_bool b ≤ 1
flag_le true e = omega arith
flag_le false e = omega arith

-- What is lent fits.
fitting : (c : Else-not-lent_fits) → lent_fits c.args.spot (length c.args.list.now) c.args.at (length c.args.coeff_map.now) c.args.shift (length c.args.log.now) ≡ true
fitting c = sym c.lent_fits.ensures ∙ c.if-not-lent_fits.false

small : (c : Else-not-lent_fits) → c.args.spot.exponent ≤ 10
small c = let a = c.args in (fits_ready a.spot a.list.now a.at 0 0 (length a.coeff_map.now) a.shift (length a.log.now) (fitting c) (omega arith) (omega arith)).exponent

-- The count is small enough.
below : (c : Else-spot-count) → c.args.count ≤ 63 * 2 ^ c.args.spot.exponent
below c = omega (arith, c.if-spot-count.false, shifted_left 63 c.args.spot.exponent (omega arith) (small (goal.at.Else-spot-count c).Else-not-lent_fits))

pub returns-then-not-lent_fits : goal.returns-then-not-lent_fits
returns-then-not-lent_fits c = rw (sym c.lent_fits.ensures ∙ c.if-not-lent_fits.true) (record { answer = refl; logged = refl; cells = refl }, λ to f. absurd (not_done _ to f))

pub returns-then-spot-count : goal.returns-then-spot-count
returns-then-spot-count c =
    let a = c.args in
    rw (fitting (goal.at.returns-then-spot-count c).Else-not-lent_fits, lt-leb a.count (63 * 2 ^ a.spot.exponent) (omega (arith, c.if-spot-count.true, shifted_left 63 a.spot.exponent (omega arith) (small (goal.at.returns-then-spot-count c).Else-not-lent_fits))))
    (record { answer = refl; logged = refl; cells = refl }, λ to f. absurd (not_done _ to f))

pub walk_places-requires : goal.walk_places-requires
walk_places-requires c =
    let a = c.args in
    (fits_ready a.spot a.list.now a.at a.count c.from.result (length a.coeff_map.now) a.shift (length a.log.now) (fitting (goal.at.walk_places-requires c).Else-not-lent_fits) (below (goal.at.walk_places-requires c).Else-spot-count) (rw c.from.ensures (flag_le a.first_prev (flag_is a.first_prev))))

pub returns : goal.returns
returns c =
    let a = c.args in
    rw (fitting (goal.at.returns c).Else-not-lent_fits, le-leb a.count (63 * 2 ^ a.spot.exponent) (below (goal.at.returns c).Else-spot-count), sym (c.from.ensures ∙ flag_is a.first_prev)) (c.walk_places.ensures.0, c.walk_places.ensures.1)

pub overflow_shl-spot : goal.overflow_shl-spot
overflow_shl-spot c = let s = small (goal.at.overflow_shl-spot c).Else-not-lent_fits in search rules
