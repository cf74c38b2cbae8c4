-- The coefficients behind a count, as they are lent: what fits, and their reading.
use Rattle.std.specs.Prelude.{◌≡◌, true, List, ℕ, ◌*◌, ◌-◌, ◌/◌, ◌^◌, ◌≤◌, length}
use Rattle.std.proofs.Common.{arith, leb-true, eqb-true}
use Rattle.laws.specs.laws.Cases.{and-true}
use Rattle.coeff_walk.specs.declared.spot.Spot.{Spot}
use Rattle.coeff_walk.specs.laws.Outcome.{WalkReady}
use Rattle.coeff_walk.specs.laws.Lent.{spot_small, lent_fits, SpotLimits}

pub small_limits : (spot : Spot) (shift : ℕ) → spot_small spot shift ≡ true → SpotLimits spot shift
small_limits spot shift e =
    let d = and-true _ _ e in
    let c = and-true _ _ d.0 in
    let b = and-true _ _ c.0 in
    let a = and-true _ _ b.0 in
    record {
      width = leb-true spot.width 256 a.0;
      in_x = leb-true spot.x 256 a.1;
      in_y = leb-true spot.y 256 b.1;
      exponent = leb-true spot.exponent 10 c.1;
      shifts = leb-true shift 3 d.1;
    }

pub fits_ready : (spot : Spot) (list : List ℕ) (at count first_prev coeff_map shift log : ℕ) → lent_fits spot (length list) at coeff_map shift log ≡ true
    → count ≤ 63 * 2 ^ spot.exponent → first_prev ≤ 1 → WalkReady spot list at count first_prev coeff_map shift log
unfolding lent_fits
fits_ready spot list at count first_prev coeff_map shift log e c f =
    let l = and-true _ _ e in
    let k = and-true _ _ l.1 in
    let j = and-true _ _ k.0 in
    let i = and-true _ _ l.0 in
    let v = small_limits spot shift i.0 in
    let a = leb-true at log i.1 in
    let b = leb-true (length list / 2) (log - at) k.1 in
    record {
      width = v.width;
      in_x = v.in_x;
      in_y = v.in_y;
      exponent = v.exponent;
      counted = c;
      flagged = f;
      fits = leb-true (length list / 2) (63 * 2 ^ spot.exponent) j.0;
      entries = eqb-true coeff_map 458 j.1;
      shifts = v.shifts;
      room = omega (arith, a, b);
    }
