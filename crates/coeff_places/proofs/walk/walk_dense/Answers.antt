use Rattle.std.proofs.lemmas.Bool.{false≢true}
use borrow.Author.Tests.{eq-eqb}
use Rattle.std.proofs.Common.{◌≡◌, ℕ, zero, suc, Bool, true, false, eqb, eqb-true, not, ap, ◌+◌, ◌/◌, ◌^◌, ◌≤◌, length, get_or, sym, refl, ◌∙◌, arith, length-set}
use Rattle.std.specs.Int.{from_bool}
use Rattle.coeff_walk.specs.Walk.{flag}
use Rattle.coeff_walk.proofs.laws.PlaceLaws.{places_count}
use Rattle.coeff_walk.specs.laws.Outcome.{spot_cells}
use Rattle.coeff_walk.proofs.laws.Outcome.{flag_one, walk_used, walk_24, walk_17, walk_15, walk_step, ends}
use Rattle.coeff_places.proofs.walk.walk_dense.Goals.{At-loop-k}
use Rattle.coeff_places.proofs.walk.walk_dense.Goals as goal

-- How many places there are.
places : (c : At-loop-k) → length (spot_cells c.args.spot c.args.list.now) ≡ length c.args.list.now / 2
places c = let a = c.args in places_count a.spot.turn a.spot.width a.spot.x a.spot.y a.list.now

-- The flag of a symbol, and that it is small.
flag_is : (u : ℕ) → from_bool (not (eqb u 0)) ≡ flag u
flag_is u = go (eqb u 0) refl
  where
    go : (b : Bool) → eqb u 0 ≡ b → from_bool (not b) ≡ flag u
    go true e = sym (ap flag (eqb-true u 0 e))
    go false e = sym (flag_one u (λ z. false≢true (sym e ∙ eq-eqb u 0 z)))

flag_le : (u : ℕ) → flag u ≤ 1
flag_le zero = omega arith
flag_le (suc u) = omega arith

pub returns-then-left-eq0 : goal.returns-then-left-eq0
returns-then-left-eq0 c =
    let l = c.loop-k in
    let a = c.args in
    ends _ _ _ (walk_used a.shift (2 ^ a.spot.exponent) a.coeff_map.now (spot_cells a.spot a.list.now) a.symbols.now l.k l.prev l.left (a.at + l.k) l.log l.grid c.if-left-eq0.true) l.invariant.4

pub returns-then-context-ge458 : goal.returns-then-context-ge458
returns-then-context-ge458 c =
    let l = c.loop-k in
    let a = c.args in
    ends _ _ _ (walk_17 a.shift (2 ^ a.spot.exponent) a.coeff_map.now (spot_cells a.spot a.list.now) a.symbols.now l.k l.prev l.left (a.at + l.k) l.log l.grid (omega (arith, places (goal.at.returns-then-context-ge458 c).At-loop-k, c.loop-k-test.true)) (omega (arith, c.if-left-eq0.false)) (omega (arith, c.if-context-ge458.true, c.coeff_context-context.ensures))) l.invariant.4

pub returns-then-symbols-i : goal.returns-then-symbols-i
returns-then-symbols-i c =
    let l = c.loop-k in
    let a = c.args in
    ends _ _ _ (walk_15 a.shift (2 ^ a.spot.exponent) a.coeff_map.now (spot_cells a.spot a.list.now) a.symbols.now l.k l.prev l.left (a.at + l.k) l.log l.grid (omega (arith, places (goal.at.returns-then-symbols-i c).At-loop-k, c.loop-k-test.true)) (omega (arith, c.if-left-eq0.false)) (omega (arith, c.if-context-ge458.false, c.coeff_context-context.ensures)) c.if-symbols-i.true) l.invariant.4

pub loop-k-preserved : goal.loop-k-preserved
loop-k-preserved c =
    let l = c.loop-k in
    let a = c.args in
    let f : c.from-prev.result ≡ flag (get_or a.symbols.now (a.at + l.k) 0) = c.from-prev.ensures ∙ flag_is (get_or a.symbols.now (a.at + l.k) 0) in
    let z : a.at + (l.k + 1) ≡ a.at + l.k + 1 = omega arith in (
      omega (arith, l.invariant.0),
      rw f (flag_le (get_or a.symbols.now (a.at + l.k) 0)),
      length-set l.log (a.at + l.k) _ ∙ l.invariant.2,
      c.gain_at.auto.grid ∙ l.invariant.3,
      rw (z, f, c.gain_at.ensures, c.coeff_context-context.ensures)
          (sym (walk_step a.shift (2 ^ a.spot.exponent) a.coeff_map.now (spot_cells a.spot a.list.now) a.symbols.now l.k l.prev l.left (a.at + l.k) l.log l.grid (omega (arith, places (goal.at.loop-k-preserved c).At-loop-k, c.loop-k-test.true)) (omega (arith, c.if-left-eq0.false)) (omega (arith, c.if-context-ge458.false, c.coeff_context-context.ensures)) c.if-symbols-i.false) ∙ l.invariant.4),
    )

pub returns-then-left-eq0-2 : goal.returns-then-left-eq0-2
returns-then-left-eq0-2 c =
    let l = c.loop-k in
    let a = c.args in
    let e : length a.list.now / 2 ≡ l.k = omega (arith, l.auto.k-end, c.loop-k-test.false) in
    rw e (ends _ _ _ (walk_used a.shift (2 ^ a.spot.exponent) a.coeff_map.now (spot_cells a.spot a.list.now) a.symbols.now l.k l.prev l.left (a.at + l.k) l.log l.grid c.if-left-eq0-2.true) l.invariant.4)

pub returns : goal.returns
returns c =
    let l = c.loop-k in
    let a = c.args in
    let e : length a.list.now / 2 ≡ l.k = omega (arith, l.auto.k-end, c.loop-k-test.false) in
    rw e (ends _ _ _ (walk_24 a.shift (2 ^ a.spot.exponent) a.coeff_map.now (spot_cells a.spot a.list.now) a.symbols.now l.k l.prev l.left (a.at + l.k) l.log l.grid (omega (arith, places (goal.at.returns c).At-loop-k, e)) (omega (arith, c.if-left-eq0-2.false))) l.invariant.4)
