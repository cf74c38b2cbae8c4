use Rattle.std.proofs.Common.{◌≡◌, ℕ, ◌-◌, ◌*◌, ◌/◌, ◌^◌, length, get_or, ap, arith}
use Rattle.coeff_context.specs.Context.{NUM_NONZERO}
use Rattle.coeff_walk.specs.laws.Sparse.{Turn}
use Rattle.coeff_walk.proofs.laws.Sparse.{sparse_start, sparse_used, sparse_24, sparse_15, turn, zeros_ready, zero_again, more_again}
use Rattle.coeff_places.proofs.walk.walk_sparse.Goals.{After-nonzeros_at-entry, Else-left-eq0}
use Rattle.coeff_places.proofs.walk.walk_sparse.Goals as goal

-- What one turn needs.
turning : (c : Else-left-eq0) → Turn c.args.spot c.args.list.now c.args.symbols.now c.args.at (length c.args.coeff_map.now) (length c.loop-k.log) c.loop-k.left c.loop-k.prev c.loop-k.k
turning c = turn c.loop-k.invariant c.requires.0 c.loop-k-test.true c.if-left-eq0.false

-- The count's entry.
entry : (c : After-nonzeros_at-entry) → 2 * c.nonzeros_at-entry.result ≡ 2 * get_or NUM_NONZERO ((c.loop-k.left - 1) / 2 ^ c.args.spot.exponent) 0
entry c = ap (λ (n : ℕ). 2 * n) c.nonzeros_at-entry.ensures.0

pub loop-k-init : goal.loop-k-init
loop-k-init c =
    let m = c.min-stop.ensures in
    let b = c.saturating_sub.ensures in
    sparse_start c.requires.0 c.requires.1 c.min-stop.result (omega (arith, m)) (omega (arith, m, b)) (λ h. omega (arith, m, b, h))

pub coeff_context-context-requires : goal.coeff_context-context-requires
coeff_context-context-requires c = let t = turning (goal.at.coeff_context-context-requires c).Else-left-eq0 in (c.requires.0.exponent, t.counts, t.few, c.loop-k.invariant.flagged)

pub nonzeros_at-entry-requires : goal.nonzeros_at-entry-requires
nonzeros_at-entry-requires c = (c.requires.0.exponent, (turning (goal.at.nonzeros_at-entry-requires c).Else-left-eq0).counts)

pub zeros_from-k-requires : goal.zeros_from-k-requires
zeros_from-k-requires c = (zeros_ready c.loop-k.invariant c.requires.0 (turning (goal.at.zeros_from-k-requires c).Else-left-eq0) c.coeff_context-context.ensures (entry (goal.at.zeros_from-k-requires c).After-nonzeros_at-entry) c.loop-k-test.true)

pub loop-k-preserved-then-u-eq0 : goal.loop-k-preserved-then-u-eq0
loop-k-preserved-then-u-eq0 c = zero_again c.loop-k.invariant c.requires.0 (turning (goal.at.loop-k-preserved-then-u-eq0 c).Else-left-eq0) c.coeff_context-context.ensures (entry (goal.at.loop-k-preserved-then-u-eq0 c).After-nonzeros_at-entry) c.if-u-eq0.true c.zeros_from-k.ensures

pub gain_at-requires : goal.gain_at-requires
gain_at-requires c = let r = c.requires.0 in ((turning (goal.at.gain_at-requires c).Else-left-eq0).placed, r.width, r.in_x, r.in_y, r.shifts)

pub loop-k-preserved : goal.loop-k-preserved
loop-k-preserved c = more_again c.loop-k.invariant c.requires.0 (turning (goal.at.loop-k-preserved c).Else-left-eq0) c.coeff_context-context.ensures c.loop-k-test.true c.if-u-eq0.false c.gain_at.ensures

pub returns : goal.returns
returns c = sparse_15 c.loop-k.invariant c.requires.0 c.loop-k-test.false c.if-end-k.false c.if-left-eq0-2.false

pub returns-then-left-eq0 : goal.returns-then-left-eq0
returns-then-left-eq0 c = sparse_used c.loop-k.invariant c.if-left-eq0.true

pub returns-then-left-eq0-2 : goal.returns-then-left-eq0-2
returns-then-left-eq0-2 c = sparse_used c.loop-k.invariant c.if-left-eq0-2.true

pub returns-then-end-k : goal.returns-then-end-k
returns-then-end-k c = sparse_24 c.loop-k.invariant c.if-end-k.true c.if-left-eq0-2.false

pub bounds-coeff_map-context : goal.bounds-coeff_map-context
bounds-coeff_map-context c = omega (arith, c.coeff_context-context.ensures, (turning (goal.at.bounds-coeff_map-context c).Else-left-eq0).context, c.requires.0.entries)

pub slice_bounds-zeros_from-count : goal.slice_bounds-zeros_from-count
slice_bounds-zeros_from-count c = omega (arith, entry (goal.at.slice_bounds-zeros_from-count c).After-nonzeros_at-entry, (turning (goal.at.slice_bounds-zeros_from-count c).Else-left-eq0).entry)

pub slice_bounds-zeros_from-start : goal.slice_bounds-zeros_from-start
slice_bounds-zeros_from-start c = omega (arith, entry (goal.at.slice_bounds-zeros_from-start c).After-nonzeros_at-entry, (turning (goal.at.slice_bounds-zeros_from-start c).Else-left-eq0).entry)
