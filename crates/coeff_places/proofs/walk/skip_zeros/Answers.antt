use Rattle.std.proofs.Common.{◌^◌, arith}
use Rattle.coeff_walk.proofs.laws.Runs.{zeros_turn}
use Rattle.coeff_context.proofs.laws.Contexts.{freq_at}
use Rattle.coeff_places.proofs.walk.skip_zeros.Goals as goal

pub bounds-map_from-y : goal.bounds-map_from-y
bounds-map_from-y c = omega (arith, c.frequency_at-y.ensures.0, c.requires.enough, freq_at (2 ^ c.args.exponent) c.loop-k.k (omega (arith, c.requires.places)))

pub loop-k-preserved : goal.loop-k-preserved
loop-k-preserved c =
    let a = c.args in
    let l = c.loop-k in
    let p = c.requires in
    rw c.frequency_at-y.ensures.0 (zeros_turn a.exponent a.map_from.now a.symbols.now a.at a.from a.stop a.log.now l.k l.log (omega arith) p.places p.lent c.if-symbols-i-ne0.false l.invariant)
