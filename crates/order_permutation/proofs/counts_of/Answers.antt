use Rattle.std.proofs.Common.{arith, sym, ◌∙◌, ◌≡◌, replicate, suc, ◌-◌, ◌+◌}
use Rattle.order_permutation.specs.laws.Blocks.{counts, counts_turn, counts_end, counts_length}
use Rattle.laws.specs.laws.Lists.{sets_all}
use Rattle.order_permutation.proofs.counts_of.Goals as goal

pub loop-i-init : goal.loop-i-init
loop-i-init c = (omega arith, sets_all (replicate 64 0) (counts c.args.span 64 c.args.free) (counts_length c.args.span 64 c.args.free))

pub loop-i-preserved : goal.loop-i-preserved
loop-i-preserved c =
    let l = c.loop-i in
    let z : 64 - l.i ≡ suc (64 - (l.i + 1)) = omega arith in
    (omega arith, sym (counts_turn c.args.span (64 - (l.i + 1)) l.left c.min-n.result l.c l.i c.min-n.ensures) ∙ rw z at l.invariant.1)

pub returns : goal.returns
returns c =
    let l = c.loop-i in
    let z : 64 - l.i ≡ 0 = omega arith in
    sym (counts_end c.args.span l.left l.c l.i) ∙ rw z at l.invariant.1
