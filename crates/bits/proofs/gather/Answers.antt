use Rattle.std.proofs.Common.{◌≡◌, ◌∙◌, arith, rules}
use Rattle.bits.specs.laws.Numbers.{laid}
use Rattle.bits.proofs.gather.Goals as goal

pub loop-k-preserved : goal.loop-k-preserved
loop-k-preserved c =
    (omega arith, omega arith, laid c.args.s.now c.args.first c.loop-k.k c.loop-k.acc c.loop-k.sh _ (λ i. (c.shared_slice_known-in-loop-k-1.given i).fits) (omega arith) (omega arith) (omega arith) c.loop-k.invariant.2 (search rules))

pub returns : goal.returns
returns c = let e : c.loop-k.k ≡ c.args.count = omega arith in c.loop-k.invariant.2 ∙ rw e
