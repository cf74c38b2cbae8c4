use mathlib.Core.List.{List}
use Rattle.lister_job.proofs.laws.JobSteps.{prefixed_more, count_next, count_cut, count_other, count_full}
use Rattle.lister_job.specs.Job.{type_at, mul_at}
use native.Mathlib.Omega.{arith}
use mathlib.Core.Path.{◌≡◌, ◌∙◌, ap, sym}
use Prim.Native.Nat.{ℕ}
use lib.ListN.{set, length-set}
use Rattle.lister_job.proofs.read_columns.Goals as goal

pub returns-then-job-i : goal.returns-then-job-i
returns-then-job-i c =
    let a = c.args in
    let l = c.loop-n in
    record { count = sym (l.invariant.4 ∙ count_cut a.job.now l.n (omega (arith, c.loop-n-test.true)) c.if-job-i.true); types_are = l.invariant.2; muls_are = l.invariant.3 }

pub returns-then-job-i-ne17 : goal.returns-then-job-i-ne17
returns-then-job-i-ne17 c =
    let a = c.args in
    let l = c.loop-n in
    record { count = sym (l.invariant.4 ∙ count_other a.job.now l.n (omega (arith, c.loop-n-test.true)) c.if-job-i.false c.if-job-i-ne17.true); types_are = l.invariant.2; muls_are = l.invariant.3 }

pub loop-n-preserved : goal.loop-n-preserved
loop-n-preserved c =
    let l = c.loop-n in
    let t = c.loop-n-test.true in (
      length-set l.types l.n _ ∙ l.invariant.0,
      length-set l.muls l.n _ ∙ l.invariant.1,
      ap (λ (z : List ℕ). set z l.n c.number32.result) l.invariant.2 ∙ prefixed_more (type_at c.args.job.now) l.n c.number32.result c.args.types.now (omega (arith, t, l.invariant.0)) c.number32.ensures,
      ap (λ (z : List ℕ). set z l.n c.number32-in-loop-n.result) l.invariant.3 ∙ prefixed_more (mul_at c.args.job.now) l.n c.number32-in-loop-n.result c.args.muls.now (omega (arith, t, l.invariant.1)) c.number32-in-loop-n.ensures,
      l.invariant.4 ∙ count_next c.args.job.now l.n (omega (arith, t)) c.if-job-i.false c.if-job-i-ne17.false,
    )

pub returns : goal.returns
returns c =
    let a = c.args in
    let l = c.loop-n in
    let e : l.n ≡ 4096 = omega arith in
    let t = l.invariant.2 in
    let m = l.invariant.3 in
    record {
      count = sym (l.invariant.4 ∙ count_full a.job.now l.n (omega arith) ∙ e);
      types_are = rw e at t;
      muls_are = rw e at m;
    }
