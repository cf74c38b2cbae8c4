use Rattle.lister_job.proofs.laws.Needed.{unsized_short, unsized_first, unsized_wide, sized_high}
use native.Mathlib.Omega.{arith}
use mathlib.Core.Path.{◌∙◌, ap}
use Prim.Native.Nat.{ℕ}
use lib.Dec.{leb}
use Rattle.lister_job.proofs.has_size.Goals as goal

pub returns-then-job-ne16 : goal.returns-then-job-ne16
returns-then-job-ne16 c =
    let a = c.args in
    unsized_first a.job.now c.if-job-lt5.false c.if-job-ne16.true

pub returns-then-number16-gt512 : goal.returns-then-number16-gt512
returns-then-number16-gt512 c =
    let a = c.args in
    unsized_wide a.job.now c.if-job-lt5.false c.if-job-ne16.false (omega (arith, c.if-number16-gt512.true, c.number16.ensures))

pub returns : goal.returns
returns c =
    let a = c.args in
    ap (λ (h : ℕ). leb h 512) c.number16-2.ensures ∙ sized_high a.job.now c.if-job-lt5.false c.if-job-ne16.false (omega (arith, c.if-number16-gt512.false, c.number16.ensures))

pub returns-then-job-lt5 : goal.returns-then-job-lt5
returns-then-job-lt5 c = unsized_short c.args.job.now c.if-job-lt5.true
