use Rattle.lister.specs.laws.ListSteps.{bad_short, bad_first, bad_wide, bad_high}
use Rattle.text.specs.Text.{Puts}
use mathlib.Core.List.{List}
use mathlib.Core.Path.{subst}
use native.Mathlib.Omega.{arith}
use Prim.Native.Nat.{ℕ}
use Rattle.lister.proofs.list.Goals as goal

pub returns-then-job-lt5 : goal.returns-then-job-lt5
returns-then-job-lt5 c =
    let a = c.args in
    subst (λ (s : List ℕ). Puts a.out.now 0 s c.put_bad.new.out c.put_bad.result) (bad_short a.job.now (omega arith)) c.put_bad.ensures

pub returns-then-job-ne16 : goal.returns-then-job-ne16
returns-then-job-ne16 c =
    let a = c.args in
    subst (λ (s : List ℕ). Puts a.out.now 0 s c.put_bad-then-job-ne16.new.out c.put_bad-then-job-ne16.result) (bad_first a.job.now (omega arith) c.if-job-ne16.true) c.put_bad-then-job-ne16.ensures

pub returns-then-width-gt512 : goal.returns-then-width-gt512
returns-then-width-gt512 c =
    let a = c.args in
    subst (λ (s : List ℕ). Puts a.out.now 0 s c.put_bad-then-width-gt512.new.out c.put_bad-then-width-gt512.result) (bad_wide a.job.now (omega arith) c.if-job-ne16.false (omega (arith, c.if-width-gt512.true, c.number16-width.ensures))) c.put_bad-then-width-gt512.ensures

pub returns-then-height-gt512 : goal.returns-then-height-gt512
returns-then-height-gt512 c =
    let a = c.args in
    subst (λ (s : List ℕ). Puts a.out.now 0 s c.put_bad-then-height-gt512.new.out c.put_bad-then-height-gt512.result) (bad_high a.job.now (omega arith) c.if-job-ne16.false (omega (arith, c.if-width-gt512.false, c.number16-width.ensures)) (omega (arith, c.if-height-gt512.true, c.number16-height.ensures))) c.put_bad-then-height-gt512.ensures
