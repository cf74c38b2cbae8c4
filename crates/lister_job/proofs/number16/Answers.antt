use Rattle.lister_job.proofs.laws.JobSteps.{no_byte, one_byte}
use mathlib.Core.Path.{◌∙◌}
use Rattle.lister_job.proofs.number16.Goals as goal

pub returns-then-s-i : goal.returns-then-s-i
returns-then-s-i c =
    let a = c.args in
    no_byte a.s.now a.i c.if-s-i.true

pub returns-then-s-i-2 : goal.returns-then-s-i-2
returns-then-s-i-2 c =
    let a = c.args in
    c.from.ensures ∙ one_byte a.s.now a.i c.if-s-i-2.true
