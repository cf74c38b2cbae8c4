use Rattle.lister_job.proofs.laws.Needed.{needed_size, needed_column, needed_unsized}
use mathlib.Core.Path.{◌∙◌, sym}
use Rattle.lister_job.proofs.needed.Goals as goal

pub returns-then-job-lt5 : goal.returns-then-job-lt5
returns-then-job-lt5 c =
    let a = c.args in
    c.size_needs.ensures ∙ sym (needed_size a.job.now c.if-job-lt5.true)

pub returns-then-has_size : goal.returns-then-has_size
returns-then-has_size c =
    let a = c.args in
    c.column_needs.ensures ∙ sym (needed_column a.job.now c.if-job-lt5.false (sym c.has_size.ensures ∙ c.if-has_size.true))

pub returns : goal.returns
returns c =
    let a = c.args in
    sym (needed_unsized a.job.now c.if-job-lt5.false (sym c.has_size.ensures ∙ c.if-has_size.false))
