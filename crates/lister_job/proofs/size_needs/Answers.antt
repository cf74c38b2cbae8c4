use Rattle.lister_job.proofs.laws.Needed.{size_first, size_other, size_rest}
use Rattle.lister_job.proofs.size_needs.Goals as goal

pub returns-then-job-ne16 : goal.returns-then-job-ne16
returns-then-job-ne16 c = size_other c.args.job.now c.if-job-eq0.false c.if-job-ne16.true

pub returns-then-job-eq0 : goal.returns-then-job-eq0
returns-then-job-eq0 c = size_first c.args.job.now c.if-job-eq0.true

pub returns : goal.returns
returns c = size_rest c.args.job.now c.if-job-eq0.false c.if-job-ne16.false
