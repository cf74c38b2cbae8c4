use Rattle.std.proofs.Common.{rules, ◌≡◌, ◌∙◌, sym, ap, arith, Result, get_or}
use Rattle.refusal.specs.declared.Refusal.{Refusal}
use Rattle.refusal.specs.Answer.{answered}
use Rattle.layout_column.specs.declared.JudgedColumn.{JudgedColumn}
use Rattle.layout_column.specs.Columns.{hf_mul_of}
use Rattle.layout_column.proofs.laws.Judged.{asks_most}
use Rattle.layout_placing.specs.Reading.{Job, Placed, Going, visit}
use Rattle.layout_placing.proofs.laws.Visits.{by_judged, visit_taken, visit_ends, visit_judged}
use Rattle.layout_reading.specs.laws.Outcome.{job_of, state_of}
use Rattle.layout_reading.proofs.laws.Mapped.{mapped_ok, mapped_err}
use Rattle.layout_reading.proofs.column.visit.Goals.{After-judge, Start}
use Rattle.layout_reading.proofs.column.visit.Goals as goal

-- What is read, and how far it is.
abbrev job : Start → Job
job c = job_of c.args.job.now

abbrev state : Start → Placed
state c = let a = c.args in state_of a.used a.kinds.now a.hf_mul.now a.sigma.now

-- The column was judged so.
judged : (c : After-judge) (j : Result JudgedColumn Refusal) → c.judge.result ≡ j → by_judged (job (goal.at.After-judge c).Start) c.args.x c.args.y (state (goal.at.After-judge c).Start) j ≡ visit (job (goal.at.After-judge c).Start) c.args.x c.args.y (Going (state (goal.at.After-judge c).Start))
judged c j e =
    sym (ap (by_judged (job (goal.at.After-judge c).Start) c.args.x c.args.y (state (goal.at.After-judge c).Start)) e) ∙ visit_judged (job (goal.at.After-judge c).Start) c.args.x c.args.y (state (goal.at.After-judge c).Start) c.if-kinds-i-gt0.false c.judge.result c.if-job-used.false c.judge.ensures

pub returns-then-kinds-i-gt0 : goal.returns-then-kinds-i-gt0
returns-then-kinds-i-gt0 c =
    visit_taken (job (goal.at.returns-then-kinds-i-gt0 c).Start) c.args.x c.args.y (state (goal.at.returns-then-kinds-i-gt0 c).Start) c.if-kinds-i-gt0.true

pub returns-then-job-used : goal.returns-then-job-used
returns-then-job-used c =
    visit_ends (job (goal.at.returns-then-job-used c).Start) c.args.x c.args.y (state (goal.at.returns-then-job-used c).Start) c.if-kinds-i-gt0.false c.if-job-used.true

pub place-requires : goal.place-requires
place-requires c =
    let a = c.args in
    let h = c.requires in
    let e = mapped_ok c.judge.result c.map_err.result _ c.map_err.ensures.cases _ c.in_ok-v.was in
    let m = asks_most (get_or a.job.now.types.now a.used 0) (hf_mul_of (get_or a.job.now.muls.now a.used 0)) a.x a.y _ (sym c.judge.ensures ∙ ap answered e) in
    (h.0, m.0, m.1, h.1, h.2, omega (arith, c.if-job-used.false), m.2)

pub returns-in_err-v : goal.returns-in_err-v
returns-in_err-v c =
    let g = mapped_err c.judge.result c.map_err.result _ c.map_err.ensures.cases _ c.in_err-v.was in
    rw (← judged (goal.at.returns-in_err-v c).After-judge _ g.1) (search rules)

pub returns : goal.returns
returns c =
    let e = mapped_ok c.judge.result c.map_err.result _ c.map_err.ensures.cases _ c.in_ok-v.was in
    c.place.ensures ∙ judged (goal.at.returns c).After-judge _ e
