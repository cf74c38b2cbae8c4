use Rattle.std.proofs.Common.{rules, ◌≡◌, ◌∙◌, sym, ap, length, Option}
use Rattle.refusal.specs.Answer.{answered, passed}
use Rattle.layout_filter.specs.declared.ScaledMultiplier.{ScaledMultiplier}
use Rattle.layout_filter.specs.Limits.{params_fit}
use Rattle.layout_filter.specs.laws.Finite.{ScaledBounded}
use Rattle.layout_filter.proofs.laws.Finite.{scaled_bounded}
use Rattle.layout_placing.specs.Reading.{Job, job_with, job_by, reading}
use Rattle.layout_reading.specs.laws.Outcome.{told_by, read_checks}
use Rattle.layout_reading.proofs.laws.Lengths.{Passed, passed_checks, read_refused, read_works}
use Rattle.layout_reading.proofs.laws.Mapped.{mapped_ok, mapped_err}
use Rattle.layout_reading.proofs.reading.read.Goals.{Start, In_ok-map_err}
use Rattle.layout_reading.proofs.reading.read.Goals as goal

-- What is read, of what was lent.
abbrev job : Start → Job
job c = let a = c.args in job_by a.bw a.bh a.types.now a.muls.now a.sharpness.now a.filter a.lookups a.scale

-- The checks were passed.
fine : (c : In_ok-map_err) → let a = c.args in passed ≡ read_checks (job (goal.at.In_ok-map_err c).Start) a.kinds.now a.hf_mul.now a.sigma.now a.filter a.scale
fine c = sym (ap answered (mapped_ok c.read_check.result c.map_err.result _ c.map_err.ensures.cases _ c.in_ok-map_err.was)) ∙ c.read_check.ensures

pub returns-in_err-map_err : goal.returns-in_err-map_err
returns-in_err-map_err c =
    let a = c.args in
    let g = mapped_err c.read_check.result c.map_err.result _ c.map_err.ensures.cases _ c.in_err-map_err.was in
    rw (← read_refused (job (goal.at.returns-in_err-map_err c).Start) a.kinds.now a.hf_mul.now a.sigma.now a.filter a.scale g.0 (sym (ap answered g.1) ∙ c.read_check.ensures)) (search rules)

-- What the passed checks tell.
fits : (c : In_ok-map_err) → let a = c.args in Passed (params_fit a.filter a.lookups a.scale) a.bw a.bh (length a.types.now) (length a.muls.now) (length a.sharpness.now) (length a.kinds.now) (length a.hf_mul.now) (length a.sigma.now)
fits c = let a = c.args in passed_checks _ a.bw a.bh (length a.types.now) (length a.muls.now) (length a.sharpness.now) (length a.kinds.now) (length a.hf_mul.now) (length a.sigma.now) (sym (fine c))

pub invariant_of-job : goal.invariant_of-job
invariant_of-job c =
    let a = c.args in
    let p = fits (goal.at.invariant_of-job c).In_ok-map_err in
    let b : ScaledBounded c.scaled_by.result a.lookups = rw c.scaled_by.ensures (scaled_bounded a.filter a.lookups a.scale p.params_fit) in
    record { wide = p.wide; high = p.high; muls_are = p.lengths.muls_are; sharpness_are = p.lengths.sharpness_are; bounded = b }

pub read_cleared-requires : goal.read_cleared-requires
read_cleared-requires c =
    let k = (fits (goal.at.read_cleared-requires c).In_ok-map_err).lengths in
    (k.kinds_are, k.hf_mul_are, k.sigma_are)

pub returns : goal.returns
returns c =
    let a = c.args in
    c.read_cleared.ensures
    ∙ ap (λ (z : Option ScaledMultiplier). let J = job_with a.bw a.bh a.types.now a.muls.now a.sharpness.now z a.lookups in told_by J (reading J)) c.scaled_by.ensures
    ∙ read_works (job (goal.at.returns c).Start) a.kinds.now a.hf_mul.now a.sigma.now a.filter a.scale (fine (goal.at.returns c).In_ok-map_err)
