use Rattle.lister.specs.laws.ListSteps.{bad_cut, bad_end, good, job_text, read_first}
use Rattle.lister_job.proofs.laws.JobSteps.{columns_most}
use Rattle.lister_job.specs.Job.{type_at, mul_at}
use Rattle.laws.specs.Lists.{tabulate}
use Rattle.laws.specs.laws.Lists.{length_tabulate}
use Rattle.text.specs.Text.{Puts}
use mathlib.Core.List.{List}
use mathlib.Core.Path.{subst}
use native.Mathlib.Omega.{arith}
use mathlib.Core.Path.{◌∙◌, ap, sym}
use Prim.Native.Nat.{ℕ}
use lib.ListN.{length, take}
use Rattle.lister.proofs.list_job.Goals as goal

pub overflow_mul-end : goal.overflow_mul-end
overflow_mul-end c =
    let a = c.args in
    let h = c.requires in
    let r = c.read_columns-n.ensures in
    let m = columns_most a.job.now in
    let k = r.count in
    omega arith

pub overflow_add-end : goal.overflow_add-end
overflow_add-end c =
    let a = c.args in
    let h = c.requires in
    let r = c.read_columns-n.ensures in
    let m = columns_most a.job.now in
    let k = r.count in
    omega arith

pub returns-then-job-end : goal.returns-then-job-end
returns-then-job-end c =
    let a = c.args in
    let h = c.requires in
    let r = c.read_columns-n.ensures in
    let m = columns_most a.job.now in
    let k = r.count in
    subst (λ (s : List ℕ). Puts a.out.now 0 s c.put_bad.new.out c.put_bad.result) (bad_cut a.job.now h.0 h.1 (omega (arith, h.2, h.4)) (omega (arith, h.3, h.5)) c.read_columns-n.result r.count c.if-job-end.true) c.put_bad.ensures

pub returns-then-job-end-ne0 : goal.returns-then-job-end-ne0
returns-then-job-end-ne0 c =
    let a = c.args in
    let h = c.requires in
    let r = c.read_columns-n.ensures in
    let m = columns_most a.job.now in
    let k = r.count in
    subst (λ (s : List ℕ). Puts a.out.now 0 s c.put_bad-then-job-end-ne0.new.out c.put_bad-then-job-end-ne0.result) (bad_end a.job.now h.0 h.1 (omega (arith, h.2, h.4)) (omega (arith, h.3, h.5)) c.read_columns-n.result r.count c.if-job-end.false c.if-job-end-ne0.true) c.put_bad-then-job-end-ne0.ensures

pub slice_bounds-list_columns-end : goal.slice_bounds-list_columns-end
slice_bounds-list_columns-end c =
    let a = c.args in
    let h = c.requires in
    let r = c.read_columns-n.ensures in
    let m = columns_most a.job.now in
    let k = r.count in
    sym (ap length (read_first (type_at a.job.now) c.read_columns-n.result a.types.now c.read_columns-n.new.types r.types_are) ∙ length_tabulate (type_at a.job.now) c.read_columns-n.result 0)

pub slice_bounds-list_columns-end-2 : goal.slice_bounds-list_columns-end-2
slice_bounds-list_columns-end-2 c =
    let a = c.args in
    let h = c.requires in
    let r = c.read_columns-n.ensures in
    let m = columns_most a.job.now in
    let k = r.count in
    sym (ap length (read_first (mul_at a.job.now) c.read_columns-n.result a.muls.now c.read_columns-n.new.muls r.muls_are) ∙ length_tabulate (mul_at a.job.now) c.read_columns-n.result 0)

pub returns : goal.returns
returns c =
    let a = c.args in
    let h = c.requires in
    let r = c.read_columns-n.ensures in
    let m = columns_most a.job.now in
    let k = r.count in
    let ts = read_first (type_at a.job.now) c.read_columns-n.result a.types.now c.read_columns-n.new.types r.types_are ∙ ap (λ (i : ℕ). tabulate (type_at a.job.now) i 0) r.count in
    let ms = read_first (mul_at a.job.now) c.read_columns-n.result a.muls.now c.read_columns-n.new.muls r.muls_are ∙ ap (λ (i : ℕ). tabulate (mul_at a.job.now) i 0) r.count in
    let t = job_text a.job.now a.width a.height (take c.read_columns-n.result c.read_columns-n.new.types) (take c.read_columns-n.result c.read_columns-n.new.muls) h.2 h.3 ts ms (good a.job.now h.0 h.1 (omega (arith, h.2, h.4)) (omega (arith, h.3, h.5)) c.read_columns-n.result r.count c.if-job-end.false c.if-job-end-ne0.false) in
    subst (λ (s : List ℕ). Puts a.out.now 0 s c.list_columns.new.out c.list_columns.result) t c.list_columns.ensures
