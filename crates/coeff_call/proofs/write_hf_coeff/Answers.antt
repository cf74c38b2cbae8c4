use lib.ListN.{length}
use Prim.Native.Nat.{◌*◌}
use Rattle.coeff_group.specs.PassGroup.{pass_group}
use Rattle.coeff_group.specs.Work.{clusters_of}
use Rattle.coeff_group.specs.laws.WorkLaws.{WorkReady}
use Rattle.coeff_group.proofs.laws.WorkLaws.{part_long}
use Rattle.coeff_call.specs.Call.{Lent, lent, Passed, reading}
use Rattle.coeff_call.specs.laws.CallSteps.{checks_refused, checks_passed, preset_refused, below, work_ready, call_done}
use mathlib.Core.Path.{◌≡◌, ◌∙◌, ap}
use borrow.Author.Rules.{rules}
use Rattle.std.specs.Prelude.{Err}
use Rattle.coeff_call.proofs.write_hf_coeff.Goals.{In_ok-before_work, In_ok-preset, Start}
use Rattle.coeff_call.proofs.write_hf_coeff.Goals as goal

abbrev lent_at : Start → Lent
lent_at c =
    let a = c.args in
    lent (pass_group a.group a.kinds.now a.hf_mul.now a.contexts a.lf_there a.lf0.now a.lf1.now a.lf2.now a.store.now) a.presets a.cluster_map.now a.shift a.bytes.now a.symbols.now a.log.now a.g0.now a.g1.now a.g2.now

-- The checks let it pass.
passed : (c : In_ok-before_work) → Passed (lent_at (goal.at.In_ok-before_work c).Start)
passed c = checks_passed (lent_at (goal.at.In_ok-before_work c).Start) c.before_work.result c.before_work.ensures _ c.in_ok-before_work.was

-- What the work asks for, with the preset that was read.
ready : (c : In_ok-preset) → WorkReady (lent_at (goal.at.In_ok-preset c).Start).pass_group (length (lent_at (goal.at.In_ok-preset c).Start).cluster_map) (lent_at (goal.at.In_ok-preset c).Start).shift (length (lent_at (goal.at.In_ok-preset c).Start).log) c.in_ok-preset.preset
ready c =
    let p = passed (goal.at.In_ok-preset c).In_ok-before_work in
    work_ready (lent_at (goal.at.In_ok-preset c).Start) p c.in_ok-preset.preset (below (lent_at (goal.at.In_ok-preset c).Start) p c.read_preset.result c.read_preset.ensures c.in_ok-preset.preset c.in_ok-preset.was)

pub returns-in_err-before_work : goal.returns-in_err-before_work
returns-in_err-before_work c =
    let w = c.in_err-before_work.field-0.0 in
    let f : c.from_residual.result ≡ Err w = search rules in
    rw f (checks_refused (lent_at (goal.at.returns-in_err-before_work c).Start) c.before_work.result c.before_work.ensures w c.in_err-before_work.was)

pub returns-in_err-preset : goal.returns-in_err-preset
returns-in_err-preset c =
    let w = c.in_err-preset.field-0.0 in
    let f : c.from_residual-in_err-preset.result ≡ Err w = search rules in
    rw f (preset_refused (lent_at (goal.at.returns-in_err-preset c).Start) (passed (goal.at.returns-in_err-preset c).In_ok-before_work) c.read_preset.result c.read_preset.ensures w c.in_err-preset.was)

pub preset_map_of-requires : goal.preset_map_of-requires
preset_map_of-requires c = let w = ready (goal.at.preset_map_of-requires c).In_ok-preset in (w.clusters, w.number, w.part)

pub read_group-requires : goal.read_group-requires
read_group-requires c =
    let L = lent_at (goal.at.read_group-requires c).Start in
    let w = ready (goal.at.read_group-requires c).In_ok-preset in
    w.ready _ (ap length c.preset_map_of.ensures ∙ part_long L.cluster_map (495 * clusters_of L.pass_group) c.in_ok-preset.preset w.part)

pub returns : goal.returns
unfolding reading
returns c =
    let s = (goal.at.returns c).Start in
    call_done (lent_at s) (passed (goal.at.returns c).In_ok-before_work) c.read_preset.result c.read_preset.ensures c.in_ok-preset.preset c.in_ok-preset.was c.read_group.result c.read_group.new.log c.read_group.new.g0 c.read_group.new.g1 c.read_group.new.g2 (rw c.preset_map_of.ensures at c.read_group.ensures.0)
