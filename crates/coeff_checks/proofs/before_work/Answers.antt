use native.Mathlib.Omega.{arith}
use mathlib.Core.Bool.{true}
use mathlib.Core.Path.{◌≡◌, ◌∙◌, sym}
use Rattle.context_record.specs.Record.{fit}
use Rattle.coeff_group.specs.PassGroup.{PassGroup, pass_group}
use Rattle.coeff_checks.specs.Checks.{sides_fit, parameters_fit, all_lengths_fit, layout_fits}
use Rattle.coeff_checks.proofs.laws.ChecksLaws.{most_blocks, lengths_are, layout_is, checks_pass, checks_1, checks_18, checks_13}
use Rattle.coeff_checks.proofs.before_work.Goals.{After-layout_fits, After-other_lengths_fit, Else-not-in_limits, Else-not-is_fit, Else-not-layout_fits, Else-not-other_lengths_fit, Else-not-parameters_fit, Start}
use Rattle.coeff_checks.proofs.before_work.Goals as goal

abbrev pass_group_at : Start → PassGroup
pass_group_at c =
    let a = c.args in
    pass_group a.group a.kinds.now a.hf_mul.now a.contexts a.lf_there a.lf0.now a.lf1.now a.lf2.now a.store.now

-- What each test leaves.
sides : (c : Else-not-in_limits) → sides_fit (pass_group_at (goal.at.Else-not-in_limits c).Start) ≡ true
sides c = sym c.in_limits.ensures ∙ c.if-not-in_limits.false

parameters : (c : Else-not-parameters_fit) → parameters_fit c.args.shift c.args.presets ≡ true
parameters c = sym c.parameters_fit.ensures ∙ c.if-not-parameters_fit.false

contexts : (c : Else-not-is_fit) → fit c.args.contexts ≡ true
contexts c = sym c.is_fit.ensures ∙ c.if-not-is_fit.false

lengths_by : (c : After-other_lengths_fit) → (let a = c.args in all_lengths_fit (pass_group_at (goal.at.After-other_lengths_fit c).Start) a.presets a.cluster_map_length a.log_length a.g0_length a.g1_length a.g2_length) ≡ c.other_lengths_fit.result
lengths_by c =
    let a = c.args in
    lengths_are (pass_group_at (goal.at.After-other_lengths_fit c).Start) a.presets a.shift a.cluster_map_length a.log_length a.g0_length a.g1_length a.g2_length (sides (goal.at.After-other_lengths_fit c).Else-not-in_limits) (parameters (goal.at.After-other_lengths_fit c).Else-not-parameters_fit) (contexts (goal.at.After-other_lengths_fit c).Else-not-is_fit) c.read_fits-read.result c.other_lengths_fit.result c.read_fits-read.ensures c.other_lengths_fit.ensures

lengths : (c : Else-not-other_lengths_fit) → (let a = c.args in all_lengths_fit (pass_group_at (goal.at.Else-not-other_lengths_fit c).Start) a.presets a.cluster_map_length a.log_length a.g0_length a.g1_length a.g2_length) ≡ true
lengths c = lengths_by (goal.at.Else-not-other_lengths_fit c).After-other_lengths_fit ∙ c.if-not-other_lengths_fit.false

layout_by : (c : After-layout_fits) → layout_fits (pass_group_at (goal.at.After-layout_fits c).Start) ≡ c.layout_fits.result
layout_by c =
    let a = c.args in
    sym (c.layout_fits.ensures ∙ layout_is (pass_group_at (goal.at.After-layout_fits c).Start) a.presets a.shift a.cluster_map_length a.log_length a.g0_length a.g1_length a.g2_length (sides (goal.at.After-layout_fits c).Else-not-in_limits) (parameters (goal.at.After-layout_fits c).Else-not-parameters_fit) (contexts (goal.at.After-layout_fits c).Else-not-is_fit) (lengths (goal.at.After-layout_fits c).Else-not-other_lengths_fit))

layout : (c : Else-not-layout_fits) → layout_fits (pass_group_at (goal.at.Else-not-layout_fits c).Start) ≡ true
layout c = layout_by (goal.at.Else-not-layout_fits c).After-layout_fits ∙ c.if-not-layout_fits.false

pub overflow_mul-n : goal.overflow_mul-n
overflow_mul-n c = omega (arith, most_blocks (pass_group_at (goal.at.overflow_mul-n c).Start) (sides (goal.at.overflow_mul-n c).Else-not-in_limits))

pub returns-then-not-other_lengths_fit : goal.returns-then-not-other_lengths_fit
returns-then-not-other_lengths_fit c = let a = c.args in sym (checks_1 (pass_group_at (goal.at.returns-then-not-other_lengths_fit c).Start) a.presets a.shift a.cluster_map_length a.log_length a.g0_length a.g1_length a.g2_length (sides (goal.at.returns-then-not-other_lengths_fit c).Else-not-in_limits) (parameters (goal.at.returns-then-not-other_lengths_fit c).Else-not-parameters_fit) (contexts (goal.at.returns-then-not-other_lengths_fit c).Else-not-is_fit) (lengths_by (goal.at.returns-then-not-other_lengths_fit c).After-other_lengths_fit ∙ c.if-not-other_lengths_fit.true))

pub returns-then-not-layout_fits : goal.returns-then-not-layout_fits
returns-then-not-layout_fits c =
    let a = c.args in
    sym (checks_18 (pass_group_at (goal.at.returns-then-not-layout_fits c).Start) a.presets a.shift a.cluster_map_length a.log_length a.g0_length a.g1_length a.g2_length (sides (goal.at.returns-then-not-layout_fits c).Else-not-in_limits) (parameters (goal.at.returns-then-not-layout_fits c).Else-not-parameters_fit) (contexts (goal.at.returns-then-not-layout_fits c).Else-not-is_fit) (lengths (goal.at.returns-then-not-layout_fits c).Else-not-other_lengths_fit) (layout_by (goal.at.returns-then-not-layout_fits c).After-layout_fits ∙ c.if-not-layout_fits.true))

pub returns-then-not-places_fit : goal.returns-then-not-places_fit
returns-then-not-places_fit c =
    let a = c.args in
    sym (checks_13 (pass_group_at (goal.at.returns-then-not-places_fit c).Start) a.presets a.shift a.cluster_map_length a.log_length a.g0_length a.g1_length a.g2_length (sides (goal.at.returns-then-not-places_fit c).Else-not-in_limits) (parameters (goal.at.returns-then-not-places_fit c).Else-not-parameters_fit) (contexts (goal.at.returns-then-not-places_fit c).Else-not-is_fit) (lengths (goal.at.returns-then-not-places_fit c).Else-not-other_lengths_fit) (layout (goal.at.returns-then-not-places_fit c).Else-not-layout_fits) (sym c.places_fit.ensures ∙ c.if-not-places_fit.true))

pub returns : goal.returns
returns c =
    let a = c.args in
    sym (checks_pass (pass_group_at (goal.at.returns c).Start) a.presets a.shift a.cluster_map_length a.log_length a.g0_length a.g1_length a.g2_length (record { sides = sides (goal.at.returns c).Else-not-in_limits; parameters = parameters (goal.at.returns c).Else-not-parameters_fit; contexts = contexts (goal.at.returns c).Else-not-is_fit; lengths = lengths (goal.at.returns c).Else-not-other_lengths_fit; layout = layout (goal.at.returns c).Else-not-layout_fits; places = sym c.places_fit.ensures ∙ c.if-not-places_fit.false }))
