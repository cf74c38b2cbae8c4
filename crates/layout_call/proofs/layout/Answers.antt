use Rattle.std.proofs.Common.{rules, ◌≡◌, ◌∙◌, sym}
use Rattle.layout_call.specs.Call.{Inputs, leaves, inputs}
use Rattle.layout_call.proofs.laws.CallSteps.{answer_by, hands_on, call_size, call_modes, call_reads}
use Rattle.layout_reading.specs.laws.Outcome.{handed}
use Rattle.layout_call.proofs.layout.Goals.{Start}
use Rattle.layout_call.proofs.layout.Goals as goal

-- What was lent to be read.
abbrev lent : Start → Inputs
lent c = let a = c.args in inputs a.width a.height a.modes a.types.now a.muls.now a.sharpness.now a.filter a.lookups a.scale

pub returns-then-not-size_fits : goal.returns-then-not-size_fits
returns-then-not-size_fits c =
    let a = c.args in
    call_size (lent (goal.at.returns-then-not-size_fits c).Start) a.kinds.now a.hf_mul.now a.sigma.now (sym c.size_fits.ensures ∙ c.if-not-size_fits.true)

pub returns-then-not-modes_fit : goal.returns-then-not-modes_fit
returns-then-not-modes_fit c =
    let a = c.args in
    call_modes (lent (goal.at.returns-then-not-modes_fit c).Start) a.kinds.now a.hf_mul.now a.sigma.now
    (sym c.size_fits.ensures ∙ c.if-not-size_fits.false) (sym c.modes_fit.ensures ∙ c.if-not-modes_fit.true)

pub returns : goal.returns
returns c =
    let a = c.args in
    let m : c.map_err.result ≡ answer_by c.read.result = search rules in
    let e : leaves c.map_err.result c.read.new.kinds c.read.new.hf_mul c.read.new.sigma ≡ (handed c.read.result c.read.new.kinds c.read.new.hf_mul c.read.new.sigma).outcome = rw m (hands_on c.read.result c.read.new.kinds c.read.new.hf_mul c.read.new.sigma) in
    call_reads (lent (goal.at.returns c).Start) a.kinds.now a.hf_mul.now a.sigma.now
    (sym c.size_fits.ensures ∙ c.if-not-size_fits.false) (sym c.modes_fit.ensures ∙ c.if-not-modes_fit.false)
    c.blocks_of-blocks.result c.blocks_of-blocks.ensures _ c.read.result c.read.new.kinds c.read.new.hf_mul c.read.new.sigma e c.read.ensures
