use mathlib.Core.Path.{◌≡◌, ◌∙◌, sym, subst}
use mathlib.Core.List.{[], ◌∷◌}
use lib.ListN.{length}
use Rattle.coeff_group.specs.laws.Plans.{items_by}
use Rattle.coeff_group.specs.laws.Rewritten.{VarblockShown}
use Rattle.order_store.specs.LookedUp.{stretch_at}
use Rattle.coeff_group.specs.laws.Lent.{varblock_fits}
use Rattle.coeff_group.proofs.laws.Lent.{fits_planned, varblock_refused, varblock_reads}
use Rattle.coeff_varblock.proofs.read_planned.Goals.{After-varblock_fits}
use Rattle.coeff_varblock.proofs.read_planned.Goals as goal

-- Whether what is lent fits, with the store's stretch for the varblock's order.
fits : (c : After-varblock_fits) → let a = c.args in c.varblock_fits.result ≡ varblock_fits a.plan a.group a.clusters (length a.preset_map.now) (stretch_at (length a.store.now) a.plan.order 0).len a.at a.shift (length a.log.now)
fits c = rw c.stretch_of-lists.ensures at c.varblock_fits.ensures

pub returns-then-not-varblock_fits : goal.returns-then-not-varblock_fits
returns-then-not-varblock_fits c =
    let a = c.args in
    varblock_refused a.plan a.group a.clusters a.preset_map.now a.store.now a.rows.now a.symbols.now a.at a.shift a.log.now (a.g0.now ∷ a.g1.now ∷ a.g2.now ∷ []) (sym (fits (goal.at.returns-then-not-varblock_fits c).After-varblock_fits) ∙ c.if-not-varblock_fits.true)

pub read_channels-requires : goal.read_channels-requires
read_channels-requires c =
    let a = c.args in
    let q = fits_planned a.plan a.group a.clusters a.preset_map.now a.store.now a.at a.shift (length a.log.now) (sym (fits (goal.at.read_channels-requires c).After-varblock_fits) ∙ c.if-not-varblock_fits.false) in
    (c.stretch_of-lists.ensures, q.0, q.1)

pub returns : goal.returns
returns c =
    let a = c.args in
    subst (VarblockShown a.plan (items_by a.plan a.group a.store.now) a.symbols.now a.at c.read_channels.result a.rows.now c.read_channels.new.log (c.read_channels.new.g0 ∷ c.read_channels.new.g1 ∷ c.read_channels.new.g2 ∷ [])) (varblock_reads a.plan a.group a.clusters a.preset_map.now a.store.now a.rows.now a.symbols.now a.at a.shift a.log.now (a.g0.now ∷ a.g1.now ∷ a.g2.now ∷ []) (sym (fits (goal.at.returns c).After-varblock_fits) ∙ c.if-not-varblock_fits.false)) c.read_channels.ensures
