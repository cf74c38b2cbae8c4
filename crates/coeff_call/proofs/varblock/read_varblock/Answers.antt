use mathlib.Core.Path.{◌≡◌}
use mathlib.Core.List.{[], ◌∷◌}
use borrow.Author.Rules.{rules}
use Rattle.std.specs.Prelude.{Err}
use Rattle.coeff_group.proofs.laws.Rewritten.{rows_are}
use Rattle.coeff_group.proofs.laws.Step.{step_stops, step_goes}
use Rattle.coeff_call.proofs.varblock.read_varblock.Goals as goal

pub returns-in_err-next : goal.returns-in_err-next
returns-in_err-next c =
    let a = c.args in
    let w = c.in_err-next.field-0.0 in
    let f : c.from_residual.result ≡ Err w = search rules in
    let s = step_stops a.plan a.group a.clusters a.preset_map.now a.store.now a.rows.now a.symbols.now a.at a.shift a.log.now (a.g0.now ∷ a.g1.now ∷ a.g2.now ∷ []) c.requires.0 c.requires.1 c.requires.3 c.read_planned.result c.read_planned.new.log (c.read_planned.new.g0 ∷ c.read_planned.new.g1 ∷ c.read_planned.new.g2 ∷ []) c.read_planned.ensures w c.in_err-next.was in
    rw f (c.requires.3, s.0, s.1)

pub returns : goal.returns
returns c =
    let a = c.args in
    step_goes a.plan a.group a.clusters a.preset_map.now a.store.now a.rows.now a.symbols.now a.at a.shift a.log.now (a.g0.now ∷ a.g1.now ∷ a.g2.now ∷ []) c.requires.0 c.requires.1 c.requires.3 c.read_planned.result c.read_planned.new.log (c.read_planned.new.g0 ∷ c.read_planned.new.g1 ∷ c.read_planned.new.g2 ∷ []) c.read_planned.ensures c.in_ok-next.next c.in_ok-next.counts_over c.in_ok-next.was _ (rows_are a.plan c.in_ok-next.counts_over a.rows.now c.requires.3 _ _ _ c.rewrite.ensures c.rewrite-2.ensures c.rewrite-3.ensures)
