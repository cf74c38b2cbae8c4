use mathlib.Core.Path.{refl, ◌≡◌, ◌∙◌}
use mathlib.Core.List.{List, [], ◌∷◌}
use borrow.Author.Rules.{rules}
use Prim.Native.Nat.{ℕ, ◌+◌, ◌*◌}
use lib.ListN.{length}
use Rattle.std.specs.Prelude.{Result, Err}
use Rattle.refusal.specs.declared.Refusal.{Refusal}
use Rattle.coeff_walk.specs.laws.Outcome.{AllUseUp}
use Rattle.coeff_group.specs.Group.{PerChannel, Reading}
use Rattle.coeff_group.specs.PassGroup.{PassGroup, pass_group, group_items}
use Rattle.coeff_group.specs.laws.Due.{Due, GroupShown, row_from, rows_from, whole_of}
use Rattle.coeff_group.proofs.laws.Due.{due_start, due_row, due_next, due_skip, due_end, corner_asks, corner_stop, corner_step}
use Rattle.coeff_group.proofs.laws.Used.{group_uses}
use Rattle.coeff_call.proofs.group.read_group.Goals.{Else-kind-lt2, Start}
use Rattle.coeff_call.proofs.group.read_group.Goals as goal

-- the group, and its whole reading
abbrev pass_group_at : Start → PassGroup
pass_group_at c =
    let a = c.args in
    pass_group a.group a.kinds.now a.hf_mul.now a.contexts a.lf_there a.lf0.now a.lf1.now a.lf2.now a.store.now

abbrev whole_at : Start → Reading
whole_at c =
    let a = c.args in
    whole_of a.shift a.contexts.num_block_clusters a.preset_map.now (pass_group_at c) a.symbols.now a.log.now (a.g0.now ∷ a.g1.now ∷ a.g2.now ∷ [])

-- A corner is found: what is due, and how long the log is.
abbrev start_of : Else-kind-lt2 → Start
start_of c = (goal.at.Else-kind-lt2 c).Start

due : (c : Else-kind-lt2) →
    let s = start_of c in
    let a = s.args in
    let l = c.loop-x in
    Due a.shift a.contexts.num_block_clusters a.preset_map.now (pass_group_at s) a.symbols.now (192 * (a.group.bw * a.group.bh)) (whole_at s) (row_from (pass_group_at s) l.x c.loop-y.y) l.at l.rows l.log (l.g0 ∷ l.g1 ∷ l.g2 ∷ [])
due c =
    let s = start_of c in
    let a = s.args in
    let o = c.loop-y in
    c.loop-x.invariant.1 (whole_at s) (due_row a.shift a.contexts.num_block_clusters a.preset_map.now (pass_group_at s) a.symbols.now (192 * (a.group.bw * a.group.bh)) (whole_at s) o.at o.rows o.log (o.g0 ∷ o.g1 ∷ o.g2 ∷ []) o.y c.loop-y-test.true o.invariant.1)

log_long : (c : Else-kind-lt2) → length c.loop-x.log ≡ length (start_of c).args.log.now
log_long c = c.loop-x.invariant.0 ∙ c.loop-y.invariant.0

-- The group's reading, and what it promises of its counts.
promised : (c : Start) (r : Result ℕ Refusal) (log : List ℕ) (G : PerChannel) → GroupShown r log G (whole_at c) → GroupShown r log G (whole_at c) × AllUseUp (group_items (pass_group_at c)) c.args.symbols.now 0 r
promised c r log G g =
    let a = c.args in
    (g, group_uses a.shift a.contexts.num_block_clusters a.preset_map.now (pass_group_at c) a.symbols.now a.log.now (a.g0.now ∷ a.g1.now ∷ a.g2.now ∷ []) r g.answer)

pub loop-y-init : goal.loop-y-init
loop-y-init c =
    let a = c.args in
    (refl, due_start a.shift a.contexts.num_block_clusters a.preset_map.now (pass_group_at (goal.at.loop-y-init c).Start) a.symbols.now a.log.now (a.g0.now ∷ a.g1.now ∷ a.g2.now ∷ []) c.requires.layout)

pub loop-x-preserved-then-kind-lt2 : goal.loop-x-preserved-then-kind-lt2
loop-x-preserved-then-kind-lt2 c =
    let a = c.args in
    let o = c.loop-y in
    let l = c.loop-x in
    let p = pass_group_at (goal.at.loop-x-preserved-then-kind-lt2 c).Start in
    (l.invariant.0, λ W d. due_skip a.shift a.contexts.num_block_clusters a.preset_map.now p a.symbols.now (192 * (a.group.bw * a.group.bh)) W l.at l.rows l.log (l.g0 ∷ l.g1 ∷ l.g2 ∷ []) l.x o.y (rows_from p (o.y + 1)) c.loop-x-test.true c.if-kind-lt2.true (l.invariant.1 W d))

pub read_varblock-requires : goal.read_varblock-requires
read_varblock-requires c =
    let e = (goal.at.read_varblock-requires c).Else-kind-lt2 in
    let s = start_of e in
    let a = s.args in
    let o = c.loop-y in
    let l = c.loop-x in
    corner_asks a.shift a.contexts.num_block_clusters a.preset_map.now (pass_group_at s) a.symbols.now (length a.log.now) s.requires (whole_at s) l.x o.y l.at l.rows l.log (l.g0 ∷ l.g1 ∷ l.g2 ∷ []) c.loop-x-test.true c.loop-y-test.true c.if-kind-lt2.false (due e) c.plan_of-plan.result c.plan_of-plan.ensures (log_long e)

pub returns-in_err-at : goal.returns-in_err-at
returns-in_err-at c =
    let e = (goal.at.returns-in_err-at c).Else-kind-lt2 in
    let s = start_of e in
    let a = s.args in
    let o = e.loop-y in
    let l = e.loop-x in
    let z = c.read_varblock.new in
    let w = c.in_err-at.field-0.0 in
    let f : c.from_residual.result ≡ Err w = search rules in
    rw f (promised s _ _ _ (corner_stop a.shift a.contexts.num_block_clusters a.preset_map.now (pass_group_at s) a.symbols.now (length a.log.now) s.requires (whole_at s) l.x o.y l.at l.rows l.log (l.g0 ∷ l.g1 ∷ l.g2 ∷ []) e.loop-x-test.true e.loop-y-test.true e.if-kind-lt2.false (due e) c.plan_of-plan.result c.plan_of-plan.ensures z.rows z.log (z.g0 ∷ z.g1 ∷ z.g2 ∷ []) w (rw c.in_err-at.was at c.read_varblock.ensures.1)))

pub loop-x-preserved : goal.loop-x-preserved
loop-x-preserved c =
    let e = (goal.at.loop-x-preserved c).Else-kind-lt2 in
    let s = start_of e in
    let a = s.args in
    let o = e.loop-y in
    let l = e.loop-x in
    let z = c.read_varblock.new in (
      c.read_varblock.auto.log ∙ l.invariant.0,
      λ W d. corner_step a.shift a.contexts.num_block_clusters a.preset_map.now (pass_group_at s) a.symbols.now (length a.log.now) s.requires W l.x o.y l.at l.rows l.log (l.g0 ∷ l.g1 ∷ l.g2 ∷ []) e.loop-x-test.true e.loop-y-test.true e.if-kind-lt2.false (l.invariant.1 W d) c.plan_of-plan.result c.plan_of-plan.ensures z.rows z.log (z.g0 ∷ z.g1 ∷ z.g2 ∷ []) c.in_ok-at.at (rw c.in_ok-at.was at c.read_varblock.ensures.1) c.read_varblock.ensures.0,
    )

pub loop-y-preserved : goal.loop-y-preserved
loop-y-preserved c =
    let a = c.args in
    let o = c.loop-y in
    let l = c.loop-x in
    let s = (goal.at.loop-y-preserved c).Start in
    let p = pass_group_at s in (
      l.invariant.0 ∙ o.invariant.0,
      due_next a.shift a.contexts.num_block_clusters a.preset_map.now p a.symbols.now (192 * (a.group.bw * a.group.bh)) (whole_at s) l.at l.rows l.log (l.g0 ∷ l.g1 ∷ l.g2 ∷ []) l.x o.y c.loop-x-test.false (l.invariant.1 (whole_at s) (due_row a.shift a.contexts.num_block_clusters a.preset_map.now p a.symbols.now (192 * (a.group.bw * a.group.bh)) (whole_at s) o.at o.rows o.log (o.g0 ∷ o.g1 ∷ o.g2 ∷ []) o.y c.loop-y-test.true o.invariant.1)),
    )

pub returns : goal.returns
returns c =
    let a = c.args in
    let o = c.loop-y in
    let s = (goal.at.returns c).Start in
    promised s _ _ _ (due_end a.shift a.contexts.num_block_clusters a.preset_map.now (pass_group_at s) a.symbols.now (192 * (a.group.bw * a.group.bh)) (whole_at s) o.at o.rows o.log (o.g0 ∷ o.g1 ∷ o.g2 ∷ []) o.y c.loop-y-test.false o.invariant.1)
