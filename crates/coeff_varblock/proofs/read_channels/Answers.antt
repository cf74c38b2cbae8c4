use mathlib.Core.List.{List, [], ◌∷◌}
use Prim.Native.Nat.{ℕ, ◌+◌, ◌*◌, ◌^◌}
use mathlib.Core.Path.{◌≡◌, refl, ◌∙◌}
use native.Mathlib.Omega.{arith}
use borrow.Author.Rules.{rules}
use lib.ListN.{length, drop, length-set}
use Rattle.std.specs.Prelude.{Result, Err}
use Rattle.refusal.specs.declared.Refusal.{Refusal}
use Rattle.coeff_walk.specs.laws.Outcome.{AllUseUp}
use Rattle.coeff_group.specs.Group.{PerChannel, Reading, going, read_items}
use Rattle.coeff_group.specs.laws.Steps.{Shown}
use Rattle.coeff_group.proofs.laws.Used.{reading_uses, shown_walk}
use Rattle.coeff_group.specs.laws.Rewritten.{three, rewritten, no_counts}
use Rattle.coeff_group.proofs.laws.Rewritten.{counts_none, counts_read}
use Rattle.coeff_group.specs.laws.Plans.{items_by}
use Rattle.coeff_group.proofs.laws.Channels.{channels_start, channels_end, channels_room, channels_stop, channels_go}
use Rattle.coeff_varblock.proofs.read_channels.Goals.{Start}
use Rattle.coeff_varblock.proofs.read_channels.Goals as goal

-- the whole reading of the varblock
abbrev whole_at : Start → Reading
whole_at c =
    let a = c.args in
    read_items a.shift a.clusters a.preset_map.now (items_by a.plan a.group a.store.now)
    (going (drop a.at a.symbols.now) a.at a.log.now (a.g0.now ∷ a.g1.now ∷ a.g2.now ∷ []) (three a.rows.now))

-- what it promises of the counts
channels_use : (c : Start) (most : ℕ) (w : Result ℕ Refusal) (rows : PerChannel) (log : List ℕ) (G : PerChannel) → Shown c.args.symbols.now most w rows log G (whole_at c) → AllUseUp (items_by c.args.plan c.args.group c.args.store.now) c.args.symbols.now c.args.at w
channels_use c most w rows log G t =
    let a = c.args in
    reading_uses a.shift a.clusters a.preset_map.now (items_by a.plan a.group a.store.now) a.symbols.now a.at a.log.now (a.g0.now ∷ a.g1.now ∷ a.g2.now ∷ []) (three a.rows.now) w
    (shown_walk a.symbols.now most w rows log G (whole_at c) t)

pub loop-n-init : goal.loop-n-init
loop-n-init c =
    let a = c.args in
    (refl, refl, channels_start a.plan a.group a.clusters a.preset_map.now a.store.now a.symbols.now a.at a.shift a.rows.now a.log.now (a.g0.now ∷ a.g1.now ∷ a.g2.now ∷ []))

pub read_channel-requires : goal.read_channel-requires
read_channel-requires c =
    let a = c.args in
    let l = c.loop-n in
    (c.loop-n-test.true, c.requires.0, c.requires.1, rw l.invariant.0 (channels_room a.plan a.group a.clusters a.preset_map.now a.store.now a.symbols.now a.at a.shift (whole_at (goal.at.read_channel-requires c).Start) l.n l.at l.counts_over a.rows.now l.log (l.g0 ∷ l.g1 ∷ l.g2 ∷ []) l.invariant.2 c.loop-n-test.true (length a.log.now) c.requires.2))

pub returns-in_err-next : goal.returns-in_err-next
returns-in_err-next c =
    let a = c.args in
    let l = c.loop-n in
    let z = c.read_channel.new in
    let w = c.in_err-next.field-0.0 in
    let f : c.from_residual.result ≡ Err w = search rules in
    let most : ℕ = a.at + 192 * 2 ^ a.plan.shape.exponent in
    let t = channels_stop a.plan a.group a.clusters a.preset_map.now a.store.now a.symbols.now a.at a.shift (whole_at (goal.at.returns-in_err-next c).Start) l.n l.at l.counts_over a.rows.now l.log (l.g0 ∷ l.g1 ∷ l.g2 ∷ []) l.invariant.2 c.loop-n-test.true w z.log (z.g0 ∷ z.g1 ∷ z.g2 ∷ []) (rw c.in_err-next.was at c.read_channel.ensures) most (rewritten a.plan no_counts a.rows.now 3) in
    rw f (record {
      shown = t;
      used = channels_use (goal.at.returns-in_err-next c).Start most _ _ _ _ t;
      counted = λ long. counts_none a.plan a.symbols.now most z.log (z.g0 ∷ z.g1 ∷ z.g2 ∷ []) w (rewritten a.plan no_counts a.rows.now 3) (whole_at (goal.at.returns-in_err-next c).Start) t;
    })

pub loop-n-preserved : goal.loop-n-preserved
loop-n-preserved c =
    let a = c.args in
    let l = c.loop-n in
    let z = c.read_channel.new in (
      c.read_channel.auto.log ∙ l.invariant.0,
      length-set l.counts_over c.channel_walked.result c.in_ok-next.count_over ∙ l.invariant.1,
      channels_go a.plan a.group a.clusters a.preset_map.now a.store.now a.symbols.now a.at a.shift (whole_at (goal.at.loop-n-preserved c).Start) l.n l.at l.counts_over a.rows.now l.log (l.g0 ∷ l.g1 ∷ l.g2 ∷ []) l.invariant.2 c.loop-n-test.true c.in_ok-next.next c.in_ok-next.count_over z.log (z.g0 ∷ z.g1 ∷ z.g2 ∷ []) (rw c.in_ok-next.was at c.read_channel.ensures) c.channel_walked.result _ l.invariant.1 c.channel_walked.ensures.1 refl,
    )

pub returns : goal.returns
returns c =
    let a = c.args in
    let l = c.loop-n in
    let t = channels_end a.plan a.group a.clusters a.preset_map.now a.store.now a.symbols.now a.at a.shift (whole_at (goal.at.returns c).Start) l.n l.at l.counts_over a.rows.now l.log (l.g0 ∷ l.g1 ∷ l.g2 ∷ []) l.invariant.2 (omega (arith, l.auto.n-end, c.loop-n-test.false)) in
    record {
      shown = t;
      used = channels_use (goal.at.returns c).Start (a.at + 192 * 2 ^ a.plan.shape.exponent) _ _ _ _ t;
      counted = λ long. counts_read a.plan a.symbols.now (a.at + 192 * 2 ^ a.plan.shape.exponent) l.log (l.g0 ∷ l.g1 ∷ l.g2 ∷ []) l.counts_over a.rows.now c.requires.1.some long l.at (whole_at (goal.at.returns c).Start) l.invariant.1 t;
    }
