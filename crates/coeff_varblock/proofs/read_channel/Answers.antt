use mathlib.Core.List.{[], ◌∷◌}
use Prim.Native.Nat.{◌<◌, ◌≤◌, ◌*◌, ◌^◌}
use mathlib.Core.Path.{◌≡◌, ◌∙◌}
use native.Mathlib.Omega.{arith}
use borrow.Author.Rules.{rules}
use Rattle.std.specs.Prelude.{Err}
use lib.ListN.{length, get_or}
use Rattle.order_store.specs.Store.{stretch}
use Rattle.coeff_group.proofs.laws.Stored.{lists_end, list_is}
use Rattle.coeff_group.proofs.laws.Channel.{channel_asks, channel_count, channel_stops, channel_goes}
use Rattle.coeff_varblock.proofs.read_channel.Goals.{After-list_of, In_ok-next}
use Rattle.coeff_varblock.proofs.read_channel.Goals as goal

-- The list is that of the channel.
list_at : (c : After-list_of) → c.list_of.result.now ≡ stretch c.args.store.now c.args.plan.order c.channel_walked-c.result
list_at c =
    let a = c.args in
    c.list_of.ensures ∙ list_is a.store.now c.requires.2.whole a.plan.order c.requires.2.listed a.lists c.requires.1 c.channel_walked-c.result c.channel_walked-c.ensures.0

pub list_of-requires : goal.list_of-requires
list_of-requires c = let a = c.args in (c.channel_walked-c.ensures.0, lists_end a.store.now c.requires.2.whole a.plan.order c.requires.2.listed a.lists c.requires.1)

pub read_in_grid-requires : goal.read_in_grid-requires
read_in_grid-requires c = let a = c.args in channel_asks a.plan a.group a.clusters a.preset_map.now a.store.now a.symbols.now a.shift c.requires.2 a.n a.at a.rows.now a.log.now (a.g0.now ∷ a.g1.now ∷ a.g2.now ∷ []) c.requires.0 c.requires.3 c.channel_walked-c.result c.channel_walked-c.ensures.0 c.channel_walked-c.ensures.1 c.list_of.result.now (list_at (goal.at.read_in_grid-requires c).After-list_of)

-- The channel's count was read.
count_read : (c : In_ok-next) → (c.args.at < length c.args.symbols.now) × (get_or c.args.symbols.now c.args.at 0 ≤ 63 * 2 ^ c.args.plan.shape.exponent)
count_read c = let a = c.args in channel_count a.plan a.group a.clusters a.preset_map.now a.store.now a.symbols.now a.shift c.requires.2 a.n a.at a.rows.now a.log.now (a.g0.now ∷ a.g1.now ∷ a.g2.now ∷ []) c.requires.0 c.requires.3 c.channel_walked-c.result c.channel_walked-c.ensures.0 c.channel_walked-c.ensures.1 c.list_of.result.now (list_at (goal.at.In_ok-next c).After-list_of) c.read_in_grid.result c.read_in_grid.new.log (c.read_in_grid.new.g0 ∷ c.read_in_grid.new.g1 ∷ c.read_in_grid.new.g2 ∷ []) c.read_in_grid.ensures.0 c.in_ok-next.next c.in_ok-next.was

pub returns-in_err-next : goal.returns-in_err-next
returns-in_err-next c =
    let a = c.args in
    let w = c.in_err-next.field-0.0 in
    let f : c.from_residual.result ≡ Err w = search rules in
    rw f (channel_stops a.plan a.group a.clusters a.preset_map.now a.store.now a.symbols.now a.shift c.requires.2 a.n a.at a.rows.now a.log.now (a.g0.now ∷ a.g1.now ∷ a.g2.now ∷ []) c.requires.0 c.requires.3 c.channel_walked-c.result c.channel_walked-c.ensures.0 c.channel_walked-c.ensures.1 c.list_of.result.now (list_at (goal.at.returns-in_err-next c).After-list_of) c.read_in_grid.result c.read_in_grid.new.log (c.read_in_grid.new.g0 ∷ c.read_in_grid.new.g1 ∷ c.read_in_grid.new.g2 ∷ []) c.read_in_grid.ensures.0 c.read_in_grid.ensures.1 w c.in_err-next.was)

pub offset_bounds-symbols-at : goal.offset_bounds-symbols-at
offset_bounds-symbols-at c = omega (arith, (count_read (goal.at.offset_bounds-symbols-at c).In_ok-next).0, c.well_formed, c.ranges)

pub bounds-symbols-at : goal.bounds-symbols-at
bounds-symbols-at c = (count_read (goal.at.bounds-symbols-at c).In_ok-next).0

pub count_over-count_over-requires : goal.count_over-count_over-requires
count_over-count_over-requires c = (c.requires.2.exponent, (count_read (goal.at.count_over-count_over-requires c).In_ok-next).1)

pub returns : goal.returns
returns c =
    let a = c.args in
    channel_goes a.plan a.group a.clusters a.preset_map.now a.store.now a.symbols.now a.shift c.requires.2 a.n a.at a.rows.now a.log.now (a.g0.now ∷ a.g1.now ∷ a.g2.now ∷ []) c.requires.0 c.requires.3 c.channel_walked-c.result c.channel_walked-c.ensures.0 c.channel_walked-c.ensures.1 c.list_of.result.now (list_at (goal.at.returns c).After-list_of) c.read_in_grid.result c.read_in_grid.new.log (c.read_in_grid.new.g0 ∷ c.read_in_grid.new.g1 ∷ c.read_in_grid.new.g2 ∷ []) c.read_in_grid.ensures.0 c.read_in_grid.ensures.1 c.in_ok-next.next c.in_ok-next.was c.count_over-count_over.result c.count_over-count_over.ensures
