use Prim.Native.Nat.{ℕ, ◌%◌, ◌^◌, ◌+◌, ◌*◌}
use Rattle.coeff_walk.specs.laws.Items.{item_at}
use Rattle.coeff_walk.proofs.laws.Items.{channel_goes, handed_by, counted_15, counted_none}
use Rattle.coeff_walk.proofs.laws.Counts.{shifted_left, power_le}
use mathlib.Core.Path.{refl}
use lib.Pow.{pow_pos}
use Rattle.std.specs.Prelude.{Result}
use Rattle.refusal.specs.declared.Refusal.{Refusal}
use Rattle.coeff_walk.specs.Walk.{Walked}
use Rattle.coeff_walk.specs.Item.{counted}
use Rattle.coeff_group.proofs.laws.Used.{channel_uses}
use Rattle.coeff_walk.specs.laws.Outcome.{WalkShown, AllUseUp}
use Rattle.coeff_walk.proofs.laws.Outcome.{ends}
use native.Mathlib.Omega.{arith}
use mathlib.Core.List.{List, [], ◌∷◌}
use lib.ListN.{drop, get_or}
use Rattle.coeff_varblock.proofs.channel.read_counted.Goals.{Start}
use Rattle.coeff_varblock.proofs.channel.read_counted.Goals as goal

-- What the channel's reading is, and what it promises of its count.
abbrev counted_at : Start → Walked
counted_at c =
    let a = c.args in
    counted a.shift a.clusters a.preset_map.now (item_at a.v a.bw a.block_context a.list.now) a.row.now (drop a.at a.symbols.now) a.at a.log.now a.grid.now

promised : (c : Start) (r : Result ℕ Refusal) (log g : List ℕ) → WalkShown r log g (counted_at c) → WalkShown r log g (counted_at c) × AllUseUp (item_at c.args.v c.args.bw c.args.block_context c.args.list.now ∷ []) c.args.symbols.now c.args.at r
promised c r log g h =
    let a = c.args in
    (h, channel_uses a.shift a.clusters a.preset_map.now (item_at a.v a.bw a.block_context a.list.now) a.row.now a.symbols.now a.at a.log.now a.grid.now r h.answer)

pub returns-then-symbols-at : goal.returns-then-symbols-at
returns-then-symbols-at c = let a = c.args in promised (goal.at.returns-then-symbols-at c).Start _ _ _ (ends _ _ _ (counted_15 a.shift a.clusters a.preset_map.now (item_at a.v a.bw a.block_context a.list.now) a.row.now a.symbols.now a.at a.log.now a.grid.now (omega arith)) refl)

pub count_cluster-requires : goal.count_cluster-requires
count_cluster-requires c = let r = c.requires in (r.in_x, r.context, r.few)

pub bounds-log-at : goal.bounds-log-at
bounds-log-at c = let r = c.requires.room in omega (arith, pow_pos c.args.v.exponent)

pub returns-then-n-eq0 : goal.returns-then-n-eq0
returns-then-n-eq0 c =
    let a = c.args in
    promised (goal.at.returns-then-n-eq0 c).Start _ _ _ (rw c.count_cluster.ensures (ends _ _ _ (counted_none a.shift a.clusters a.preset_map.now (item_at a.v a.bw a.block_context a.list.now) a.row.now a.symbols.now a.at a.log.now a.grid.now (omega arith) (c.if-n-eq0.true)) refl))

pub spot_of-spot-requires : goal.spot_of-spot-requires
spot_of-spot-requires c = let r = c.requires in (r.in_x, r.in_y, r.narrow)

pub offset_bounds-list-low : goal.offset_bounds-list-low
offset_bounds-list-low c = let p = c.requires.exponent in omega (arith, shifted_left 2 c.args.v.exponent (omega arith) p, power_le c.args.v.exponent p)

pub returns : goal.returns
returns c =
    let a = c.args in
    let u = c.if-symbols-at.false in
    promised (goal.at.returns c).Start _ _ _ (handed_by _ _ _ _ _ c.read_places.ensures.0
    (channel_goes a.v a.bw a.block_context a.clusters a.preset_map.now a.list.now a.row.now a.symbols.now a.at a.shift a.log.now a.grid.now (2 * 2 ^ a.v.exponent % 2 ^ 64) (a.block_context * 458 + 37 * a.clusters) (a.block_context * 458 + 37 * a.clusters + 458) (a.at + 1) (get_or a.symbols.now a.at 0) c.first_prev-prev.result
    c.requires (shifted_left 2 a.v.exponent (omega arith) c.requires.exponent) refl refl refl (omega arith) refl c.first_prev-prev.ensures c.count_cluster.result c.count_cluster.ensures c.spot_of-spot.result c.spot_of-spot.ensures))

pub first_prev-prev-requires : goal.first_prev-prev-requires
first_prev-prev-requires c = c.requires.exponent
