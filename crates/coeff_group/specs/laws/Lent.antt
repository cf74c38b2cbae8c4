-- A varblock as it is lent: what fits, and its reading.
use Rattle.std.specs.Prelude.{Bool, cond, ◌&&◌, List, ltb, leb, eqb, length, drop}
use Prim.Native.Nat.{ℕ, ◌*◌, ◌-◌, ◌^◌, ◌<◌, ◌≤◌}
use Rattle.std.proofs.Math.ListN.{get_or}
use Rattle.refusal.specs.declared.Refusal.TheVariants.{Length}
use Rattle.lent_check.specs.declared.GroupSides.{GroupSides}
use Rattle.order_store.specs.LookedUp.{stretch_at}
use Rattle.coeff_group.specs.declared.plan.Plan.{Plan}
use Rattle.coeff_group.specs.Group.{PerChannel, Reading, going, refused, read_items}
use Rattle.coeff_group.specs.laws.Rewritten.{three}
use Rattle.coeff_group.specs.laws.Plans.{items_by}

-- a varblock's limits: at most 2^10 blocks, at least one of them wide, in a group of at most 32 × 32, at most 16 clusters
abbrev pub varblock_small : Plan → GroupSides → (clusters shift : ℕ) → Bool
varblock_small p group clusters shift =
    ltb p.shape.x 32
    && ltb p.shape.y 32
    && leb 1 p.shape.wide
    && leb p.shape.exponent 10
    && leb group.bw 32
    && ltb (get_or p.block_contexts 0 0) clusters
    && ltb (get_or p.block_contexts 1 0) clusters
    && ltb (get_or p.block_contexts 2 0) clusters
    && leb clusters 16
    && leb shift 3

-- what is lent for a varblock fits: its limits, a preset's whole part of the cluster map, an order of as many places (`list_length` numbers), and a log with room for all its symbols
unfoldable pub varblock_fits : Plan → GroupSides → (clusters preset_map_length list_length at shift log_length : ℕ) → Bool
varblock_fits p group clusters preset_map_length list_length at shift log_length =
    varblock_small p group clusters shift
    && leb at log_length
    && (eqb preset_map_length (495 * clusters)
    && eqb list_length (128 * 2 ^ p.shape.exponent)
    && leb (192 * 2 ^ p.shape.exponent) (log_length - at))

-- the reading of a varblock; nothing is read where what is lent does not fit
abbrev pub planned_read : Plan → GroupSides → (clusters : ℕ) (preset_map store : List ℕ) (rows : PerChannel) (symbols : List ℕ) (at shift : ℕ) (log : List ℕ) (G : PerChannel) → Reading
planned_read p group clusters preset_map store rows symbols at shift log G =
    cond (varblock_fits p group clusters (length preset_map) (stretch_at (length store) p.order 0).len at shift (length log))
    (read_items shift clusters preset_map (items_by p group store) (going (drop at symbols) at log G (three rows)))
    (refused (λ n. Length) at log G)

-- the limits, each by itself
pub record VarblockLimits (p : Plan) (group : GroupSides) (clusters shift : ℕ) : Type 0 where
  pub in_x : p.shape.x < 32
  pub in_y : p.shape.y < 32
  pub some : 1 ≤ p.shape.wide
  pub exponent : p.shape.exponent ≤ 10
  pub narrow : group.bw ≤ 32
  pub first : get_or p.block_contexts 0 0 < clusters
  pub second : get_or p.block_contexts 1 0 < clusters
  pub third : get_or p.block_contexts 2 0 < clusters
  pub few : clusters ≤ 16
  pub shifts : shift ≤ 3
