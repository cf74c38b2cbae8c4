-- A pass group: what a coefficient call holds fixed, and the channels of its varblocks (document 01, Coefficients; `hf_coeff.rs`).
use Rattle.std.specs.Prelude.{Bool, List, [], ◌∷◌, ◌++◌, ℕ, ◌*◌, get_or, drop}
use Rattle.dct_select.specs.Transforms.{wide, high, order_of, turns}
use Rattle.layout.specs.Grid.{block_at}
use Rattle.layout.specs.Varblocks.{Varblock, varblocks_of}
use Rattle.lent_check.specs.declared.GroupSides.{GroupSides}
use Rattle.order_store.specs.Store.{stretch}
use Rattle.context_record.specs.declared.HfBlockContext.{HfBlockContext}
use Rattle.context_index.specs.Lists.{in_use}
use Rattle.context_index.specs.Contexts.{block_entry}
use Rattle.order_natural.specs.Places.{paired}
use Rattle.coeff_walk.specs.Places.{cells_of}
use Rattle.coeff_walk.specs.Item.{Item}

pub record PassGroup : Type 0 where
  -- sides in blocks
  pub bw : ℕ
  pub bh : ℕ
  -- per block, row by row
  pub kinds : List ℕ
  pub hf_mul : List ℕ
  pub contexts : HfBlockContext
  -- the LF grids of channels 0, 1, 2, if there are any
  pub lf_there : Bool
  pub lf0 : List ℕ
  pub lf1 : List ℕ
  pub lf2 : List ℕ
  -- the store of the orders
  pub store : List ℕ

-- with the sides of a lent group
abbrev pub pass_group : GroupSides → (kinds hf_mul : List ℕ) (contexts : HfBlockContext) (lf_there : Bool) (lf0 lf1 lf2 store : List ℕ) → PassGroup
pass_group group kinds hf_mul contexts lf_there lf0 lf1 lf2 store = record {
  bw = group.bw;
  bh = group.bh;
  kinds = kinds;
  hf_mul = hf_mul;
  contexts = contexts;
  lf_there = lf_there;
  lf0 = lf0;
  lf1 = lf1;
  lf2 = lf2;
  store = store;
}

abbrev pub varblocks : PassGroup → List Varblock
varblocks P = varblocks_of P.bw P.bh P.kinds P.hf_mul

abbrev pub blocks_of : Varblock → ℕ
blocks_of v = wide v.type * high v.type

-- the entry of the map of block contexts for the n-th channel walked, and the block context there
abbrev pub block_entry_of : PassGroup → Varblock → ℕ → ℕ
block_entry_of P v n =
    block_entry (in_use P.contexts) n (order_of v.type) v.hf_mul P.lf_there
    (block_at P.lf0 P.bw v.x v.y) (block_at P.lf1 P.bw v.x v.y) (block_at P.lf2 P.bw v.x v.y)

abbrev pub block_context_of : PassGroup → Varblock → ℕ → ℕ
block_context_of P v n = get_or P.contexts.block_ctx_map (block_entry_of P v n) 0

-- the cells that are read in channel c: those of its list's places, but for the first, which are the low-frequency cells
abbrev pub cells_in : PassGroup → Varblock → ℕ → List ℕ
cells_in P v c =
    cells_of (turns v.type) (8 * P.bw) (8 * v.x) (8 * v.y)
    (drop (blocks_of v) (paired (stretch P.store (order_of v.type) c)))

-- channel c, the n-th walked
unfoldable pub item_of : PassGroup → Varblock → ℕ → ℕ → Item
item_of P v n c = record {
  channel = c;
  x = v.x;
  y = v.y;
  wide = wide v.type;
  blocks = blocks_of v;
  block_context = block_context_of P v n;
  cells = cells_in P v c;
}

-- channels 1, 0, 2
abbrev pub channel_items : PassGroup → Varblock → List Item
channel_items P v = item_of P v 0 1 ∷ item_of P v 1 0 ∷ item_of P v 2 2 ∷ []

unfoldable pub items_of : PassGroup → List Varblock → List Item
items_of P [] = []
items_of P (v ∷ vs) = channel_items P v ++ items_of P vs

-- all channels of a group
abbrev pub group_items : PassGroup → List Item
group_items P = items_of P (varblocks P)
