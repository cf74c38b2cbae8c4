-- What is lent for one channel, and its outcomes.
use Rattle.std.specs.Prelude.{◌≡◌, List, ℕ, ◌+◌, ◌*◌, ◌^◌, ◌<◌, ◌≤◌, drop}
use Rattle.order_natural.specs.Places.{paired}
use Rattle.coeff_walk.specs.Places.{cells_of}
use Rattle.coeff_walk.specs.Item.{Item}
use Rattle.coeff_walk.specs.declared.spot.Spot.{Spot}
use Rattle.coeff_walk.specs.declared.shape.Shape.{Shape}

-- the item of a varblock in a group bw blocks wide, in a channel of this block context and list;
-- the channel's number is 0 for all three: it decides nothing in `counted`
abbrev pub item_at : Shape → ℕ → ℕ → List ℕ → Item
item_at v bw block_context list = record {
  channel = 0;
  x = v.x;
  y = v.y;
  wide = v.wide;
  blocks = 2 ^ v.exponent;
  block_context = block_context;
  cells = cells_of v.turn (8 * bw) (8 * v.x) (8 * v.y) (drop (2 ^ v.exponent) (paired list));
}

-- what is lent for one channel fits: a varblock of at most 2^10 blocks in a group of at most 32 × 32, at most 16 clusters,
-- a whole preset map, a whole list, and a log with room for a count and its coefficients
pub record ItemReady (v : Shape) (bw block_context clusters preset_map list at shift log : ℕ) : Type 0 where
  pub in_x : v.x < 32
  pub in_y : v.y < 32
  pub exponent : v.exponent ≤ 10
  pub narrow : bw ≤ 32
  pub context : block_context < clusters
  pub few : clusters ≤ 16
  pub entries : preset_map ≡ 495 * clusters
  pub long : list ≡ 128 * 2 ^ v.exponent
  pub shifts : shift ≤ 3
  pub room : at + 64 * 2 ^ v.exponent ≤ log

-- the first cell of a varblock in a grid of a group bw blocks wide
abbrev pub spot_of : Shape → ℕ → Spot
spot_of v bw = record { width = 8 * bw; x = 8 * v.x; y = 8 * v.y; exponent = v.exponent; turn = v.turn }
