-- A varblock as the code plans it.
use Rattle.std.specs.Prelude.{◌≡◌, Bool, true, List, [], ◌∷◌, map, ℕ, ◌*◌, ◌^◌, ◌<◌, ◌≤◌, length, get_or}
use Rattle.dct_select.specs.declared.TransformType.{TransformType}
use Rattle.dct_select.specs.Transforms.{wide, order_of, turns}
use Rattle.refusal.specs.Answer.{Answer, gives, refuses}
use Rattle.dct_select.specs.LookUp.{number_of}
use Rattle.layout.specs.Grid.{block_at}
use Rattle.lent_check.specs.declared.GroupSides.{GroupSides}
use Rattle.order_store.specs.Store.{PLACES, stretch}
use Rattle.context_index.specs.laws.Contexts.{block_contexts}
use Rattle.context_index.specs.Lists.{contexts_by}
use Rattle.coeff_walk.specs.Item.{Item}
use Rattle.coeff_walk.specs.laws.Items.{item_at}
use Rattle.coeff_walk.specs.declared.shape.Shape.{Shape}
use Rattle.coeff_group.specs.declared.plan.Plan.{Plan}
use Rattle.dct_select.specs.laws.Exponents.{exponent_of}

abbrev pub shape_of : ℕ → ℕ → ℕ → Shape
shape_of x y t = record { x = x; y = y; wide = wide t; exponent = exponent_of t; turn = turns t }

-- the varblock of transform t and hf_mul hf_mul at block x, y
abbrev pub plan_by : ℕ → ℕ → GroupSides → ℕ → ℕ → List ℕ → List ℕ → List ℕ → List ℕ → Bool → List ℕ → List ℕ → List ℕ → Plan
plan_by x y group t hf_mul lengths lf qf map there lf0 lf1 lf2 = record {
  shape = shape_of x y t;
  order = order_of t;
  block_contexts = block_contexts (contexts_by lengths lf qf map) (order_of t) hf_mul there (block_at lf0 group.bw x y) (block_at lf1 group.bw x y) (block_at lf2 group.bw x y);
}

-- channel c of an item
abbrev pub in_channel : ℕ → Item → Item
in_channel c it = record { channel = c; x = it.x; y = it.y; wide = it.wide; blocks = it.blocks; block_context = it.block_context; cells = it.cells }

-- channel c, the n-th walked
abbrev pub item_by : Plan → GroupSides → List ℕ → ℕ → ℕ → Item
item_by p group store n c = in_channel c (item_at p.shape group.bw (get_or p.block_contexts n 0) (stretch store p.order c))

-- the channel that is walked n-th
abbrev pub channel_walked : ℕ → ℕ
channel_walked n = get_or (1 ∷ 0 ∷ 2 ∷ []) n 0

abbrev pub items_by : Plan → GroupSides → List ℕ → List Item
items_by p group store = item_by p group store 0 1 ∷ item_by p group store 1 0 ∷ item_by p group store 2 2 ∷ []

-- what the reading of a planned varblock requires, but for room in the log
pub record Planned (p : Plan) (group : GroupSides) (clusters : ℕ) (preset_map store : List ℕ) (shift : ℕ) : Type 0 where
  pub in_x : p.shape.x < 32
  pub in_y : p.shape.y < 32
  pub some : 1 ≤ p.shape.wide
  pub exponent : p.shape.exponent ≤ 10
  pub narrow : group.bw ≤ 32
  pub context : (n : ℕ) → n < 3 → get_or p.block_contexts n 0 < clusters
  pub few : clusters ≤ 16
  pub entries : length preset_map ≡ 495 * clusters
  pub listed : p.order < 13
  pub whole : length store ≡ 2 * PLACES
  pub long : (c : ℕ) → c < 3 → length (stretch store p.order c) ≡ 128 * 2 ^ p.shape.exponent
  pub shifts : shift ≤ 3

-- by way of the transform
abbrev pub shape_by : ℕ → ℕ → ℕ → Answer TransformType → Shape
shape_by x y exponent (gives t) = record { x = x; y = y; wide = wide (number_of t); exponent = exponent; turn = turns (number_of t) }
shape_by x y exponent (refuses r) = record { x = x; y = y; wide = 0; exponent = 0; turn = true }

abbrev pub order_by : Answer TransformType → ℕ
order_by (gives t) = order_of (number_of t)
order_by (refuses r) = 0
