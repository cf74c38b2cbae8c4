-- How many symbols a group may have: a count and a symbol for each place, at most 64 for each block in each channel.
use Rattle.std.specs.Prelude.{◌≡◌, refl, ℕ, ◌+◌, ◌*◌, ◌/◌, ◌<◌, ◌≤◌, length, drop}
use Rattle.std.proofs.Common.{◌∙◌, mul_comm, mul-pos, length-drop}
use mathlib.Core.List.{List, [], ◌∷◌, ◌++◌}
use native.Mathlib.Omega.{arith}
use Rattle.dct_select.specs.Transforms.{order_of, turns}
use Rattle.dct_select.specs.laws.Sides.{places, wide_some, high_some}
use Rattle.order_sizes.specs.BlockSizes.{width_of, height_of}
use Rattle.layout.specs.Valid.{Layout}
use Rattle.layout.specs.Varblocks.{Varblock, area}
use Rattle.layout.specs.Listed.{Among, first, later}
use Rattle.layout.proofs.laws.Rectangles.{known}
use Rattle.layout.proofs.laws.Theorems.{layout_area}
use Rattle.order_store.specs.Store.{PLACES, stretch}
use Rattle.order_natural.specs.Places.{paired}
use Rattle.order_natural.proofs.laws.Flat.{length_paired}
use Rattle.coeff_walk.proofs.laws.PlaceLaws.{length_places}
use Rattle.coeff_walk.specs.Item.{Item}
use Rattle.coeff_group.specs.PassGroup.{PassGroup, varblocks, blocks_of, cells_in, item_of, channel_items, items_of}
use Rattle.dct_select.specs.laws.Sides.{order_lt}
use Rattle.coeff_group.proofs.laws.Stored.{stretch_long}
use Rattle.coeff_group.specs.laws.Symbols.{symbols_in}

symbols_both : (xs ys : List Item) → symbols_in (xs ++ ys) ≡ symbols_in xs + symbols_in ys
symbols_both [] ys = omega arith
symbols_both (x ∷ xs) ys = omega (arith, symbols_both xs ys)

pub some_blocks : (v : Varblock) → v.type < 27 → 1 ≤ blocks_of v
some_blocks v h = mul-pos (wide_some v.type h) (high_some v.type h)

module _ (P : PassGroup) (whole : length P.store ≡ 2 * PLACES) where
  pub places_many : (v : Varblock) → v.type < 27 → (c : ℕ) → c < 3 → length (cells_in P v c) ≡ 63 * blocks_of v
  places_many v h c hc =
      let t = v.type in
      let s = stretch P.store (order_of t) c in
      let a : length s ≡ 2 * (width_of (order_of t) * height_of (order_of t)) = stretch_long P.store whole (order_of t) c (order_lt t h) hc in
      let b = places t h in
      let p : length (paired s) ≡ length s / 2 = length_paired s in
      length_places (turns t) (8 * P.bw) (8 * v.x) (8 * v.y) (drop (blocks_of v) (paired s)) ∙ length-drop (blocks_of v) (paired s) ∙ omega arith

  pub varblock_symbols : (v : Varblock) → v.type < 27 → symbols_in (channel_items P v) ≤ 192 * blocks_of v
  unfolding item_of
  varblock_symbols v h =
      let a = places_many v h 1 (omega arith) in
      let b = places_many v h 0 (omega arith) in
      let c = places_many v h 2 (omega arith) in
      omega (arith, some_blocks v h)

  pub group_symbols : (vs : List Varblock) → ((v : Varblock) → Among v vs → v.type < 27) → symbols_in (items_of P vs) ≤ 192 * area vs
  unfolding items_of area
  group_symbols [] f = omega arith
  group_symbols (v ∷ vs) f =
      rw (symbols_both (channel_items P v) (items_of P vs)) (omega (arith, varblock_symbols v (f v (first refl)), group_symbols vs (λ u j. f u (later j))))

  pub most_symbols : Layout P.bw P.bh P.kinds P.hf_mul → symbols_in (items_of P (varblocks P)) ≤ 192 * (P.bh * P.bw)
  most_symbols lay =
      omega (arith, group_symbols (varblocks P) (known lay), layout_area P.bw P.bh P.kinds P.hf_mul lay, mul_comm P.bw P.bh)
