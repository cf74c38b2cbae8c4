-- No reading of the coefficient call reads or writes outside a list (document 01, Coefficients): whatever passes the checks before work,
-- stores that no order call wrote included, and whatever the symbols. So the definitions' numbers for places outside are never met.
use Rattle.std.specs.Prelude.{◌≡◌, refl, true, ◌⊎◌, ℕ, zero, suc, ◌+◌, ◌*◌, ◌<◌, ◌≤◌, length, get_or, drop, replicate}
use Rattle.std.proofs.Common.{inl, inr, arith, mul-le-mul, mul-suc, le_refl, length-drop, length-take-le}
use mathlib.Core.List.Memᴰ.{head as here}
use mathlib.Core.List.Memᴰ.{tail as there}
use mathlib.Core.List.{List, [], ◌∷◌, ◌++◌}
use Rattle.std.proofs.Math.Nat.{mul-mul-mul_comm}
use Rattle.std.proofs.Math.Arith.{digits_lt}
use Rattle.order_sizes.specs.BlockSizes.{width_of, height_of}
use Rattle.dct_select.specs.Transforms.{wide, high, order_of, turns, across, down}
use Rattle.order_natural.specs.Places.{Place, paired}
use Rattle.dct_select.specs.laws.Sides.{wide_some, inside}
use Rattle.layout.specs.Grid.{block_at}
use Rattle.layout.proofs.laws.Grid.{place_lt}
use Rattle.layout.specs.Empty.{Empty}
use Rattle.layout.proofs.laws.Empty.{empty_or_not, no_varblocks}
use Rattle.layout.specs.Varblocks.{Varblock}
use Rattle.layout.specs.Listed.{Among, first, later}
use Rattle.layout.proofs.laws.Rectangles.{has, known, right, bottom}
use Rattle.layout.proofs.laws.Theorems.{layout_iff}
use Rattle.context_record.specs.Record.{bsize_of, fit}
use Rattle.context_index.specs.Lists.{in_use}
use Rattle.context_index.proofs.laws.Bounds.{block_entry_lt, context_lt, in_use_size_le}
use Rattle.order_store.specs.Store.{PLACES, stretch, places_fit}
use Rattle.order_places.specs.Places.{Inside}
use Rattle.order_places.specs.laws.Places.{fits_at}
use Rattle.coeff_walk.specs.Item.{Item}
use Rattle.coeff_group.specs.Group.{PerChannel, Reading, going, read_item, read_items, zero_rows}
use Rattle.coeff_group.specs.PassGroup.{PassGroup, varblocks, blocks_of, block_entry_of, cells_in, item_of, channel_items, items_of}
use Rattle.coeff_group.specs.Work.{clusters_of}
use Rattle.dct_select.specs.laws.Sides.{order_lt}
use Rattle.coeff_group.proofs.laws.Stored.{stretch_long}
use Rattle.coeff_checks.specs.Checks.{blocks}
use Rattle.coeff_checks.proofs.laws.ChecksLaws.{sides_fit_lem}
use Rattle.coeff_call.specs.Call.{Lent, preset_map, Passed}
use Rattle.coeff_call.specs.laws.CallLaws.{lengths_fit_lem, grids_fit}
use Rattle.one_to_one.specs.Filling.{LaidOut}
use Rattle.one_to_one.proofs.laws.Spread.{in_place}
use Rattle.one_to_one.proofs.laws.Items.{each_item}
use Rattle.coeff_group.specs.laws.Symbols.{symbols_in}
use Rattle.coeff_group.proofs.laws.Symbols.{places_many, some_blocks, most_symbols}
use Rattle.one_to_one.specs.Inside.{ReadInside, VarblockInside, GroupInside, ReadingInside}
use Rattle.one_to_one.specs.laws.InsideLaws.{Sound, Small, Sane}
use Rattle.one_to_one.proofs.laws.InsideLaws.{read_inside}
use Rattle.coeff_group.specs.laws.Cells.{In}

-- Places of a stored list, by number and in the list.
rest_in : (k : ℕ) (q : Place) (l : List Place) → In q (drop k l) → In q l
rest_in zero q l i = i
rest_in (suc k) q [] i = i
rest_in (suc k) q (r ∷ l) i = there (rest_in k q l i)

pair_inside : (w h n : ℕ) (l : List ℕ) → length l ≡ 2 * n → Inside w h n l → (q : Place) → In q (paired l) → (q.0 < w) × (q.1 < h)
unfolding paired
pair_inside w h n [] e f q i = absurd (elim i [ ])
pair_inside w h n (x ∷ []) e f q i = absurd (elim i [ ])
pair_inside w h n (x ∷ y ∷ r) e f q (here p) = rw p (f 0 (omega arith))
pair_inside w h zero (x ∷ y ∷ r) e f q (there i) = absurd (omega arith)
pair_inside w h (suc n) (x ∷ y ∷ r) e f q (there i) =
    pair_inside w h n r (omega arith) (λ k b. let v : 2 * suc k ≡ suc (suc (2 * k)) = omega arith in let c : suc (suc (2 * k)) + 1 ≡ suc (suc (2 * k + 1)) = omega arith in rw (v, c) at (f (suc k) (omega arith))) q i

module _ (P : PassGroup) (lay : LaidOut P) (narrow : P.bw ≤ 32) (contexts : fit P.contexts ≡ true) (whole : length P.store ≡ 2 * PLACES) (places : places_fit P.store ≡ true) where
  module _ (v : Varblock) (i : Among v (varblocks P)) (c : ℕ) (hc : c < 3) where
    -- each place of any store that passes 13 is a cell of the grid
    cell_inside : (p : ℕ) → In p (cells_in P v c) → p < 64 * blocks P
    cell_inside p j =
        let t = v.type in
        let k = order_of t in
        let o = order_lt t (known lay v i) in
        let s = stretch P.store k c in
        let r = in_place (turns t) (8 * P.bw) (8 * v.x) (8 * v.y) (drop (blocks_of v) (paired s)) p j in
        let q = r.0 in
        let b = pair_inside (width_of k) (height_of k) (width_of k * height_of k) s (stretch_long P.store whole k c o hc) (fits_at P.store whole places k c o hc) q (rest_in (blocks_of v) q (paired s) r.1) in
        let d : (across (turns t) q.0 q.1 < 8 * wide t) × (down (turns t) q.0 q.1 < 8 * high t) = inside t (known lay v i) q.0 q.1 b.0 b.1 in
        let d₀ = d.0 in let d₁ = d.1 in
        let x = right lay v i in let y = bottom lay v i in
        let m : 8 * P.bh * (8 * P.bw) ≡ 64 * blocks P = mul-mul-mul_comm 8 P.bh 8 P.bw in
        rw (← m, ← r.2) (digits_lt (omega arith) (omega arith))

    sound : (n : ℕ) → n < 3 → Sound 32 (64 * blocks P) (clusters_of P) (item_of P v n c)
    unfolding item_of
    sound n hn = record {
      channel = hc;
      some = wide_some v.type (known lay v i);
      right = let r = right lay v i in omega arith;
      blocks = some_blocks v (known lay v i);
      context = context_lt P.contexts n (order_of v.type) v.hf_mul P.lf_there _ _ _ contexts hn (order_lt v.type (known lay v i));
      size = places_many P whole v (known lay v i) c hc;
      places = cell_inside;
    }

  all_sound : (it : Item) → In it (items_of P (varblocks P)) → Sound 32 (64 * blocks P) (clusters_of P) it
  all_sound = each_item P (Sound 32 (64 * blocks P) (clusters_of P)) (varblocks P) (λ v i n c hn hc. sound v i c hc n hn)

-- Entries of the map of block contexts: the lists as far as they are used are no longer than the record says.
entry_inside : (P : PassGroup) (v : Varblock) → order_of v.type < 13 → (n : ℕ) → n < 3 → block_entry_of P v n < 39 * bsize_of P.contexts.lengths
entry_inside P v o n h =
    let a = block_entry_lt (in_use P.contexts) n (order_of v.type) v.hf_mul P.lf_there (block_at P.lf0 P.bw v.x v.y) (block_at P.lf1 P.bw v.x v.y) (block_at P.lf2 P.bw v.x v.y) h o in
    omega (arith, in_use_size_le P.contexts)

-- From items to the group.
module _ (shift clusters : ℕ) (preset_map₀ : List ℕ) where
  parts : (xs ys : List Item) (r : Reading) → ReadInside shift clusters preset_map₀ (xs ++ ys) r
      → ReadInside shift clusters preset_map₀ xs r × ReadInside shift clusters preset_map₀ ys (read_items shift clusters preset_map₀ xs r)
  unfolding read_items
  parts [] ys r h = (tt, h)
  parts (x ∷ xs) ys r h = let k = parts xs ys (read_item shift clusters preset_map₀ x r) h.1 in ((h.0, k.0), k.1)

  by_group : (P : PassGroup) (vs : List Varblock) (r : Reading) → ((v : Varblock) → Among v vs → VarblockInside P v)
      → ReadInside shift clusters preset_map₀ (items_of P vs) r → GroupInside shift clusters preset_map₀ P vs r
  unfolding items_of
  by_group P [] r f h = tt
  by_group P (v ∷ vs) r f h =
      let k = parts (channel_items P v) (items_of P vs) r h in
      (f v (first refl), k.0, by_group P vs (read_items shift clusters preset_map₀ (channel_items P v) r) (λ u j. f u (later j)) k.1)

-- The reading of a call.
zeros_small : (n i : ℕ) → get_or {A = ℕ} (replicate n 0) i 0 < 64
zeros_small zero i = omega arith
zeros_small (suc n) zero = omega arith
zeros_small (suc n) (suc i) = zeros_small n i

some_there : (G : PerChannel) (n : ℕ) → length (get_or G 2 []) ≡ n → 0 < n → 3 ≤ length G
some_there [] n e h = absurd (omega arith)
some_there (a ∷ []) n e h = absurd (omega arith)
some_there (a ∷ b ∷ []) n e h = absurd (omega arith)
some_there (a ∷ b ∷ c ∷ G) n e h = omega arith

module _ (L : Lent) (passed : Passed L) (preset : ℕ) (below : preset < L.presets) where
  abbrev P : PassGroup
  P = L.pass_group

  lay : LaidOut P
  lay = let k = lengths_fit_lem L passed.lengths in (layout_iff P.bw P.bh P.kinds P.hf_mul k.kinds k.hf_mul).0 passed.layout

  preset_inside : 495 * clusters_of P * preset + 495 * clusters_of P ≤ length L.cluster_map
  preset_inside =
      let n = 495 * clusters_of P in
      let a : n * preset + n ≤ n * L.presets = rw (← mul-suc n preset) (mul-le-mul (le_refl n) below) in
      omega (arith, (lengths_fit_lem L passed.lengths).map)

  preset_whole : length (preset_map L preset) ≡ 495 * clusters_of P
  preset_whole =
      let n = 495 * clusters_of P in
      length-take-le n (drop (n * preset) L.cluster_map) (rw (length-drop (n * preset) L.cluster_map) (omega (arith, preset_inside)))

  varblock_inside : (v : Varblock) → Among v (varblocks P) → VarblockInside P v
  varblock_inside v i =
      let k = lengths_fit_lem L passed.lengths in
      let h : v.y * P.bw + v.x < P.bh * P.bw = place_lt P.bw P.bh v.x v.y (has lay v i).in_x (has lay v i).in_y in
      record {
        known = known lay v i;
        rows = right lay v i;
        lf0 = λ there. omega (arith, (k.lf there).0);
        lf1 = λ there. omega (arith, (k.lf there).1);
        lf2 = λ there. omega (arith, (k.lf there).2);
        context = λ n hn. entry_inside P v (order_lt v.type (known lay v i)) n hn;
        orders = λ c h. places_many P k.store v (known lay v i) c h;
      }

  rows_wide : (c : ℕ) → c < 3 → length (get_or zero_rows c []) ≡ 32
  rows_wide zero h = refl
  rows_wide (suc zero) h = refl
  rows_wide (suc (suc zero)) h = refl
  rows_wide (suc (suc (suc c))) h = absurd (omega arith)

  rows_small : (c : ℕ) → c < 3 → Small (get_or zero_rows c [])
  rows_small zero h = zeros_small 32
  rows_small (suc zero) h = zeros_small 32
  rows_small (suc (suc zero)) h = zeros_small 32
  rows_small (suc (suc (suc c))) h = absurd (omega arith)

  -- of a group that has a block: its grids are there, since they are not empty. Without blocks the lengths do not tell that, and nothing is read.
  start : (1 ≤ P.bw) × (1 ≤ P.bh) → Sane 32 (64 * blocks P) (symbols_in (items_of P (varblocks P))) 0 L.log L.grids zero_rows
  start some =
      let k = lengths_fit_lem L passed.lengths in
      let pos : 1 * 1 ≤ P.bh * P.bw = mul-le-mul some.1 some.0 in
      let m = most_symbols P k.store lay in
      let l = k.room in
      record {
        three = some_there L.grids (64 * blocks P) (grids_fit L passed.lengths 2 (omega arith)) (omega arith);
        cells = grids_fit L passed.lengths;
        rows3 = refl;
        wide = rows_wide;
        small = rows_small;
        room = omega arith;
      }

  -- whatever passed the checks before work, with a valid preset, whatever the symbols: nothing is read or written outside a list
  pub never_outside : ReadingInside L preset
  never_outside = (preset_inside, go (empty_or_not P.bw P.bh))
    where
      go : Empty P.bw P.bh ⊎ ((1 ≤ P.bw) × (1 ≤ P.bh)) → GroupInside L.shift (clusters_of P) (preset_map L preset) P (varblocks P) (going L.symbols 0 L.log L.grids zero_rows)
      go (inl e) = rw (no_varblocks P.bw P.bh P.kinds P.hf_mul e) tt
      go (inr some) =
          let k = lengths_fit_lem L passed.lengths in
          by_group L.shift (clusters_of P) (preset_map L preset) P (varblocks P) (going L.symbols 0 L.log L.grids zero_rows)
          varblock_inside
          (read_inside L.shift (clusters_of P) (preset_map L preset) preset_whole 32 (64 * blocks P) (items_of P (varblocks P)) (going L.symbols 0 L.log L.grids zero_rows)
          (all_sound P lay (sides_fit_lem P passed.sides).wide passed.contexts k.store passed.places) (start some))
