-- A reading stays inside its lists, item by item: what that asks of items and of the reading before them, and what they leave.
use Rattle.std.specs.Prelude.{◌≡◌, Bool, true, false, cond, leb, length, get_or, set, drop}
use Rattle.std.proofs.Math.Path.{refl}
use Rattle.std.proofs.Common.{◌∙◌, arith, le_refl, mul-le-mul, length-set, length-drop, length-take-le, leb-true, leb-false}
use mathlib.Core.List.Memᴰ.{head as here}
use mathlib.Core.List.Memᴰ.{tail as there}
use mathlib.Core.List.{List, [], ◌∷◌}
use Prim.Native.Nat.{ℕ, zero, suc, ◌+◌, ◌*◌, ◌/◌, ◌<◌, ◌≤◌}
use Rattle.std.proofs.lemmas.List.Edits.{sets}
use Rattle.std.proofs.Math.Seq.{length-sets}
use Rattle.refusal.specs.declared.Refusal.TheVariants.{Count}
use Rattle.coeff_context.specs.Context.{FREQ, NUM_NONZERO, coeff_context}
use Rattle.coeff_context.proofs.laws.Contexts.{below_63}
use Rattle.coeff_walk.specs.Walk.{Walked, stopped, walk, flag, less, gain}
use Rattle.coeff_walk.proofs.laws.Kept.{length_gain}
use Rattle.coeff_walk.proofs.laws.Counts.{count_over_lem}
use Rattle.laws.specs.Lists.{fill_from}
use Rattle.coeff_walk.specs.Item.{Item, predicted, count_index, count_over, new_row, count_cluster, coeff_map_of, counted, count_entry}
use Rattle.coeff_group.specs.Group.{PerChannel, Reading, going, refused, after, read_item}
use Rattle.coeff_walk.specs.laws.Walks.{End, ends, stops, walked_by, gains}
use Rattle.coeff_walk.proofs.laws.Walks.{length_gains, run}
use Rattle.coeff_group.specs.laws.Cells.{In}
use Rattle.coeff_group.proofs.laws.Cells.{set_below, put_all}
use Rattle.coeff_group.specs.laws.Symbols.{symbols_in}
use Rattle.one_to_one.specs.Inside.{WalkInside, CountInside, ItemInside, ReadInside}
use Rattle.one_to_one.specs.laws.InsideLaws.{Small, Sound, Sane, Fine}

-- Coefficients of one channel.
less_most : (u n m : ℕ) → suc n ≤ m → less u n ≤ m
less_most zero n m h = h
less_most (suc u) n m h = omega arith

module _ (shift blocks : ℕ) (coeff_map : List ℕ) (long : length coeff_map ≡ 458) where
  tables : (n i : ℕ) → n < 63 * blocks → i < 63 * blocks → (n / blocks < length NUM_NONZERO) × (i / blocks < length FREQ)
  unfolding NUM_NONZERO FREQ
  tables n i a b = (below_63 blocks n a, below_63 blocks i b)

  walk_inside : (ps : List ℕ) (i prev n : ℕ) (us : List ℕ) (at : ℕ) (log g : List ℕ)
      → i + length ps ≤ 63 * blocks → n ≤ 63 * blocks → at + length ps ≤ length log → ((p : ℕ) → In p ps → p < length g)
      → WalkInside shift blocks coeff_map ps i prev n us at log g
  walk_inside [] i prev n us at log g a b c d = tt
  walk_inside (p ∷ ps) i prev zero us at log g a b c d = tt
  walk_inside (p ∷ ps) i prev (suc n) [] at log g a b c d = tables n i (omega arith) (omega arith)
  walk_inside (p ∷ ps) i prev (suc n) (u ∷ us) at log g a b c d = (
    tables n i (omega arith) (omega arith),
    λ h. (
      omega arith,
      omega arith,
      omega (arith, d p (here refl)),
      walk_inside ps (i + 1) (flag u) (less u n) us (at + 1) (set log at (get_or coeff_map (coeff_context blocks n i prev) 0)) (gain shift g p u) (omega arith)
          (less_most u n (63 * blocks) b) (rw (length-set log at (get_or coeff_map (coeff_context blocks n i prev) 0)) (omega arith))
          (λ (q : ℕ). λ (j : In q ps). rw (length_gain shift g p u) (d q (there j))),
    ),
  )

predicted_small : (row : List ℕ) (x y : ℕ) → Small row → predicted row x y ≤ 63
predicted_small row zero zero s = omega arith
predicted_small row (suc x) zero s = omega (arith, s x)
predicted_small row zero (suc y) s = omega (arith, s 0)
predicted_small row (suc x) (suc y) s = omega (arith, s (suc x), s x)

index_most : (p : ℕ) → p ≤ 63 → count_index p ≤ 35
index_most p h = go (leb 8 p) refl
  where
    go : (b : Bool) → leb 8 p ≡ b → cond b (4 + p / 2) p ≤ 35
    go true e = omega arith
    go false e = omega (arith, leb-false 8 p e)

row_small : (row : List ℕ) (x n v : ℕ) → v ≤ 63 → Small row → Small (fill_from row x n v)
unfolding fill_from
row_small row x zero v h s = s
row_small row x (suc n) v h s = row_small (set row x v) (x + 1) n v h (λ i. set_below row x v i 64 (omega arith) (s i))

row_long : (row : List ℕ) (x n v : ℕ) → length (fill_from row x n v) ≡ length row
unfolding fill_from
row_long row x zero v = refl
row_long row x (suc n) v = row_long (set row x v) (x + 1) n v ∙ length-set row x v

module _ (shift clusters : ℕ) (preset_map : List ℕ) (whole : length preset_map ≡ 495 * clusters) (width cells : ℕ) where
  module _ (it : Item) (s : Sound width cells clusters it) where
    part_inside : it.block_context * 458 + 37 * clusters + 458 ≤ length preset_map
    part_inside = let h = s.context in omega arith

    part_long : length (coeff_map_of clusters preset_map it) ≡ 458
    part_long =
        let b = it.block_context * 458 + 37 * clusters in
        length-take-le 458 (drop b preset_map) (rw (length-drop b preset_map) (omega (arith, part_inside)))

    -- counts over blocks are at most 63, so that the count's entry lies even below 36 × clusters
    entry_most : (row : List ℕ) → Small row → count_entry clusters it row < 36 * clusters
    entry_most row m =
        let k = count_index (predicted row it.x it.y) in
        let a : k * clusters ≤ 35 * clusters = mul-le-mul (index_most (predicted row it.x it.y) (predicted_small row it.x it.y m)) (le_refl clusters) in
        let h = s.context in
        omega arith

    count_inside : (row us : List ℕ) (at : ℕ) (log g : List ℕ) → Small row → length g ≡ cells → at + suc (length it.cells) ≤ length log → CountInside shift clusters preset_map it row us at log g
    count_inside row [] at log g m e r = tt
    count_inside row (n ∷ us) at log g m e r = (
      omega (arith, entry_most row m),
      omega (arith, entry_most row m),
      omega (arith, part_inside),
      omega arith,
      λ h. walk_inside shift it.blocks (coeff_map_of clusters preset_map it) part_long it.cells 0 (cond (leb n (4 * it.blocks)) 1 0) n us (at + 1)
          (set log at (count_cluster clusters preset_map it row)) g (omega (arith, s.size)) h
          (rw (length-set log at (count_cluster clusters preset_map it row)) (omega arith)) (λ (p : ℕ). λ (i : In p it.cells). rw e (s.places p i)),
    )

    item_inside : (rest : ℕ) (r : Reading) → Fine width cells (suc (length it.cells) + rest) r → ItemInside shift clusters preset_map it r
    item_inside rest (refused why at log grids) f = tt
    item_inside rest (going us at log grids rows) f =
        let c = it.channel in
        let h = s.channel in
        let w = f.wide c h in let k = s.right in let j = s.some in let x = f.three in let y = f.rows3 in let m = f.room in (
          omega arith,
          omega arith,
          omega arith,
          omega arith,
          count_inside (get_or rows c []) us at log (get_or grids c []) (f.small c h) (f.cells c h) (omega arith),
        )

    -- what the item leaves, however its walk ended, with its row rewritten
    after_fine : (rest at : ℕ) (grids rows : PerChannel) (row log : List ℕ) (e : End) (at' : ℕ) (log' g : List ℕ) → Sane width cells (suc (length it.cells) + rest) at log grids rows
        → at' ≤ at + suc (length it.cells) → length log' ≡ length log → length g ≡ cells → length row ≡ width → Small row
        → Fine width cells rest (after it.channel grids (set rows it.channel row) (walked_by e at' log' g))
    after_fine rest at grids rows row log (stops why) at' log' g f a b c e m = tt
    after_fine rest at grids rows row log (ends us) at' log' g f a b c e m =
        let d = it.channel in
        let h = s.channel in
        let x = f.three in let y = f.rows3 in let k = f.room in
        record {
          three = rw (length-set grids d g) f.three;
          cells = put_all (λ l. length l ≡ cells) grids d g (omega arith) c f.cells;
          rows3 = length-set rows d row ∙ f.rows3;
          wide = put_all (λ l. length l ≡ width) rows d row (omega arith) e f.wide;
          small = put_all Small rows d row (omega arith) m f.small;
          room = omega arith;
        }

    item_fine : (rest : ℕ) (r : Reading) → Fine width cells (suc (length it.cells) + rest) r → Fine width cells rest (read_item shift clusters preset_map it r)
    unfolding read_item counted
    item_fine rest (refused why at log grids) f = tt
    item_fine rest (going [] at log grids rows) f = tt
    item_fine rest (going (n ∷ us) at log grids rows) f = test (leb n (63 * it.blocks)) refl
      where
        c : ℕ
        c = it.channel

        row : List ℕ
        row = get_or rows c []

        g : List ℕ
        g = get_or grids c []

        log₁ : List ℕ
        log₁ = set log at (count_cluster clusters preset_map it row)

        flag₀ : ℕ
        flag₀ = cond (leb n (4 * it.blocks)) 1 0

        w : Walked
        w = walk shift it.blocks (coeff_map_of clusters preset_map it) it.cells 0 flag₀ n us (at + 1) log₁ g

        test : (b : Bool) → leb n (63 * it.blocks) ≡ b → Fine width cells rest (after c grids (set rows c (new_row it row (n ∷ us))) (cond b w (stopped Count (at + 1) log₁ g)))
        test false e = tt
        test true e =
            let v = count_over n it.blocks in
            let r = run it.blocks (coeff_map_of clusters preset_map it) it.cells 0 flag₀ n us in
            let k = r.few in
            rw (r.is shift (at + 1) log₁ g)
            (after_fine rest at grids rows (fill_from row it.x it.wide v) log r.end (at + 1 + length r.clusters) (sets log₁ (at + 1) r.clusters) (gains shift g it.cells r.ds) f (omega arith)
            (length-sets log₁ (at + 1) r.clusters ∙ length-set log at (count_cluster clusters preset_map it row)) (length_gains shift g it.cells r.ds ∙ f.cells c s.channel)
            (row_long row it.x it.wide v ∙ f.wide c s.channel)
            (row_small row it.x it.wide v (count_over_lem n it.blocks s.blocks (leb-true n (63 * it.blocks) e)) (f.small c s.channel)))

  pub read_inside : (its : List Item) (r : Reading) → ((it : Item) → In it its → Sound width cells clusters it) → Fine width cells (symbols_in its) r → ReadInside shift clusters preset_map its r
  read_inside [] r a f = tt
  read_inside (it ∷ its) r a f =
      (item_inside it (a it (here refl)) (symbols_in its) r f, read_inside its (read_item shift clusters preset_map it r) (λ t i. a t (there i)) (item_fine it (a it (here refl)) (symbols_in its) r f))
