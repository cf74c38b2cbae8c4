-- The channels of a layout's varblocks: their cells lie in the grids, are distinct, and are all cells but the low-frequency ones.
use Rattle.std.specs.Prelude.{◌≡◌, Bool, ◌⊎◌, length, get_or, drop}
use Rattle.std.proofs.Math.Path.{refl, subst}
use Rattle.std.proofs.Common.{ap, ap₂, sym, ◌∙◌, inl, inr, arith, mod-lt, div-add-mod', div-lt_iff_lt-mul}
use mathlib.Core.List.Memᴰ
use mathlib.Core.List.Memᴰ.{head as here}
use mathlib.Core.List.Memᴰ.{tail as there}
use mathlib.Core.List.{List, [], ◌∷◌, ◌++◌, map}
use Prim.Native.Nat.{ℕ, zero, suc, ◌+◌, ◌*◌, ◌/◌, ◌%◌, ◌-◌, ◌^◌, ◌<◌, ◌≤◌}
use Rattle.std.proofs.Math.Decide.{ℕ_discrete, dec_lt}
use Rattle.std.proofs.Math.Arith.{digits_lt, digits_div, digits_mod}
use Rattle.std.proofs.Math.ListN.{get_or-eq_default}
use Rattle.dct_select.specs.Transforms.{wide, high, order_of, turns, across, down}
use Rattle.order_natural.specs.Places.{Place, paired}
use Rattle.order_natural.proofs.laws.Flat.{paired_flat}
use Rattle.layout.specs.Grid.{block_at}
use Rattle.layout.specs.Valid.{Covers}
use Rattle.layout.specs.Varblocks.{Varblock, varblock}
use Rattle.layout.specs.Listed.{Among, first, later}
use Rattle.layout.specs.laws.Corners.{Apart}
use Rattle.layout.proofs.laws.Corners.{corners_apart}
use Rattle.layout.proofs.laws.Rectangles.{known, type_is, right, bottom, few, covers, at_corner}
use Rattle.layout.proofs.laws.Theorems.{disjoint}
use Rattle.order_store.specs.Store.{stretch}
use Rattle.order_call.specs.Call.{Wrote}
use Rattle.order_call.proofs.laws.Wrote.{list_of, wrote_order, wrote_stretch}
use Rattle.coeff_walk.proofs.laws.PlaceLaws.{length_places}
use Rattle.coeff_walk.specs.Item.{Item}
use Rattle.coeff_group.specs.Group.{PerChannel}
use Rattle.coeff_group.specs.PassGroup.{PassGroup, varblocks, blocks_of, cells_in, item_of, channel_items, items_of}
use Rattle.dct_select.specs.laws.Sides.{order_lt}
use Rattle.one_to_one.specs.Filling.{grid_length, ReadAt, LaidOut, Sized, Low, LowKept}
use Rattle.coeff_group.specs.laws.Cells.{Distinct, Fit, In}
use Rattle.coeff_group.proofs.laws.Cells.{distinct_both, distinct_map}
use Rattle.one_to_one.specs.laws.Spread.{Spread}
use Rattle.one_to_one.proofs.laws.Spread.{spread_of, place_in, in_place, cell_row, cell_x, distinct_places}
use Rattle.coeff_group.specs.Sequence.{in_cell, GridCell, read_cells}
use Rattle.one_to_one.specs.laws.Items.{Ordered}

-- so it is in a store that an accepted order call wrote
pub wrote_ordered : (P : PassGroup) → Wrote P.store → Ordered P
wrote_ordered P w k c h l =
    let l₀ = list_of P.store w k c in
    rw (wrote_stretch P.store w k c h l, paired_flat l₀) (wrote_order P.store w k c h l)

-- the cells of a channel, and of items
in_channel : (c : ℕ) (ps : List ℕ) (x : GridCell) → In x (map (λ (p : ℕ). (c, p)) ps) → (x.0 ≡ c) × In x.1 ps
in_channel c ps x i =
    let r = Memᴰ.of_map {B = GridCell} (λ (p : ℕ). (c, p)) ps i in
    (sym (ap (λ (y : GridCell). y.0) r.2), Memᴰ.cast (sym (ap (λ (y : GridCell). y.1) r.2)) r.1)

in_cells : (its : List Item) (x : GridCell) → In x (read_cells its) → (it : Item) × In it its × (x.0 ≡ it.channel) × In x.1 it.cells
unfolding read_cells
in_cells [] x h = absurd (elim h [ ])
in_cells (it ∷ its) x h = go (Memᴰ.append_cases (map (λ (p : ℕ). (it.channel, p)) it.cells) h) (in_cells its x)
  where
    go : In x (map (λ (p : ℕ). (it.channel, p)) it.cells) ⊎ In x (read_cells its) → (In x (read_cells its) → (t : Item) × In t its × (x.0 ≡ t.channel) × In x.1 t.cells)
        → (t : Item) × In t (it ∷ its) × (x.0 ≡ t.channel) × In x.1 t.cells
    go (inl i) f = let r = in_channel it.channel it.cells x i in (it, here refl, r.0, r.1)
    go (inr i) f = let r = f i in (r.0, there r.1, r.2, r.3)

cells_in_lem : (its : List Item) (it : Item) (p : ℕ) → In it its → In p it.cells → In (it.channel, p) (read_cells its)
unfolding read_cells
cells_in_lem [] it p x'' i = elim x'' [ ]
cells_in_lem (t ∷ its) it p (here e) i = rw e (Memᴰ.append_left (read_cells its) (Memᴰ.map (λ (q : ℕ). (t.channel, q)) (rw e at i)))
cells_in_lem (t ∷ its) it p (there j) i = Memᴰ.append_right (map (λ (q : ℕ). (t.channel, q)) t.cells) (cells_in_lem its it p j i)

module _ (P : PassGroup) where
  -- what holds of each varblock's channels holds of the items
  pub each_item : (Q : Item → Type 0) (vs : List Varblock) → ((v : Varblock) → Among v vs → (n c : ℕ) → n < 3 → c < 3 → Q (item_of P v n c)) → (it : Item) → In it (items_of P vs) → Q it
  unfolding items_of
  each_item Q [] f it h = absurd (elim h [ ])
  each_item Q (v ∷ vs) f it (here e) = subst Q (sym e) (f v (first refl) 0 1 (omega arith) (omega arith))
  each_item Q (v ∷ vs) f it (there (here e)) = subst Q (sym e) (f v (first refl) 1 0 (omega arith) (omega arith))
  each_item Q (v ∷ vs) f it (there (there (here e))) = subst Q (sym e) (f v (first refl) 2 2 (omega arith) (omega arith))
  each_item Q (v ∷ vs) f it (there (there (there i))) = each_item Q vs (λ u j. f u (later j)) it i

  -- the varblock that an item is a channel of
  pub of_varblock : (vs : List Varblock) (it : Item) → In it (items_of P vs) → (v : Varblock) × Among v vs × In it (channel_items P v)
  unfolding items_of
  of_varblock [] it h = absurd (elim h [ ])
  of_varblock (v ∷ vs) it h = go (Memᴰ.append_cases (channel_items P v) h) (of_varblock vs it)
    where
      go : In it (channel_items P v) ⊎ In it (items_of P vs) → (In it (items_of P vs) → (u : Varblock) × Among u vs × In it (channel_items P u)) → (u : Varblock) × Among u (v ∷ vs) × In it (channel_items P u)
      go (inl i) f = (v, first refl, i)
      go (inr i) f = let r = f i in (r.0, later r.1, r.2)

  -- the varblock in which a cell is read
  pub held : (vs : List Varblock) (c p : ℕ) → In (c, p) (read_cells (items_of P vs)) → (v : Varblock) × Among v vs × (c < 3) × In p (cells_in P v c)
  held vs c p h =
      let r = in_cells (items_of P vs) (c, p) h in
      each_item (λ it. c ≡ it.channel → In p it.cells → (v : Varblock) × Among v vs × (c < 3) × In p (cells_in P v c)) vs
      (λ v j n d hn hd. unfold item_of in λ e k. (v, j, omega (arith, e), subst (λ (b : ℕ). In p (cells_in P v b)) (sym e) k)) r.0 r.1 r.2 r.3

  item_in : (vs : List Varblock) (v : Varblock) → Among v vs → (c : ℕ) → c < 3 → (n : ℕ) × In (item_of P v n c) (items_of P vs)
  unfolding items_of
  item_in [] v x'' c h = elim x'' [ ]
  item_in (u ∷ vs) v (first e) zero h = (1, rw (← e) (there (here refl)))
  item_in (u ∷ vs) v (first e) (suc zero) h = (0, rw (← e) (here refl))
  item_in (u ∷ vs) v (first e) (suc (suc zero)) h = (2, rw (← e) (there (there (here refl))))
  item_in (u ∷ vs) v (first e) (suc (suc (suc c))) h = absurd (omega arith)
  item_in (u ∷ vs) v (later j) c h = let r = item_in vs v j c h in (r.0, there (there (there r.1)))

  pub holds : (vs : List Varblock) (v : Varblock) (c p : ℕ) → Among v vs → c < 3 → In p (cells_in P v c) → In (c, p) (read_cells (items_of P vs))
  unfolding item_of
  holds vs v c p i h k = let r = item_in vs v i c h in cells_in_lem (items_of P vs) (item_of P v r.0 c) p r.1 k

module _ (P : PassGroup) (lay : LaidOut P) (ord : Ordered P) where
  abbrev K : ℕ → ℕ → ℕ
  K = block_at P.kinds P.bw

  -- one channel of a varblock
  module _ (v : Varblock) (i : Among v (varblocks P)) (c : ℕ) (hc : c < 3) where
    abbrev turn : Bool
    turn = turns v.type

    abbrev rest : List Place
    rest = drop (blocks_of v) (paired (stretch P.store (order_of v.type) c))

    pub spread : Spread turn (wide v.type) (high v.type) rest
    spread = spread_of v.type (known lay v i) (paired (stretch P.store (order_of v.type) c)) (ord (order_of v.type) c (order_lt v.type (known lay v i)) hc)

    in_row : (q : Place) → In q rest → 8 * v.x + across turn q.0 q.1 < 8 * P.bw
    in_row q j = let a = (spread.inside q j).0 in omega (arith, right lay v i)

    places_size : length (cells_in P v c) ≡ 63 * blocks_of v
    places_size = length_places turn (8 * P.bw) (8 * v.x) (8 * v.y) rest ∙ spread.size

    cells_distinct : Distinct (map {B = GridCell} (λ (p : ℕ). (c, p)) (cells_in P v c))
    cells_distinct = distinct_map (λ (p : ℕ). (c, p)) (cells_in P v c) (λ p q j k e. ap (λ (x : GridCell). x.1) e) (distinct_places turn (8 * P.bw) (8 * v.x) (8 * v.y) rest in_row spread.distinct)

    places_inside : (p : ℕ) → In p (cells_in P v c) → p < grid_length P
    places_inside p j =
        let r = in_place turn (8 * P.bw) (8 * v.x) (8 * v.y) rest p j in
        let d = (spread.inside r.0 r.1).1 in
        rw (← r.2) (digits_lt (omega (arith, bottom lay v i)) (in_row r.0 r.1))

    -- where a cell that is read lies
    place_at : (p : ℕ) → In p (cells_in P v c) → (q : Place) × In q rest × (p % (8 * P.bw) ≡ 8 * v.x + across turn q.0 q.1) × (p / (8 * P.bw) ≡ 8 * v.y + down turn q.0 q.1)
    place_at p j =
        let r = in_place turn (8 * P.bw) (8 * v.x) (8 * v.y) rest p j in
        let h = in_row r.0 r.1 in (
          r.0,
          r.1,
          ap (λ (x : ℕ). x % (8 * P.bw)) (sym r.2) ∙ cell_x turn (8 * P.bw) (8 * v.x) (8 * v.y) r.0 h,
          ap (λ (x : ℕ). x / (8 * P.bw)) (sym r.2) ∙ cell_row turn (8 * P.bw) (8 * v.x) (8 * v.y) r.0 h,
        )

    -- each lies in the varblock's rectangle
    places_covered : (p : ℕ) → In p (cells_in P v c) → Covers K v.x v.y (p % (8 * P.bw) / 8) (p / (8 * P.bw) / 8)
    places_covered p j =
        let r = place_at p j in
        let x = r.2 in let y = r.3 in
        let a = (spread.inside r.0 r.1).0 in let d = (spread.inside r.0 r.1).1 in
        covers lay v i (p % (8 * P.bw) / 8) (p / (8 * P.bw) / 8) (omega arith) (omega arith) (omega arith) (omega arith)

  -- the block of a cell
  in_block : (p : ℕ) → p < grid_length P → (p % (8 * P.bw) / 8 < P.bw) × (p / (8 * P.bw) / 8 < P.bh)
  in_block p h = go (ℕ_discrete P.bw 0)
    where
      go : Dec (P.bw ≡ 0) → (p % (8 * P.bw) / 8 < P.bw) × (p / (8 * P.bw) / 8 < P.bh)
      go (yes e) = let z : p < 8 * P.bh * (8 * 0) = rw e at h in absurd (omega arith)
      go (no n) =
          let pos : 0 < 8 * P.bw = omega arith in
          let x : p % (8 * P.bw) < 8 * P.bw = mod-lt p pos in
          let y : p / (8 * P.bw) < 8 * P.bh = (div-lt_iff_lt-mul {k = 8 * P.bw} {x = p} {y = 8 * P.bh} pos).1 h in
          (omega arith, omega arith)

  -- rectangles with the block of one cell are one
  one_corner : (u v : Varblock) (p : ℕ) → p < grid_length P → Covers K u.x u.y (p % (8 * P.bw) / 8) (p / (8 * P.bw) / 8)
      → Covers K v.x v.y (p % (8 * P.bw) / 8) (p / (8 * P.bw) / 8) → (u.x ≡ v.x) × (u.y ≡ v.y)
  one_corner u v p h a b =
      let k = in_block p h in
      disjoint P.bw P.bh P.kinds P.hf_mul lay u.x u.y v.x v.y (p % (8 * P.bw) / 8) (p / (8 * P.bw) / 8) k.0 k.1 a b

  pub item_size : (it : Item) → In it (items_of P (varblocks P)) → (it.blocks ≤ 1024) × (length it.cells ≡ 63 * it.blocks)
  item_size = each_item P (λ it. (it.blocks ≤ 1024) × (length it.cells ≡ 63 * it.blocks)) (varblocks P) (λ v j n c hn hc. unfold item_of in (few lay v j, places_size v j c hc))

  pub cells_fit : (G : PerChannel) → Sized P G → ((c p : ℕ) → in_cell G c p < 2 ^ 32) → Fit G (read_cells (items_of P (varblocks P)))
  cells_fit G sz small = record {
    channel = λ x j. let r = held P (varblocks P) x.0 x.1 j in omega (arith, sz.three, r.2);
    place = λ x j. let r = held P (varblocks P) x.0 x.1 j in rw (sz.cells x.0 r.2) (places_inside r.0 r.1 x.0 r.2 x.1 r.3);
    small = λ x j. small x.0 x.1;
  }

  distinct_from : (vs : List Varblock) → ((v : Varblock) → Among v vs → Among v (varblocks P)) → Apart vs → Distinct (read_cells (items_of P vs))
  unfolding items_of item_of read_cells
  distinct_from [] f a = tt
  distinct_from (v ∷ vs) f a =
      distinct_both (cells 1) (cells 0 ++ (cells 2 ++ rest_cells)) (own 1 (omega arith))
      (distinct_both (cells 0) (cells 2 ++ rest_cells) (own 0 (omega arith))
      (distinct_both (cells 2) rest_cells (own 2 (omega arith)) (distinct_from vs (λ u j. f u (later j)) a.1) (cross 2 (omega arith)))
      (past 0 2 (λ e. omega arith) rest_cells (cross 0 (omega arith))))
      (past 1 0 (λ e. omega arith) (cells 2 ++ rest_cells) (past 1 2 (λ e. omega arith) rest_cells (cross 1 (omega arith))))
    where
      cells : ℕ → List GridCell
      cells c = map (λ (p : ℕ). (c, p)) (cells_in P v c)

      rest_cells : List GridCell
      rest_cells = read_cells (items_of P vs)

      own : (c : ℕ) → c < 3 → Distinct (cells c)
      own c hc = cells_distinct v (f v (first refl)) c hc

      past : (c d : ℕ) → (c ≡ d → ⊥) → (ys : List GridCell) → ((x : GridCell) → In x (cells c) → In x ys → ⊥) → (x : GridCell) → In x (cells c) → In x (cells d ++ ys) → ⊥
      past c d n ys g x j k =
          elim (Memᴰ.append_cases (cells d) k) [ inl l ↦ n (sym (in_channel c (cells_in P v c) x j).0 ∙ (in_channel d (cells_in P v d) x l).0) | inr l ↦ g x j l ]

      cross : (c : ℕ) → c < 3 → (x : GridCell) → In x (cells c) → In x rest_cells → ⊥
      cross c hc x j k =
          let r = in_channel c (cells_in P v c) x j in
          let s = held P vs x.0 x.1 k in
          let i = f v (first refl) in
          let o = one_corner s.0 v x.1 (places_inside v i c hc x.1 r.1) (places_covered s.0 (f s.0 (later s.1)) x.0 s.2 x.1 s.3) (places_covered v i c hc x.1 r.1) in
          a.0 s.0 s.1 o.0 o.1

  pub cells_apart : Distinct (read_cells (items_of P (varblocks P)))
  cells_apart = distinct_from (varblocks P) (λ v i. i) (corners_apart K (block_at P.hf_mul P.bw) P.bw P.bh)

  -- every cell is low-frequency or read
  pub low_or_held : (c p : ℕ) → c < 3 → p < grid_length P → Low P p ⊎ ReadAt P c p
  low_or_held c p hc h =
      let b = in_block p h in
      let o = lay.valid.owned (p % (8 * P.bw) / 8) (p / (8 * P.bw) / 8) b.0 b.1 in
      let w = o.covers in
      let x = w.from_x in let y = w.from_y in let bx = b.0 in let b_y = b.1 in
      in_it (varblock o.ox o.oy (K o.ox o.oy - 2) (block_at P.hf_mul P.bw o.ox o.oy)) (at_corner lay o.ox o.oy (omega arith) (omega arith) w.corner) w.from_x w.to_x w.from_y w.to_y
    where
      in_it : (v : Varblock) → Among v (varblocks P) → v.x ≤ p % (8 * P.bw) / 8 → p % (8 * P.bw) / 8 < v.x + wide v.type
          → v.y ≤ p / (8 * P.bw) / 8 → p / (8 * P.bw) / 8 < v.y + high v.type → Low P p ⊎ ReadAt P c p
      in_it v i l r u d = cases (dec_lt dx (wide v.type)) (dec_lt dy (high v.type))
        where
          dx : ℕ
          dx = p % (8 * P.bw) - 8 * v.x

          dy : ℕ
          dy = p / (8 * P.bw) - 8 * v.y

          place : (dx < wide v.type → dy < high v.type → ⊥) → ReadAt P c p
          place n =
              let t = turns v.type in
              let s = (spread v i c hc).whole dx dy (omega arith) (omega arith) n in
              let sx = s.2 in let sy = s.3 in
              let ex : 8 * v.x + across t s.0.0 s.0.1 ≡ p % (8 * P.bw) = omega arith in
              let ey : 8 * v.y + down t s.0.0 s.0.1 ≡ p / (8 * P.bw) = omega arith in
              holds P (varblocks P) v c p i hc
              (Memᴰ.cast (sym (ap₂ (λ (a b : ℕ). a * (8 * P.bw) + b) ey ex ∙ div-add-mod' p (8 * P.bw))) (place_in t (8 * P.bw) (8 * v.x) (8 * v.y) (rest v i c hc) s.0 s.1))

          cases : Dec (dx < wide v.type) → Dec (dy < high v.type) → Low P p ⊎ ReadAt P c p
          cases (yes a) (yes b) =
              inl (record { x = p % (8 * P.bw); y = p / (8 * P.bw); in_x = omega (arith, (in_block p h).0); place = sym (div-add-mod' p (8 * P.bw)); of = v; there = i; from_x = omega arith; to_x = omega arith; from_y = omega arith; to_y = omega arith })
          cases (yes a) (no b) = inr (place (λ x y. b y))
          cases (no a) b = inr (place (λ x y. a x))

  -- and never both
  pub low_not_held : (c p : ℕ) → Low P p → ReadAt P c p → ⊥
  low_not_held c p l h =
      let s = held P (varblocks P) c p h in
      let v = s.0 in let i = s.1 in let u = l.of in
      let r = place_at v i c s.2 p s.3 in
      let a = l.from_x in let b = l.to_x in let d = l.from_y in let e = l.to_y in
      let lx : p % (8 * P.bw) ≡ l.x = ap (λ (n : ℕ). n % (8 * P.bw)) l.place ∙ digits_mod l.y l.in_x in
      let ly : p / (8 * P.bw) ≡ l.y = ap (λ (n : ℕ). n / (8 * P.bw)) l.place ∙ digits_div l.y l.in_x in
      let o = one_corner u v p (places_inside v i c s.2 p s.3)
      (covers lay u l.there (p % (8 * P.bw) / 8) (p / (8 * P.bw) / 8) (omega arith) (omega arith) (omega arith) (omega arith)) (places_covered v i c s.2 p s.3) in
      let t : u.type ≡ v.type = type_is lay u l.there ∙ ap₂ (λ (x y : ℕ). K x y - 2) o.0 o.1 ∙ sym (type_is lay v i) in
      let x = o.0 in let y = o.1 in let px = r.2 in let py = r.3 in
      let w : wide u.type ≡ wide v.type = ap wide t in let g : high u.type ≡ high v.type = ap high t in
      (spread v i c s.2).upper r.0 r.1 (omega arith) (omega arith)

  -- so, of grids that agree in the low-frequency cells, each cell is read or the same in both
  pub place_or_same : (G W : PerChannel) → Sized P G → Sized P W → LowKept P G W → (c p : ℕ) → ReadAt P c p ⊎ ((ReadAt P c p → ⊥) × (in_cell W c p ≡ in_cell G c p))
  place_or_same G W sg sw kept c p = channel (dec_lt c 3)
    where
      at_cell : c < 3 → Dec (p < grid_length P) → ReadAt P c p ⊎ ((ReadAt P c p → ⊥) × (in_cell W c p ≡ in_cell G c p))
      at_cell hc (yes h) = elim (low_or_held c p hc h) [ inl l ↦ inr (low_not_held c p l, kept c p hc l) | inr i ↦ inl i ]
      at_cell hc (no m) =
          let a = sw.cells c hc in let b = sg.cells c hc in
          inr (
            (λ i. let r = held P (varblocks P) c p i in m (places_inside r.0 r.1 c r.2 p r.3)),
            get_or-eq_default (get_or W c []) 0 (omega arith) ∙ sym (get_or-eq_default (get_or G c []) 0 (omega arith)),
          )

      channel : Dec (c < 3) → ReadAt P c p ⊎ ((ReadAt P c p → ⊥) × (in_cell W c p ≡ in_cell G c p))
      channel (yes hc) = at_cell hc (dec_lt p (grid_length P))
      channel (no m) =
          let a = sw.three in let b = sg.three in
          inr ((λ i. m (held P (varblocks P) c p i).2), rw (get_or-eq_default W [] {n = c} (omega arith), get_or-eq_default G [] {n = c} (omega arith)))
