-- What a reading reads and writes by index lies inside its lists (document 01, Coefficients). The definitions of the reading take 0 for a
-- number outside a list and drop one that is put outside; the Rust would end there. Said here along those definitions, clause by clause:
-- `walk`, `counted`, `read_item`, `read_items`, `read_group`. NeverOutside has the theorem.
use Rattle.std.specs.Prelude.{◌≡◌, true, cond, List, [], ◌∷◌, ℕ, zero, suc, ◌+◌, ◌*◌, ◌/◌, ◌<◌, ◌≤◌, leb, length, get_or, set}
use Rattle.dct_select.specs.Transforms.{COUNT, wide}
use Rattle.layout.specs.Varblocks.{Varblock}
use Rattle.context_record.specs.Record.{bsize_of}
use Rattle.coeff_context.specs.Context.{FREQ, NUM_NONZERO, coeff_context}
use Rattle.coeff_walk.specs.Walk.{flag, less, gain}
use Rattle.coeff_walk.specs.Item.{Item, count_entry, count_cluster, coeff_map_of}
use Rattle.coeff_group.specs.Group.{Reading, going, refused, read_item, read_varblock, zero_rows}
use Rattle.coeff_group.specs.PassGroup.{PassGroup, varblocks, blocks_of, block_entry_of, cells_in, channel_items}
use Rattle.coeff_group.specs.Work.{clusters_of}
use Rattle.coeff_call.specs.Call.{Lent, preset_map}

module _ (shift blocks : ℕ) (coeff_map : List ℕ) where
  -- the entries of the two tables of 63 for place i, with n + 1 still due
  abbrev pub TablesInside : ℕ → ℕ → Type 0
  TablesInside n i = (n / blocks < length NUM_NONZERO) × (i / blocks < length FREQ)

  -- along `walk`: of each coefficient the tables' entries and, where the walk goes on, the cluster's entry, the byte of the log and the cell
  abbrev pub WalkInside : List ℕ → ℕ → ℕ → ℕ → List ℕ → ℕ → List ℕ → List ℕ → Type 0
  WalkInside [] i prev n us at log g = Unit
  WalkInside (p ∷ ps) i prev zero us at log g = Unit
  WalkInside (p ∷ ps) i prev (suc n) [] at log g = TablesInside n i
  WalkInside (p ∷ ps) i prev (suc n) (u ∷ us) at log g =
      TablesInside n i
      × (coeff_context blocks n i prev < 458
      → (coeff_context blocks n i prev < length coeff_map)
      × (at < length log)
      × (p < length g)
      × WalkInside ps (i + 1) (flag u) (less u n) us (at + 1) (set log at (get_or coeff_map (coeff_context blocks n i prev) 0)) (gain shift g p u))

-- what the channels of a varblock are made from
pub record VarblockInside (P : PassGroup) (v : Varblock) : Type 0 where
  -- a row of the transforms' table
  pub known : v.type < COUNT
  -- of a row of counts, only as many numbers as the group is wide
  pub rows : v.x + wide v.type ≤ P.bw
  -- the corner's LF numbers, if there are LF grids
  pub lf0 : P.lf_there ≡ true → v.y * P.bw + v.x < length P.lf0
  pub lf1 : P.lf_there ≡ true → v.y * P.bw + v.x < length P.lf1
  pub lf2 : P.lf_there ≡ true → v.y * P.bw + v.x < length P.lf2
  -- each block context's entry, among the 39 × bsize of the map that are in use
  pub context : (n : ℕ) → n < 3 → block_entry_of P v n < 39 * bsize_of P.contexts.lengths
  -- each channel's list is stored whole: 63 places for each block behind the low-frequency cells
  pub orders : (c : ℕ) → c < 3 → length (cells_in P v c) ≡ 63 * blocks_of v

module _ (shift clusters : ℕ) (preset_map : List ℕ) where
  -- along `counted`: the count's entry lies among the first 37 × clusters, the 458 of the coefficients lie whole in the preset map
  abbrev pub CountInside : Item → List ℕ → List ℕ → ℕ → List ℕ → List ℕ → Type 0
  CountInside it row [] at log g = Unit
  CountInside it row (n ∷ us) at log g =
      (count_entry clusters it row < 37 * clusters)
      × (count_entry clusters it row < length preset_map)
      × (it.block_context * 458 + 37 * clusters + 458 ≤ length preset_map)
      × (at < length log)
      × (n ≤ 63 * it.blocks
      → WalkInside shift it.blocks (coeff_map_of clusters preset_map it) it.cells 0 (cond (leb n (4 * it.blocks)) 1 0) n us (at + 1)
      (set log at (count_cluster clusters preset_map it row)) g)

  -- along `read_item`: the channel's grid and row are there, and the row has the blocks that are looked at and rewritten
  abbrev pub ItemInside : Item → Reading → Type 0
  ItemInside it (refused why at log grids) = Unit
  ItemInside it (going us at log grids rows) =
      (it.channel < length grids)
      × (it.channel < length rows)
      × (it.x < length (get_or rows it.channel []))
      × (it.x + it.wide ≤ length (get_or rows it.channel []))
      × CountInside it (get_or rows it.channel []) us at log (get_or grids it.channel [])

  -- along `read_items`
  abbrev pub ReadInside : List Item → Reading → Type 0
  ReadInside [] r = Unit
  ReadInside (it ∷ its) r = ItemInside it r × ReadInside its (read_item shift clusters preset_map it r)

  -- along `read_group`
  abbrev pub GroupInside : PassGroup → List Varblock → Reading → Type 0
  GroupInside P [] r = Unit
  GroupInside P (v ∷ vs) r = VarblockInside P v × ReadInside (channel_items P v) r × GroupInside P vs (read_varblock shift clusters preset_map P v r)

-- along `reading`: the preset map lies whole in the cluster map, and the group is read with it
abbrev pub ReadingInside : Lent → ℕ → Type 0
ReadingInside L preset =
    (495 * clusters_of L.pass_group * preset + 495 * clusters_of L.pass_group ≤ length L.cluster_map)
    × GroupInside L.shift (clusters_of L.pass_group) (preset_map L preset) L.pass_group (varblocks L.pass_group) (going L.symbols 0 L.log L.grids zero_rows)
