-- One channel of a varblock: its count, then its coefficients (document 01, Coefficients; `hf_coeff.rs`).
use Rattle.std.specs.Prelude.{cond, List, [], ◌∷◌, ℕ, zero, suc, ◌+◌, ◌*◌, ◌-◌, ◌/◌, leb, get_or, set, take, drop}
use Rattle.laws.specs.Lists.{fill_from}
use Rattle.refusal.specs.declared.Refusal.TheVariants.{SymbolsEnd, Count}
use Rattle.coeff_walk.specs.Walk.{Walked, stopped, walk}

-- what no symbol decides: the varblock's corner x, y, how many blocks it is wide and how many it has,
-- the block context, and the cells that are read, in the order of their places
pub record Item : Type 0 where
  pub channel : ℕ
  pub x : ℕ
  pub y : ℕ
  pub wide : ℕ
  pub blocks : ℕ
  pub block_context : ℕ
  pub cells : List ℕ

-- the count that a channel's row predicts at x, y
abbrev pub predicted : List ℕ → ℕ → ℕ → ℕ
predicted row zero zero = 32
predicted row (suc x) zero = get_or row x 0
predicted row zero (suc y) = get_or row 0 0
predicted row (suc x) (suc y) = (get_or row (suc x) 0 + get_or row x 0 + 1) / 2

abbrev pub count_index : ℕ → ℕ
count_index p = cond (leb 8 p) (4 + p / 2) p

-- a count divided by blocks, rounded up
abbrev pub count_over : ℕ → ℕ → ℕ
count_over n blocks = (n + blocks - 1) / blocks

-- the row after the first symbol was read as this item's count
abbrev pub new_row : Item → List ℕ → List ℕ → List ℕ
new_row it row [] = row
new_row it row (n ∷ us) = fill_from row it.x it.wide (count_over n it.blocks)

-- the entry of the preset map for an item's count
abbrev pub count_entry : ℕ → Item → List ℕ → ℕ
count_entry clusters it row = it.block_context + count_index (predicted row it.x it.y) * clusters

-- with a preset's part of the cluster map
module _ (clusters : ℕ) (preset_map : List ℕ) where
  -- the cluster of the count
  abbrev pub count_cluster : Item → List ℕ → ℕ
  count_cluster it row = get_or preset_map (count_entry clusters it row) 0

  -- the 458 entries of the coefficients
  abbrev pub coeff_map_of : Item → List ℕ
  coeff_map_of it = take 458 (drop (it.block_context * 458 + 37 * clusters) preset_map)

module _ (shift clusters : ℕ) (preset_map : List ℕ) where
  -- the channel's row, symbols left, symbols read, log, grid
  unfoldable pub counted : Item → List ℕ → List ℕ → ℕ → List ℕ → List ℕ → Walked
  counted it row [] at log g = stopped SymbolsEnd at log g
  counted it row (n ∷ us) at log g =
      let log₁ = set log at (count_cluster clusters preset_map it row) in
      cond (leb n (63 * it.blocks))
      (walk shift it.blocks (coeff_map_of clusters preset_map it) it.cells 0 (cond (leb n (4 * it.blocks)) 1 0) n us (at + 1) log₁ g)
      (stopped Count (at + 1) log₁ g)
