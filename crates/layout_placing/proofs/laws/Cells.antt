-- The scan, cell by cell: one law for each way out of a cell, and where the scan starts.
use Rattle.std.specs.Prelude.{◌≡◌, List, ℕ, ◌+◌, ◌*◌, ◌≤◌, ◌<◌, set, Float, Option, Some, None}
use borrow.Author.Tests.{lt-ltb, le-ltb, le-leb, lt-leb}
use Rattle.layout.specs.Grid.{block_at}
use Rattle.layout_filter.specs.declared.DividedMultiplier.{DividedMultiplier}
use Rattle.layout_filter.specs.Strength.{times_look_up, pattern}
use Rattle.layout_placing.specs.Scan.{Scan, Taking, Left, take_cell, scan}
use Rattle.layout.proofs.laws.Loops.{rows_left, loop_start}

module _ (bw bh : ℕ) (divided : Option DividedMultiplier) (lookups : List Float) (sharpness : List ℕ) where
  module _ (cx cy : ℕ) (k s : List ℕ) where
    abbrev pub taken : Scan
    taken = take_cell bw bh divided lookups sharpness cx cy (Taking k s)

    pub cell_wide : bw ≤ cx → Left 9 cx cy ≡ taken
    unfolding take_cell
    cell_wide h = rw (le-leb bw cx h)

    pub cell_high : cx < bw → bh ≤ cy → Left 9 cx cy ≡ taken
    unfolding take_cell
    cell_high h l = rw (lt-leb bw cx h, le-leb bh cy l)

    module _ (in_x : cx < bw) (in_y : cy < bh) where
      pub cell_overlap : 0 < block_at k bw cx cy → Left 8 cx cy ≡ taken
      unfolding take_cell
      cell_overlap h = rw (lt-leb bw cx in_x, lt-leb bh cy in_y, lt-ltb 0 (block_at k bw cx cy) h)

      pub cell_off : block_at k bw cx cy ≤ 0 → divided ≡ None → Taking (set k (cy * bw + cx) 1) s ≡ taken
      unfolding take_cell
      cell_off h e = rw (lt-leb bw cx in_x, lt-leb bh cy in_y, le-ltb 0 (block_at k bw cx cy) h, e)

      pub cell_sharpness : (q : DividedMultiplier) → block_at k bw cx cy ≤ 0 → divided ≡ Some q → 8 ≤ block_at sharpness bw cx cy → Left 10 cx cy ≡ taken
      unfolding take_cell
      cell_sharpness q h e l = rw (lt-leb bw cx in_x, lt-leb bh cy in_y, le-ltb 0 (block_at k bw cx cy) h, e, le-leb 8 (block_at sharpness bw cx cy) l)

      pub cell_on : (q : DividedMultiplier) → block_at k bw cx cy ≤ 0 → divided ≡ Some q → block_at sharpness bw cx cy < 8
          → Taking (set k (cy * bw + cx) 1) (set s (cy * bw + cx) (pattern (times_look_up q.0 lookups (block_at sharpness bw cx cy)))) ≡ taken
      unfolding take_cell
      cell_on q h e l = rw (lt-leb bw cx in_x, lt-leb bh cy in_y, le-ltb 0 (block_at k bw cx cy) h, e, lt-leb 8 (block_at sharpness bw cx cy) l)

  -- a cell of the rectangle
  abbrev pub cell_at : ℕ → ℕ → ℕ → ℕ → Scan → Scan
  cell_at x y dx dy s = take_cell bw bh divided lookups sharpness (x + dx) (y + dy) s

  pub scan_start : (x y w h : ℕ) (s : Scan) → scan bw bh divided lookups sharpness x y w h s ≡ rows_left (cell_at x y) w h 0 s
  unfolding scan
  scan_start x y w h s = loop_start (cell_at x y) w h s
