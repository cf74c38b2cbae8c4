-- The check with room for more columns, what one cell of it tells, and when it passes.
use Rattle.std.specs.Prelude.{◌≡◌, List, ℕ, ◌+◌, ◌≤◌, ◌<◌, get_or, replicate}
use Rattle.layout.specs.Kinds.{wide_of, high_of}
use Rattle.layout.specs.RowByRow.{row_by_row}
use Rattle.laws.specs.Lists.{fill_from}
use Rattle.layout.specs.Valid.{Cells, Fits}
use Rattle.layout.specs.Check.{Covering, Until, clear, visit}

-- the check over a list of at least bw columns
abbrev pub check_in : ℕ → ℕ → ℕ → Cells → Cells → Covering
check_in room bw bh K M = row_by_row (visit bw bh K M) bw bh (Until (replicate room 0))

-- how a cell passes: covered already, or a corner on clear columns
pub data Passed (bw bh k m x y : ℕ) (u : List ℕ) : List ℕ → Type 0 where
  covered : y < get_or u x 0 → k ≡ 1 → m ≡ 0 → Passed bw bh k m x y u u
  opened : get_or u x 0 ≤ y → 2 ≤ k → Fits bw bh x y k m → ((i : ℕ) → x ≤ i → i < x + wide_of k → get_or u i 0 ≤ y)
      → Passed bw bh k m x y u (fill_from u x (wide_of k) (y + high_of k))
