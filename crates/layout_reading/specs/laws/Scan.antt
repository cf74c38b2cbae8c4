-- A scan by what the code answers and leaves.
use Rattle.std.specs.Prelude.{List, ℕ, Result, Ok, Err}
use Rattle.refusal.specs.declared.Refusal.{Refusal}
use Rattle.refusal.specs.declared.Refusal.TheVariants as why
use Rattle.layout_reading.specs.declared.scan.CellFault.{CellFault}
use Rattle.layout_reading.specs.declared.scan.CellFault.TheVariants.{Outside, Overlap, Sharpness}
use Rattle.layout_placing.specs.Scan.{Left, Scan, Taking}

-- a scan from what the code answers and what it left in kinds and sigma
abbrev pub scanned : Result Unit CellFault → List ℕ → List ℕ → Scan
scanned (Ok u) kinds sigma = Taking kinds sigma
scanned (Err (Outside cx cy)) kinds sigma = Left 9 cx cy
scanned (Err (Overlap cx cy)) kinds sigma = Left 8 cx cy
scanned (Err (Sharpness cx cy)) kinds sigma = Left 10 cx cy

-- the refusal of the column at the free block (x, y)
abbrev pub refusal_at : CellFault → ℕ → ℕ → Refusal
refusal_at (Outside cx cy) x y = why.Outside x y
refusal_at (Overlap cx cy) x y = why.Overlap x y
refusal_at (Sharpness cx cy) x y = why.Sharpness x y
