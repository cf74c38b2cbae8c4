-- A scan ends with a cell that refuses.
use Rattle.std.specs.Prelude.{◌≡◌, refl, true, List, ℕ, Float, Option, Result, Ok, Err, is_err}
use Rattle.std.proofs.Common.{arith}
use Rattle.layout_filter.specs.declared.DividedMultiplier.{DividedMultiplier}
use Rattle.layout_placing.specs.Scan.{take_cell}
use Rattle.layout_placing.proofs.laws.Cells.{cell_at}
use Rattle.layout_reading.specs.declared.scan.CellFault.{CellFault}
use Rattle.layout_reading.specs.declared.scan.CellFault.TheVariants.{Outside, Overlap, Sharpness}
use Rattle.layout_reading.specs.laws.Scan.{scanned}

module _ (bw bh : ℕ) (divided : Option DividedMultiplier) (lookups : List Float) (sharpness : List ℕ) where
  pub refused_stays : (f : CellFault) (k s : List ℕ) (x y dx dy : ℕ) → cell_at bw bh divided lookups sharpness x y dx dy (scanned (Err f) k s) ≡ scanned (Err f) k s
  unfolding take_cell
  refused_stays (Outside a b) k s x y dx dy = refl
  refused_stays (Overlap a b) k s x y dx dy = refl
  refused_stays (Sharpness a b) k s x y dx dy = refl

  pub refusal_stays : (r : Result Unit CellFault) (k s : List ℕ) (x y : ℕ) → is_err r ≡ true → (dx dy : ℕ) → cell_at bw bh divided lookups sharpness x y dx dy (scanned r k s) ≡ scanned r k s
  refusal_stays (Ok u) k s x y e dx dy = absurd (let z : ◌≡◌ {A = ℕ} 0 1 = cc in omega arith)
  refusal_stays (Err f) k s x y e dx dy = refused_stays f k s x y dx dy
