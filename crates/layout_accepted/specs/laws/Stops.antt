-- A column that is refused at a block: with 4 to 10 there, the columns placed told, and with 5 only if its type is unknown.
use Rattle.std.specs.Prelude.{◌≤◌}
use Rattle.layout_placing.specs.Scan.{Scan, Taking, Left}

-- a scan is left with 8, 9 or 10
unfoldable pub LeftWell : Scan → Type 0
LeftWell (Taking k s) = Unit
LeftWell (Left n a b) = (8 ≤ n) × (n ≤ 10)
