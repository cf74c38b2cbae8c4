-- A group's reading as a list of channels, and what is known of a reading that was refused.
use Rattle.std.specs.Prelude.{ℕ}
use Rattle.coeff_group.specs.Group.{Reading, going, refused}

-- symbols read
abbrev pub read_of : Reading → ℕ
read_of (going us at log grids rows) = at
read_of (refused why at log grids) = at
