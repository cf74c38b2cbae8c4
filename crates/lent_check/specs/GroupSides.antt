-- The sides of a pass group (document 01, Layout, "Added by us").
use Rattle.std.specs.Prelude.{ℕ}
use Rattle.lent_check.specs.declared.GroupSides.{GroupSides}

abbrev pub group_sides : (bw bh : ℕ) → GroupSides
group_sides bw bh = record { bw = bw; bh = bh }
