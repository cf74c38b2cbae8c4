-- A store of natural orders (document 01, Orders).
use Rattle.std.specs.Prelude.{List, [], ◌∷◌}
use Rattle.order_natural.specs.Places.{Place}
use Rattle.order_natural.specs.Natural.{natural}

-- each size's natural order for channels 0, 1, 2
abbrev pub naturals : List Place → List (List Place)
naturals [] = []
naturals (s ∷ ss) = let n = natural s.0 s.1 in n ∷ n ∷ n ∷ naturals ss
