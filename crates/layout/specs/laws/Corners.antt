-- The list of a layout's varblocks goes row by row: no two of them have one corner.
use Rattle.std.specs.Prelude.{List, [], ◌∷◌, ◌≡◌}
use Prim.Native.Nat.{◌-◌}
use Rattle.layout.specs.Varblocks.{Varblock}
use Rattle.layout.specs.Listed.{Among}

-- no two of them have the same corner
abbrev pub Apart : List Varblock → Type 0
Apart [] = Unit
Apart (v ∷ vs) = ((u : Varblock) → Among u vs → u.x ≡ v.x → u.y ≡ v.y → ⊥) × Apart vs
