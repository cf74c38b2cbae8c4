-- Cells of the grids, each with its channel, and symbols added to them one after the other.
use Rattle.std.specs.Prelude.{◌≡◌, ℕ, ◌^◌, ◌<◌, length, get_or, set}
use mathlib.Core.List.{List, [], ◌∷◌, Memᴰ}
use Rattle.coded_numbers.specs.Signed.{symbol}
use Rattle.coeff_walk.specs.Walk.{gain}
use Rattle.coeff_group.specs.Group.{PerChannel}
use Rattle.coeff_group.specs.Sequence.{GridCell, in_cell}

-- One of a list, and lists without repetition.
abbrev pub In : {A : Type 0} → A → List A → Type 0
In x xs = Memᴰ x xs

abbrev pub Distinct : {A : Type 0} → List A → Type 0
Distinct [] = Unit
Distinct (x ∷ xs) = (In x xs → ⊥) × Distinct xs

-- Grids by their cells.
pub record Shape (G H : PerChannel) : Type 0 where
  pub count : length G ≡ length H
  pub sizes : (c : ℕ) → length (get_or G c []) ≡ length (get_or H c [])

-- a symbol added to a cell
abbrev pub add : ℕ → PerChannel → GridCell → ℕ → PerChannel
add s G x d = set G x.0 (gain s (get_or G x.0 []) x.1 d)

abbrev pub adds : ℕ → PerChannel → List GridCell → List ℕ → PerChannel
adds s G cs [] = G
adds s G [] (d ∷ ds) = G
adds s G (x ∷ cs) (d ∷ ds) = adds s (add s G x d) cs ds

-- cells of the grids, with 32-bit numbers in them
pub record Fit (G : PerChannel) (cs : List GridCell) : Type 0 where
  pub channel : (x : GridCell) → In x cs → x.0 < length G
  pub place : (x : GridCell) → In x cs → x.1 < length (get_or G x.0 [])
  pub small : (x : GridCell) → In x cs → in_cell G x.0 x.1 < 2 ^ 32

-- the symbols that make W of G
abbrev pub change : PerChannel → PerChannel → GridCell → ℕ
change G W x = symbol (in_cell W x.0 x.1) (in_cell G x.0 x.1)
