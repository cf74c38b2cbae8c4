-- The columns of an accepted layout call (document 01, Layout and filter strength): a free block takes the next column, surplus columns
-- decide nothing.
use Rattle.std.specs.Prelude.{◌≡◌, length, take}
use mathlib.Core.List.{List, map}
use Prim.Native.Nat.{ℕ}
use Rattle.layout.specs.Varblocks.{Varblock}
use Rattle.layout_column.specs.Columns.{hf_mul_of}
use Rattle.refusal.specs.Answer.{gives}
use Rattle.layout_call.specs.Call.{Inputs, layout_of}
use Rattle.layout_accepted.specs.Outcome.{varblocks_left, with_columns}

module _ (i : Inputs) (kinds hf_mul sigma : List ℕ) where
  module _ (n : ℕ) (e : (layout_of i kinds hf_mul sigma).answer ≡ gives n) where
    -- their hf_mul are the first n columns' mul + 1, in turn
    abbrev pub AcceptedMuls : Type 0
    AcceptedMuls = map (λ (v : Varblock). v.hf_mul) (varblocks_left i kinds hf_mul sigma) ≡ map hf_mul_of (take n i.muls)

    -- columns behind the first n do not matter: any others, or none, give the same
    abbrev pub AcceptedSurplus : Type 0
    AcceptedSurplus =
        (types muls : List ℕ) → length muls ≡ length types → take n types ≡ take n i.types → take n muls ≡ take n i.muls
        → layout_of (with_columns i types muls) kinds hf_mul sigma ≡ layout_of i kinds hf_mul sigma
