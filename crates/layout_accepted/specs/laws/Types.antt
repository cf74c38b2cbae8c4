-- A column's type counts as a whole 32-bit number (document 02, No. 5): 0 to 26 where a column is placed; the next one is refused with 5
-- exactly if it is there and its type is unknown, whatever its mul.
use Rattle.std.specs.Prelude.{◌≡◌, List, ℕ, ◌<◌, get_or}
use Rattle.refusal.specs.Answer.{gives}
use Rattle.dct_select.specs.Transforms.{COUNT}
use Rattle.layout_call.specs.Call.{Inputs, layout_of}

-- the types of the columns that an accepted call used are 0 to 26
abbrev pub AcceptedKnown : Type 0
AcceptedKnown = (i : Inputs) (kinds hf_mul sigma : List ℕ) (n : ℕ) → (layout_of i kinds hf_mul sigma).answer ≡ gives n → (k : ℕ) → k < n → get_or i.types k 0 < COUNT
