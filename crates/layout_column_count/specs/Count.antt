-- The column count (document 01, Layout and filter strength; Refused).
use Rattle.std.specs.Prelude.{List, ℕ, ◌+◌, ◌*◌, Result, Ok, Err}
use Rattle.refusal.specs.declared.Refusal.{Refusal}
use Rattle.refusal.specs.Said.{said, said_at}
use Rattle.refusal.specs.Answer.{Answer, gives, refuses, unless}
use Rattle.bits.specs.Bits.{Read, Value, Ended, read_bits}
use Rattle.coded_numbers.specs.Exponent.{exponent}
use Rattle.layout_sizes.specs.Blocks.{size_fits, modes_fit, bw_in, bh_in}

-- a count and the bits read
pub record Counted : Type 0 where
  pub columns : ℕ
  pub bits : ℕ

abbrev pub counts : ℕ → ℕ → Counted
counts columns bits = record { columns = columns; bits = bits }

-- the paper's number and values of each answer
abbrev pub counted : Result (ℕ × ℕ) Refusal → Answer Counted
counted (Ok (n, bits)) = gives (counts n bits)
counted (Err r) = refuses (said r)

-- 1 plus the number that was read
abbrev pub plus_one : Read ℕ → Answer Counted
plus_one (Value v bits) = gives (counts (1 + v) bits)
plus_one (Ended bits) = refuses (said_at 3 bits 0)

-- as many bits as the exponent of the least power of two not below bw x bh
abbrev pub field_bits : ℕ → ℕ → List ℕ → ℕ
field_bits width height modes = exponent (bh_in height modes * bw_in width modes)

unfoldable pub count_of : ℕ → ℕ → List ℕ → List ℕ → Answer Counted
count_of width height modes bytes =
    unless 2 (size_fits width height)
    (unless 11 (modes_fit modes) (plus_one (read_bits bytes 0 (field_bits width height modes))))
