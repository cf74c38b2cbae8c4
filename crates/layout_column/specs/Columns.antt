-- A column: type and mul, each lent as the bit pattern of a signed 32-bit number (document 01, Layout and filter strength).
-- The type counts as a whole: 0 to 26, anything else is unknown (document 02, No. 5).
use Rattle.std.specs.Prelude.{ℕ, ◌+◌, ◌%◌, ◌^◌, Bool, ◌&&◌, nat_le, nat_lt}
use Rattle.refusal.specs.Answer.{Answer, unless, passed}
use Rattle.dct_select.specs.Transforms.{COUNT, wide, high}

-- mul + 1; the largest mul wraps
abbrev pub hf_mul_of : ℕ → ℕ
hf_mul_of mul = (mul + 1) % 2 ^ 32

-- as a signed number
abbrev pub positive : ℕ → Bool
positive n = nat_le 1 n && nat_lt n (2 ^ 31)

-- a column of type t and hf_mul h at the block (x, y): type, hf_mul, the border of a square of 32 x 32 blocks, across and down
abbrev pub column_checks : ℕ → ℕ → ℕ → ℕ → Answer Unit
column_checks t h x y =
    unless 5 (nat_lt t COUNT)
    (unless 6 (positive h)
    (unless 7 (nat_le (x % 32 + wide t) 32)
    (unless 7 (nat_le (y % 32 + high t) 32) passed)))
