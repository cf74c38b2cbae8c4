-- The planes of a group (document 02, No. 4; `hf_coeff.rs`): along one side, what a shift of 0 or 1 makes of blocks.
use Rattle.std.specs.Prelude.{Bool, true, ℕ, zero, suc, ◌+◌, ◌/◌, ◌%◌, eqb}

-- a plane's side, of a group's side n: halved and rounded up where shifted
abbrev pub halved : ℕ → ℕ → ℕ
halved zero n = n
halved (suc s) n = (n + 1) / 2

-- the plane's block in which the group's block x lies
abbrev pub half : ℕ → ℕ → ℕ
half zero x = x
half (suc s) x = x / 2

-- block x is the first of those in its block of the plane
abbrev pub is_first : ℕ → ℕ → Bool
is_first zero x = true
is_first (suc s) x = eqb (x % 2) 0
