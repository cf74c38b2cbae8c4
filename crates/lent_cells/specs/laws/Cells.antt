-- A cell by itself, in numbers as the code computes them.
use Rattle.std.specs.Prelude.{Bool, ◌&&◌, cond, not, ℕ, ◌+◌, ltb, leb, eqb}

-- 1 for yes, 0 for no
abbrev pub flag_of : Bool → ℕ
flag_of b = cond b 1 0

-- 0 where just an occupied block has hf_mul 0, and hf_mul is no negative number's pattern
unfoldable pub flaw_of : ℕ → ℕ → ℕ
flaw_of k m = flag_of (not (eqb (flag_of (eqb k 1)) (flag_of (eqb m 0)))) + flag_of (ltb 2147483647 m)

-- 1 for a kind within bounds, else 0
unfoldable pub within_of : ℕ → ℕ → ℕ → ℕ
within_of k from to = cond (leb from k && leb k to) 1 0

-- 1 for a corner of one block, else 0
unfoldable pub one_block : ℕ → ℕ
one_block k = within_of k 2 5 + within_of k 14 19

-- 0 for an occupied block and for a corner of one block, 1 for a free block and for a corner of more than one
unfoldable pub larger_of : ℕ → ℕ
larger_of k = cond (eqb (within_of k 1 5 + within_of k 14 19) 0) 1 0

-- 0 for a corner of one block on a clear x and for any other cell on a covered one, else 1
unfoldable pub gap_of : ℕ → ℕ → ℕ
gap_of k v = flag_of (eqb (flag_of (ltb 0 v)) (one_block k))
