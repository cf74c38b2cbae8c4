-- A grid without blocks: width or height zero (document 02, No. 2).
use Rattle.std.specs.Prelude.{◌≡◌, Bool, ◌||◌, ◌⊎◌, ℕ, eqb}

abbrev pub Empty : ℕ → ℕ → Type 0
Empty bw bh = (bw ≡ 0) ⊎ (bh ≡ 0)

-- the same as a test (laws: is-empty)
abbrev pub is_empty : ℕ → ℕ → Bool
is_empty bw bh = eqb bw 0 || eqb bh 0
