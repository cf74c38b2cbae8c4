-- What is left out of the square, and what is kept of it.
use Rattle.std.specs.Prelude.{ℕ, Bool, true, false}

-- a number where a test passes, else 0
abbrev pub counted : Bool → ℕ → ℕ
counted true n = n
counted false n = 0
