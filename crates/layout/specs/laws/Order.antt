-- Row by row: what comes before a block, what comes from it on.
use Rattle.std.specs.Prelude.{◌≡◌, ◌⊎◌, ℕ, ◌≤◌, ◌<◌}

abbrev pub From : ℕ → ℕ → ℕ → ℕ → Type 0
From x y a b = (y < b) ⊎ ((b ≡ y) × (x ≤ a))

abbrev pub Here : ℕ → ℕ → ℕ → ℕ → Type 0
Here x y a b = (a ≡ x) × (b ≡ y)
