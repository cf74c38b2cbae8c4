-- A place before, inside or behind a stretch of n from i on.
use Rattle.std.specs.Prelude.{◌⊎◌, ℕ, ◌+◌, ◌≤◌, ◌<◌}
use Rattle.std.proofs.Common.{inl, inr}
use Rattle.laws.specs.laws.Cases.{le_or_lt}
use Rattle.layout.specs.laws.Stretch.{Place, right, inside, left}

pub place : (i n j : ℕ) → Place i n j
place i n j = go (le_or_lt i j) (le_or_lt (i + n) j)
  where
    go : (i ≤ j) ⊎ (j < i) → (i + n ≤ j) ⊎ (j < i + n) → Place i n j
    go (inl a) (inl b) = right b
    go (inl a) (inr b) = inside a b
    go (inr a) (inl b) = left a
    go (inr a) (inr b) = left a
