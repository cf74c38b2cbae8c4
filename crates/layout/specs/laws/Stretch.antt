-- A place before, inside or behind a stretch of n from i on.
use Rattle.std.specs.Prelude.{ℕ, ◌+◌, ◌≤◌, ◌<◌}

pub data Place (i n j : ℕ) : Type 0 where
  left : j < i → Place i n j
  inside : i ≤ j → j < i + n → Place i n j
  right : i + n ≤ j → Place i n j
