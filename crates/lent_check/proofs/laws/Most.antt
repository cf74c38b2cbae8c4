-- The larger of two numbers, as `max` of std answers it.
use Rattle.std.specs.Prelude.{◌≡◌, ℕ, max}
use Rattle.std.specs.Ordering.{ord_max, nat_cmp}
use Rattle.std.proofs.Common.{arith}
use Rattle.std.proofs.lemmas.Bool.Decides.{nat_tests}

pub most : (a b : ℕ) → ord_max nat_cmp a b ≡ max a b
most a b = grind (arith, nat_tests)
