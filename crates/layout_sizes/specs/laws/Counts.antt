-- Lent lengths that fit.
use Rattle.std.specs.Prelude.{◌≡◌, ℕ}

pub record Counts (types muls sharpness kinds hf_mul sigma n : ℕ) : Type 0 where
  pub muls_are : muls ≡ types
  pub sharpness_are : sharpness ≡ n
  pub kinds_are : kinds ≡ n
  pub hf_mul_are : hf_mul ≡ n
  pub sigma_are : sigma ≡ n
