-- The cluster map's length is bounded; a group passes where its check lets it.
use Rattle.std.specs.Prelude.{◌≡◌, List, ℕ, ◌*◌, ◌≤◌, Result, Ok, Err, is_ok}
use Rattle.std.proofs.Common.{mul-le-mul, arith}
use Rattle.refusal.specs.declared.Refusal.{Refusal}
use Rattle.refusal.specs.Answer.{answered}
use Rattle.lent_check.specs.Calls.{check_of}
use Rattle.coeff_checks.specs.laws.Tests.{group_passes}

pub map_most : (clusters presets : ℕ) → clusters ≤ 16 → presets ≤ 256 → 495 * clusters * presets ≤ 2027520
map_most clusters presets a b = mul-le-mul (let c : 495 * clusters ≤ 7920 = omega arith in c) b

pub passes_by : (bw bh : ℕ) (kinds hf_mul : List ℕ) (r : Result Unit Refusal) → answered r ≡ check_of 32 bw bh kinds hf_mul → is_ok r ≡ group_passes bw bh kinds hf_mul
passes_by bw bh kinds hf_mul (Ok u) e = rw (← e)
passes_by bw bh kinds hf_mul (Err why) e = rw (← e)
