-- How many symbols a coefficient call reads, and what it logs (document 01, Coefficients: "the number of symbols read, never above
-- 192 × blocks, and one logged cluster for each of them"). Of every input, refused ones too.
use Rattle.std.specs.Prelude.{◌≡◌, List, ◌++◌, ℕ, ◌+◌, ◌*◌, ◌≤◌, length, drop}
use Rattle.refusal.specs.Said as refusals
use Rattle.refusal.specs.Answer.{refuses}
use Rattle.coeff_checks.specs.Checks.{blocks}
use Rattle.coeff_call.specs.Call.{Lent, call}
use Rattle.one_to_one.specs.Filling.{with_log, symbols_read}
use Rattle.one_to_one.specs.laws.Ways.{before}

-- What holds of every call, whatever the log held before.
pub record Tied (L : Lent) : Type 0 where
  pub clusters : List ℕ
  pub each : length clusters ≡ symbols_read (call L).answer
  pub most : length clusters ≤ 192 * blocks L.pass_group
  pub there : length clusters ≤ length L.symbols
  pub room : length clusters ≤ length L.log
  pub none : (n : ℕ) → (call L).answer ≡ refuses (refusals.said_at 15 n 0) → n ≡ length L.symbols
  pub logs : (log : List ℕ) → length log ≡ length L.log
      → call (with_log L log) ≡ record { answer = (call L).answer; log = clusters ++ drop (length clusters) log; grids = (call L).grids }

module _ (L : Lent) where
  -- the number of symbols read is never above 192 × blocks
  abbrev pub NeverAbove : Type 0
  NeverAbove = symbols_read (call L).answer ≤ 192 * blocks L.pass_group
