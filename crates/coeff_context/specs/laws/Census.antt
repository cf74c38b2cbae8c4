-- The context census (document 02, No. 9).
use Rattle.std.specs.Prelude.{◌≡◌, ℕ, ◌<◌}
use Rattle.coeff_context.specs.Census.{Situation, PowerOfTwo, InCensus, context_of}

-- each number occurs, in varblocks of every block count
abbrev pub EachNumber : Type 0
EachNumber = (blocks : ℕ) → PowerOfTwo blocks → (k : ℕ) → k < 458 → (s : Situation) × InCensus s × (s.blocks ≡ blocks) × (context_of s ≡ k)
