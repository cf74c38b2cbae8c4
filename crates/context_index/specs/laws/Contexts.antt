-- Laws: Block contexts (document 01, Block contexts and Coefficients; `HfBlockContext` of `lf.rs`, `write_hf_coeff` of `hf_coeff.rs`).
use Rattle.std.specs.Prelude.{ℕ, Bool, List, [], ◌∷◌}
use Rattle.context_index.specs.Contexts.{Contexts, block_context}

-- of the channels 1, 0, 2, as they are walked
abbrev pub block_contexts : Contexts → ℕ → ℕ → Bool → ℕ → ℕ → ℕ → List ℕ
block_contexts C order hf_mul there q0 q1 q2 =
    block_context C 0 order hf_mul there q0 q1 q2 ∷ block_context C 1 order hf_mul there q0 q1 q2 ∷ block_context C 2 order hf_mul there q0 q1 q2 ∷ []
