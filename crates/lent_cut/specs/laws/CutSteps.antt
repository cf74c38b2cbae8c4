-- The ends of the cut's checks, and its copying loops.
use Rattle.std.specs.Prelude.{◌≡◌, true, List, ℕ, length}
use Rattle.layout.specs.Check.{is_layout}
use Rattle.layout.specs.Cut.{has_group, bw_of_group, bh_of_group, cut}
use Rattle.refusal.specs.Answer.{gives}
use Rattle.lent_sides.specs.Limits.{in_limits, lengths_fit}
use Rattle.lent_cut.specs.Calls.{Outcome, outcome}
use Rattle.lent_check.specs.GroupSides.{group_sides}

module _ (bw bh : ℕ) (kinds hf_mul : List ℕ) (g ok om : ℕ) where
  -- what passed checks tell
  pub record Passed : Type 0 where
    pub sides : in_limits 256 bw bh ≡ true
    pub index : has_group bw bh g ≡ true
    pub lent : lengths_fit bw bh (length kinds) (length hf_mul) ≡ true
    pub buffers : lengths_fit (bw_of_group bw g) (bh_of_group bw bh g) ok om ≡ true
    pub layout : is_layout bw bh kinds hf_mul ≡ true

-- the outcome of a cut that is not refused
abbrev pub cut_done : ℕ → ℕ → List ℕ → List ℕ → ℕ → Outcome
cut_done bw bh kinds hf_mul g = outcome (gives (group_sides (bw_of_group bw g) (bh_of_group bw bh g))) (cut bw bh g kinds) (cut bw bh g hf_mul)
