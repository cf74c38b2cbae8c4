-- What the cut of a lent layout answers, and what it leaves in the lent buffers (document 01, Layout, "Added by us"; Refused).
use Rattle.std.specs.Prelude.{List, ℕ, length}
use Rattle.layout.specs.Check.{is_layout}
use Rattle.layout.specs.Cut.{has_group, bw_of_group, bh_of_group, cut}
use Rattle.lent_check.specs.declared.GroupSides.{GroupSides}
use Rattle.lent_check.specs.GroupSides.{group_sides}
use Rattle.refusal.specs.declared.Said.{Said}
use Rattle.refusal.specs.Answer.{Answer, gives, refuses, unless, passed, answered_by}
use Rattle.lent_sides.specs.Limits.{in_limits, lengths_fit}

-- an answer, and the two lent buffers after it
pub record Outcome : Type 0 where
  pub answer : Answer GroupSides
  pub kinds : List ℕ
  pub hf_mul : List ℕ

abbrev pub outcome : Answer GroupSides → List ℕ → List ℕ → Outcome
outcome a k m = record { answer = a; kinds = k; hf_mul = m }

-- before work: the sides and the index of group g, the lengths of layout and buffers, the layout
unfoldable pub cut_check : ℕ → ℕ → List ℕ → List ℕ → ℕ → ℕ → ℕ → Answer Unit
cut_check bw bh kinds hf_mul g out_kinds out_hf_mul =
    unless 2 (in_limits 256 bw bh)
    (unless 2 (has_group bw bh g)
    (unless 1 (lengths_fit bw bh (length kinds) (length hf_mul))
    (unless 1 (lengths_fit (bw_of_group bw g) (bh_of_group bw bh g) out_kinds out_hf_mul)
    (unless 18 (is_layout bw bh kinds hf_mul) passed))))

-- a refusal leaves the buffers as they were
abbrev pub cut_by : Answer Unit → Outcome → List ℕ → List ℕ → Outcome
cut_by checks done kinds hf_mul = answered_by checks (λ (s : Said). outcome (refuses s) kinds hf_mul) (λ (t : Unit). done)

unfoldable pub cut_of : ℕ → ℕ → List ℕ → List ℕ → ℕ → List ℕ → List ℕ → Outcome
cut_of bw bh kinds hf_mul g out_kinds out_hf_mul =
    cut_by (cut_check bw bh kinds hf_mul g (length out_kinds) (length out_hf_mul))
    (outcome (gives (group_sides (bw_of_group bw g) (bh_of_group bw bh g))) (cut bw bh g kinds) (cut bw bh g hf_mul)) out_kinds out_hf_mul
