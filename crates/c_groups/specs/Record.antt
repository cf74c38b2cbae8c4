-- What the exported cut leaves (document 01, Layout, "Added by us", and Refused).
use Rattle.std.specs.Prelude.{◌≡◌, List, ℕ}
use Rattle.refusal.specs.Handed.{Handed, handed}
use Rattle.lent_check.specs.declared.GroupSides.{GroupSides}
use Rattle.lent_cut.specs.Calls.{Outcome}

-- what is handed out, where the sides held kept before, and what the buffers hold then, against the call's outcome
pub record CutLeaves (h : Handed GroupSides) (kinds hf_mul : List ℕ) (kept : GroupSides) (o : Outcome) : Type 0 where
  pub handed_is : h ≡ handed o.answer kept
  pub kinds_are : kinds ≡ o.kinds
  pub hf_mul_is : hf_mul ≡ o.hf_mul
