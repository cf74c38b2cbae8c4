-- One channel of a varblock, as the code takes it.
use Rattle.std.specs.Prelude.{◌≡◌, List, [], ◌∷◌, ℕ, ◌+◌, ◌*◌, ◌^◌, get_or, drop, Result}
use Rattle.lent_check.specs.declared.GroupSides.{GroupSides}
use Rattle.refusal.specs.declared.Refusal.{Refusal}
use Rattle.coeff_walk.specs.laws.Outcome.{AllUseUp}
use Rattle.coeff_group.specs.Group.{PerChannel, going, read_item}
use Rattle.coeff_group.specs.laws.Steps.{ended, beside, row_by, Shown}
use Rattle.coeff_group.specs.laws.Plans.{item_by, channel_walked}
use Rattle.coeff_group.specs.declared.plan.Plan.{Plan}

-- what the reading of the n-th channel walked hands back: the symbols read and beside them its count over the varblock's blocks, or why it was stopped,
-- whatever rows the reading has for the other channels; where it is done, its count is used up
pub record ChannelShown (p : Plan) (group : GroupSides) (clusters : ℕ) (preset_map store symbols : List ℕ) (at shift : ℕ) (rows : PerChannel) (log : List ℕ) (G : PerChannel) (n : ℕ) (r : Result (ℕ × ℕ) Refusal) (log₁ : List ℕ) (G₁ : PerChannel) : Type 0 where
  pub shown : (R : PerChannel) → get_or R (channel_walked n) [] ≡ get_or rows (channel_walked n) []
      → Shown symbols (at + 64 * 2 ^ p.shape.exponent) (ended r) (row_by R (channel_walked n) p.shape.x p.shape.wide (beside 0 r)) log₁ G₁
      (read_item shift clusters preset_map (item_by p group store n (channel_walked n)) (going (drop at symbols) at log G R))
  pub used : AllUseUp (item_by p group store n (channel_walked n) ∷ []) symbols at (ended r)
