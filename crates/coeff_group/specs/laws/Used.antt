-- What a reading that is done tells of its counts, from channels to the group (document 02, No. 8): they are used up.
use Rattle.std.specs.Prelude.{◌≡◌, List, ℕ, Result}
use Rattle.refusal.specs.declared.Refusal.{Refusal}
use Rattle.coeff_walk.specs.laws.Outcome.{AllUseUp}
use Rattle.coeff_group.specs.PassGroup.{PassGroup, varblocks, items_of}
use Rattle.coeff_group.specs.Group.{PerChannel}
use Rattle.coeff_group.specs.laws.Due.{walk_of, whole_of}

module _ (shift clusters : ℕ) (preset_map : List ℕ) where
  -- of a group
  abbrev pub GroupUses : Type 0
  GroupUses = (P : PassGroup) (symbols log : List ℕ) (G : PerChannel) (w : Result ℕ Refusal) → w ≡ walk_of (whole_of shift clusters preset_map P symbols log G) → AllUseUp (items_of P (varblocks P)) symbols 0 w
