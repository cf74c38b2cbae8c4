-- A planned varblock as the group's reading takes it: read from rows of counts, and these rewritten.
use Rattle.std.specs.Prelude.{◌≡◌, List, ℕ, ◌+◌, ◌*◌, ◌^◌, ◌≤◌, length, drop, Result, Ok, Err}
use Rattle.std.proofs.Common.{ap, sym, subst, ◌∙◌}
use Rattle.lent_check.specs.declared.GroupSides.{GroupSides}
use Rattle.refusal.specs.declared.Refusal.{Refusal}
use Rattle.coeff_walk.specs.laws.Outcome.{AllUseUp}
use Rattle.coeff_group.specs.declared.plan.Plan.{Plan}
use Rattle.coeff_group.specs.Group.{PerChannel, Reading, going, read_items}
use Rattle.coeff_group.specs.laws.Steps.{ended, beside, Shown}
use Rattle.coeff_group.specs.laws.Plans.{items_by, Planned}
use Rattle.coeff_group.specs.laws.Rewritten.{rewritten, no_counts, VarblockShown}
use Rattle.coeff_group.proofs.laws.Rewritten.{three_is}
use Rattle.coeff_group.specs.laws.Lent.{planned_read}
use Rattle.coeff_group.proofs.laws.Lent.{varblock_is}
use Rattle.coeff_group.proofs.laws.Channels.{shown_stopped}

module _ (p : Plan) (group : GroupSides) (clusters : ℕ) (preset_map store : List ℕ) (rows : PerChannel) (symbols : List ℕ) (at shift : ℕ) (log : List ℕ) (G : PerChannel)
    (planned : Planned p group clusters preset_map store shift) (room : at + 192 * 2 ^ p.shape.exponent ≤ length log) (three : length rows ≡ 3) (r : Result (ℕ × List ℕ) Refusal) (log₁ : List ℕ) (G₁ : PerChannel)
    (told : VarblockShown p (items_by p group store) symbols at r rows log₁ G₁ (planned_read p group clusters preset_map store rows symbols at shift log G)) where
  abbrev most : ℕ
  most = at + 192 * 2 ^ p.shape.exponent

  abbrev whole : Reading
  whole = read_items shift clusters preset_map (items_by p group store) (going (drop at symbols) at log G rows)

  shown : Shown symbols most (ended r) (rewritten p (beside no_counts r) rows 3) log₁ G₁ whole
  shown =
      subst (Shown symbols most (ended r) (rewritten p (beside no_counts r) rows 3) log₁ G₁)
      (varblock_is p group clusters preset_map store rows symbols at shift log G planned room
      ∙ ap (λ (r : PerChannel). read_items shift clusters preset_map (items_by p group store) (going (drop at symbols) at log G r)) (three_is rows three))
      told.shown

  -- the reading stopped in it
  pub step_stops : (why : Refusal) → r ≡ Err why → Shown symbols most (Err why) rows log₁ G₁ whole × AllUseUp (items_by p group store) symbols at (Err why)
  step_stops why e = (shown_stopped symbols most why (rewritten p no_counts rows 3) rows log₁ G₁ whole (rw e at shown), rw e at told.used)

  -- it was read
  pub step_goes : (next : ℕ) (counts : List ℕ) → r ≡ Ok (next, counts) → (rows₁ : PerChannel) → rows₁ ≡ rewritten p counts rows 3
      → (length rows₁ ≡ 3) × Shown symbols most (Ok next) rows₁ log₁ G₁ whole × AllUseUp (items_by p group store) symbols at (Ok next)
  step_goes next counts e rows₁ q = (ap length q, subst (λ (r : PerChannel). Shown symbols most (Ok next) r log₁ G₁ whole) (sym q) (rw e at shown), rw e at told.used)
