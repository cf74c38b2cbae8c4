-- What a reading that is done tells of its counts, from channels to the group (document 02, No. 8): they are used up.
use Rattle.std.specs.Prelude.{◌≡◌, refl, List, [], ◌∷◌, ◌++◌, ℕ, ◌+◌, length, drop, Result, Ok}
use Rattle.std.proofs.Common.{ap, ◌∙◌, arith}
use Rattle.std.proofs.Math.Path.{sym}
use Rattle.std.proofs.lemmas.List.Edits.{sets}
use Rattle.refusal.specs.declared.Refusal.{Refusal}
use Rattle.coeff_walk.specs.Walk.{Walked, done, stopped}
use Rattle.coeff_walk.specs.Item.{Item, counted}
use Rattle.coeff_walk.specs.Sent.{sent}
use Rattle.coeff_walk.specs.UsedUp.{Long, CountsUsed}
use Rattle.coeff_walk.specs.laws.Outcome.{answer_of, between, AllUseUp}
use Rattle.coeff_walk.proofs.laws.Used.{not_done, ended_at, front}
use Rattle.coeff_group.specs.PassGroup.{varblocks, items_of}
use Rattle.coeff_group.specs.Group.{PerChannel, Reading, going, refused, after, read_item, read_items, zero_rows}
use Rattle.coeff_group.proofs.laws.GroupLaws.{group_items_lem}
use Rattle.coeff_group.specs.laws.Steps.{Shown}
use Rattle.coeff_group.specs.laws.Plans.{in_channel}
use Rattle.coeff_group.specs.laws.Due.{walk_of}
use Rattle.coeff_group.specs.laws.Reads.{End, ends, stops, read_by, Tells}
use Rattle.coeff_group.proofs.laws.Reads.{reads}
use Rattle.coeff_group.specs.laws.Used.{GroupUses}

-- items that were read: from symbols us at a position to those left
record ItemsRead (its : List Item) (us : List ℕ) (at : ℕ) (us' : List ℕ) (at' : ℕ) : Type 0 where
  dss : List (List ℕ)
  long : Long its dss
  are : us ≡ sent dss ++ us'
  read : at' + length us' ≡ at + length us

walk_after : (c : ℕ) (G rows : PerChannel) (w : Walked) → walk_of (after c G rows w) ≡ answer_of w
walk_after c G rows (done us at log g) = refl
walk_after c G rows (stopped why at log g) = refl

module _ (shift clusters : ℕ) (preset_map : List ℕ) where
  items_read : (its : List Item) (us : List ℕ) (at : ℕ) (log : List ℕ) (G rows : PerChannel) (us' : List ℕ) (at' : ℕ) (log' : List ℕ) (G' rows' : PerChannel)
      → read_items shift clusters preset_map its (going us at log G rows) ≡ going us' at' log' G' rows' → ItemsRead its us at us' at'
  items_read its us at log G rows us' at' log' G' rows' e =
      let q = reads clusters preset_map its us rows in
      go (length q.clusters) (sets log at q.clusters) _ q.dss q.end q.all (sym (q.is shift at log G) ∙ e) q.tells
    where
      go : (k : ℕ) (l : List ℕ) (H : PerChannel) (dss : List (List ℕ)) (e₁ : End) → Long its dss → read_by e₁ (at + k) l H ≡ going us' at' log' G' rows' → Tells its us k dss e₁ → ItemsRead its us at us' at'
      go k l H dss (ends us₁ rows₁) long f t =
          let a : at + k ≡ at' = cc in let b : us₁ ≡ us' = cc in
          record { dss = dss; long = long; are = rw (← b) t.rest; read = rw (← b) (omega (arith, t.read)) }
      go k l H dss (stops why) long f t = absurd (not_done (why (at + k)) at' (ap walk_of f))

  -- of any reading of items, as its end is told
  pub reading_uses : (its : List Item) (symbols : List ℕ) (at : ℕ) (log : List ℕ) (G rows : PerChannel) (w : Result ℕ Refusal)
      → w ≡ walk_of (read_items shift clusters preset_map its (going (drop at symbols) at log G rows)) → AllUseUp its symbols at w
  reading_uses its symbols at log G rows w e to f = go (read_items shift clusters preset_map its (going (drop at symbols) at log G rows)) refl (sym e ∙ f)
    where
      go : (R : Reading) → read_items shift clusters preset_map its (going (drop at symbols) at log G rows) ≡ R → walk_of R ≡ Ok to → CountsUsed its (between symbols at to)
      go (going us at' log' G' rows') q h =
          let r = items_read its (drop at symbols) at log G rows us at' log' G' rows' q in
          record { dss = r.dss; long = r.long; are = front (drop at symbols) (sent r.dss) us at to r.are (omega (arith, ended_at to at' h, r.read)) }
      go (refused why at' log' G') q h = absurd (not_done (why at') to h)

  -- of one item, in a grid and with a row of its own
  pub channel_uses : (it : Item) (row symbols : List ℕ) (at : ℕ) (log g : List ℕ) (r : Result ℕ Refusal)
      → r ≡ answer_of (counted shift clusters preset_map (in_channel 0 it) row (drop at symbols) at log g) → AllUseUp (in_channel 0 it ∷ []) symbols at r
  unfolding read_items read_item
  channel_uses it row symbols at log g r e =
      reading_uses (in_channel 0 it ∷ []) symbols at log (g ∷ []) (row ∷ []) r
      (e ∙ sym (walk_after 0 (g ∷ []) _ (counted shift clusters preset_map (in_channel 0 it) row (drop at symbols) at log g)))

  -- of a group
  pub group_uses : GroupUses shift clusters preset_map
  group_uses P symbols log G w e =
      reading_uses (items_of P (varblocks P)) symbols 0 log G zero_rows w (e ∙ ap walk_of (group_items_lem shift clusters preset_map P (varblocks P) (going symbols 0 log G zero_rows)))

-- what the code holds of a reading tells its end
pub shown_walk : (symbols : List ℕ) (most : ℕ) (w : Result ℕ Refusal) (rows : PerChannel) (log : List ℕ) (G : PerChannel) (R : Reading) → Shown symbols most w rows log G R → w ≡ walk_of R
shown_walk symbols most w rows log G (going us at log' G' rows') s = s.it.answer
shown_walk symbols most w rows log G (refused why at log' G') s = s.it.answer
