-- A group's reading as a list of channels, and what is known of a reading that was refused.
use Rattle.std.specs.Prelude.{◌≡◌, ℕ}
use Rattle.std.proofs.Math.Path.{refl}
use mathlib.Core.List.{List, [], ◌∷◌, ◌++◌}
use Rattle.refusal.specs.declared.Refusal.{Refusal}
use Rattle.layout.specs.Varblocks.{Varblock}
use Rattle.coeff_walk.specs.Item.{Item}
use Rattle.coeff_group.specs.PassGroup.{PassGroup, channel_items, items_of}
use Rattle.coeff_group.specs.Group.{PerChannel, Reading, refused, read_item, read_items, read_varblock, read_group}

module _ (shift clusters : ℕ) (preset_map : List ℕ) where
  pub read_append : (xs ys : List Item) (r : Reading) → read_items shift clusters preset_map (xs ++ ys) r ≡ read_items shift clusters preset_map ys (read_items shift clusters preset_map xs r)
  unfolding read_items
  read_append [] ys r = refl
  read_append (x ∷ xs) ys r = read_append xs ys (read_item shift clusters preset_map x r)

  -- a group is its varblocks' channels in turn
  pub group_items_lem : (P : PassGroup) (vs : List Varblock) (r : Reading) → read_group shift clusters preset_map P vs r ≡ read_items shift clusters preset_map (items_of P vs) r
  unfolding read_group items_of
  group_items_lem P [] r = unfold read_items in refl
  group_items_lem P (v ∷ vs) r = rw (read_append (channel_items P v) (items_of P vs) r) (group_items_lem P vs (read_varblock shift clusters preset_map P v r))

  -- what was refused stays so
  pub read_refused : (its : List Item) (why : ℕ → Refusal) (at : ℕ) (log : List ℕ) (G : PerChannel) → read_items shift clusters preset_map its (refused why at log G) ≡ refused why at log G
  unfolding read_items read_item
  read_refused [] why at log G = refl
  read_refused (it ∷ its) why at log G = read_refused its why at log G

  pub group_refused : (P : PassGroup) (vs : List Varblock) (why : ℕ → Refusal) (at : ℕ) (log : List ℕ) (G : PerChannel) → read_group shift clusters preset_map P vs (refused why at log G) ≡ refused why at log G
  unfolding read_group read_items read_item
  group_refused P [] why at log G = refl
  group_refused P (v ∷ vs) why at log G = group_refused P vs why at log G
