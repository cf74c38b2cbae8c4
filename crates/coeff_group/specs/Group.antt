-- Reading a pass group: its varblocks in turn (document 01, Coefficients; `write_hf_coeff`).
use Rattle.std.specs.Prelude.{List, [], ◌∷◌, ℕ, get_or, set, replicate}
use Rattle.refusal.specs.declared.Refusal.{Refusal}
use Rattle.layout.specs.Varblocks.{Varblock}
use Rattle.coeff_walk.specs.Walk.{Walked, done, stopped}
use Rattle.coeff_walk.specs.Item.{Item, new_row, counted}
use Rattle.coeff_group.specs.PassGroup.{PassGroup, channel_items}

-- a list for each of the channels 0, 1, 2
abbrev pub PerChannel : Type 0
PerChannel = List (List ℕ)

-- rows of counts before the first varblock: 32 numbers each, of which a group looks at as many as it is wide
abbrev pub zero_rows : PerChannel
zero_rows = replicate 32 0 ∷ replicate 32 0 ∷ replicate 32 0 ∷ []

-- going: symbols left, symbols read, log, grids, rows of counts
pub data Reading : Type 0 where
  going : (us : List ℕ) (at : ℕ) (log : List ℕ) (grids rows : PerChannel) → Reading
  refused : (why : ℕ → Refusal) (at : ℕ) (log : List ℕ) (grids : PerChannel) → Reading

-- a channel c that was walked
abbrev pub after : ℕ → PerChannel → PerChannel → Walked → Reading
after c grids rows (done us at log g) = going us at log (set grids c g) rows
after c grids rows (stopped why at log g) = refused why at log (set grids c g)

module _ (shift clusters : ℕ) (preset_map : List ℕ) where
  unfoldable pub read_item : Item → Reading → Reading
  read_item it (going us at log grids rows) =
      let c = it.channel in
      let row = get_or rows c [] in
      after c grids (set rows c (new_row it row us)) (counted shift clusters preset_map it row us at log (get_or grids c []))
  read_item it (refused why at log grids) = refused why at log grids

  unfoldable pub read_items : List Item → Reading → Reading
  read_items [] r = r
  read_items (it ∷ its) r = read_items its (read_item it r)

  module _ (P : PassGroup) where
    abbrev pub read_varblock : Varblock → Reading → Reading
    read_varblock v r = read_items (channel_items P v) r

    unfoldable pub read_group : List Varblock → Reading → Reading
    read_group [] r = r
    read_group (v ∷ vs) r = read_group vs (read_varblock v r)
