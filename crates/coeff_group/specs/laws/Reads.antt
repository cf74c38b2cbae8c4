-- What the reading of a group reads, logs and adds, whatever the shift and whatever log and grids held: its items' walks, one behind the other.
use Rattle.std.specs.Prelude.{◌≡◌, ℕ, ◌+◌, ◌*◌, ◌≤◌, length}
use mathlib.Core.List.{List, [], ◌∷◌, ◌++◌}
use Rattle.std.proofs.lemmas.List.Edits.{sets}
use Rattle.refusal.specs.declared.Refusal.{Refusal}
use Rattle.coeff_walk.specs.Item.{Item}
use Rattle.coeff_group.specs.Group.{PerChannel, Reading, going, refused}
use Rattle.coeff_group.specs.laws.Symbols.{symbols_in}
use Rattle.coeff_walk.specs.Sent.{Words, sent}
use Rattle.coeff_group.specs.Sequence.{read_cells}
use Rattle.coeff_walk.specs.UsedUp.{Long, CountRemains, MoreDue, StoppedAmong}
use Rattle.coeff_walk.specs.laws.Walks.{Stop}
use Rattle.coeff_group.specs.laws.Cells.{In, adds}

-- one behind the other
abbrev pub joined : List (List ℕ) → List ℕ
joined [] = []
joined (ds ∷ dss) = ds ++ joined dss

-- 63 places for each block
abbrev pub Sized : List Item → Type 0
Sized its = (it : Item) → In it its → length it.cells ≡ 63 * it.blocks

pub data End : Type 0 where
  ends : (us : List ℕ) (rows : PerChannel) → End
  stops : (why : ℕ → Refusal) → End

abbrev pub read_by : End → ℕ → List ℕ → PerChannel → Reading
read_by (ends us rows) at log G = going us at log G rows
read_by (stops why) at log G = refused why at log G

abbrev pub longer : List ℕ → End → End
longer vs (ends us rows) = ends (us ++ vs) rows
longer vs (stops why) = stops why

abbrev pub Goes : End → Type 0
Goes (ends us rows) = Unit
Goes (stops why) = ⊥

-- of a reading that ended, with dss at the places and k symbols read: its symbols are those sent for dss
pub record Taken (us : List ℕ) (k : ℕ) (dss : List (List ℕ)) (us' : List ℕ) : Type 0 where
  pub read : length us ≡ k + length us'
  pub rest : us ≡ sent dss ++ us'
  pub words : Words us → Words (joined dss)

-- where it stopped: with what 17 and 24 tell of the item that was read last
abbrev pub Tells : List Item → List ℕ → ℕ → List (List ℕ) → End → Type 0
Tells its us k dss (ends us' rows) = Taken us k dss us'
Tells its us k dss (stops why) = Stop (λ (s : List ℕ). Sized its → StoppedAmong MoreDue its s) (StoppedAmong CountRemains its) us k why

pub record Reads (its : List Item) (us : List ℕ) (F : ℕ → ℕ → List ℕ → PerChannel → Reading) (F' : List ℕ → ℕ → ℕ → List ℕ → PerChannel → Reading) : Type 0 where
  pub clusters : List ℕ
  pub dss : List (List ℕ)
  pub end : End
  pub is : (s at : ℕ) (log : List ℕ) (G : PerChannel) → F s at log G ≡ read_by end (at + length clusters) (sets log at clusters) (adds s G (read_cells its) (joined dss))
  pub further : Goes end → (vs : List ℕ) (s at : ℕ) (log : List ℕ) (G : PerChannel)
      → F' vs s at log G ≡ read_by (longer vs end) (at + length clusters) (sets log at clusters) (adds s G (read_cells its) (joined dss))
  pub all : Long its dss
  pub few : length clusters ≤ symbols_in its
  pub tells : Tells its us (length clusters) dss end
