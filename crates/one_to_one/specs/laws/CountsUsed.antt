-- What a coefficient call tells of its counts: an accepted one has used every count up; where 24 is told, the last place of a channel was passed with
-- count remaining (document 02, No. 8), and where 17 is told, more coefficients of a channel are due than places remain (document 02, No. 9).
use Rattle.std.specs.Prelude.{◌≡◌, List, ℕ, ◌-◌, take}
use mathlib.Core.List.Memᴰ
use Rattle.refusal.specs.declared.Refusal.{Refusal}
use Rattle.refusal.specs.Said.{said_at, said}
use Rattle.refusal.specs.Answer.{gives, refuses}
use Rattle.coeff_walk.specs.UsedUp.{CountsUsed, CountRemains, MoreDue, StoppedAmong}
use Rattle.coeff_walk.specs.laws.Walks.{Stop, count}
use Rattle.coeff_group.specs.PassGroup.{PassGroup, group_items}
use Rattle.coeff_group.specs.laws.Reads.{Sized}
use Rattle.coeff_call.specs.Call.{Lent, reading, call}
use Rattle.one_to_one.specs.Filling.{StoppedAt}

module _ (L : Lent) where
  -- the symbols that an accepted call read are those of the group's channels, every count used up
  abbrev pub CountsUsedLaw : Type 0
  CountsUsedLaw = (n : ℕ) → (call L).answer ≡ gives n → CountsUsed (group_items L.pass_group) (take n L.symbols)

  abbrev pub P : PassGroup
  P = L.pass_group

  -- how the reading stopped behind so many symbols
  abbrev pub StopAt : ℕ → (ℕ → Refusal) → Type 0
  StopAt = Stop (λ (s : List ℕ). Sized (group_items P) → StoppedAmong MoreDue (group_items P) s) (StoppedAmong CountRemains (group_items P)) L.symbols

  module _ (k : ℕ) where
    abbrev pub RemainsAt : Type 0
    RemainsAt = (at : ℕ) (why : ℕ → Refusal) → said (why at) ≡ said_at 24 k 0 → StopAt at why → StoppedAmong CountRemains (group_items P) (take k L.symbols)

    abbrev pub DueAt : Type 0
    DueAt = (at : ℕ) (why : ℕ → Refusal) → said (why at) ≡ said_at 17 k 0 → Sized (group_items P) → StopAt at why → StoppedAmong MoreDue (group_items P) (take k L.symbols)

    -- 24 with k symbols read: earlier channels of the group have used their counts up, then the last place of one was passed with count remaining
    abbrev pub CountRemainsLaw : Type 0
    CountRemainsLaw = (call L).answer ≡ refuses (said_at 24 k 0) → StoppedAt CountRemains L.pass_group (take k L.symbols)

    -- 17 with k symbols read: earlier channels have used their counts up, then more coefficients of one are due than places remain
    abbrev pub MoreDueLaw : Type 0
    MoreDueLaw = (call L).answer ≡ refuses (said_at 17 k 0) → StoppedAt MoreDue L.pass_group (take k L.symbols)
