-- The reading as the code holds it: rows of 32 counts, a symbol's position, how it ended.
use Rattle.std.specs.Prelude.{◌≡◌, List, [], ℕ, ◌≤◌, get_or, set, drop, Result, Ok, Err}
use Rattle.refusal.specs.declared.Refusal.{Refusal}
use Rattle.coeff_walk.specs.Walk.{Walked}
use Rattle.coeff_walk.specs.laws.Outcome.{answer_of, log_of, grid_after}
use Rattle.laws.specs.Lists.{fill_from}
use Rattle.coeff_group.specs.Group.{PerChannel, Reading, going, refused}

-- of an answer with something beside the symbols read: how it ended; and what is beside them, `none` where it was stopped
abbrev pub ended : {A : Type 0} → Result (ℕ × A) Refusal → Result ℕ Refusal
ended (Ok p) = Ok p.0
ended (Err why) = Err why

abbrev pub beside : {A : Type 0} → A → Result (ℕ × A) Refusal → A
beside none (Ok p) = p.1
beside none (Err why) = none

-- a walk in grid c of three
pub record InGrid (c : ℕ) (G : PerChannel) (r : Result ℕ Refusal) (log : List ℕ) (G' : PerChannel) (walked : List ℕ → Walked) : Type 0 where
  pub answer : r ≡ answer_of (walked (get_or G c []))
  pub logged : log ≡ log_of (walked (get_or G c []))
  pub cells : G' ≡ set G c (grid_after (walked (get_or G c [])))

-- row c with v from x on, n times
abbrev pub row_by : PerChannel → ℕ → ℕ → ℕ → ℕ → PerChannel
row_by rows c x n v = set rows c (fill_from (get_or rows c []) x n v)

-- what the code holds of a reading that goes on, at most `most` symbols read
pub record Going (symbols : List ℕ) (most : ℕ) (w : Result ℕ Refusal) (rows : PerChannel) (log : List ℕ) (G : PerChannel) (us : List ℕ) (at : ℕ) (log' : List ℕ) (G' rows' : PerChannel) : Type 0 where
  pub answer : w ≡ Ok at
  pub rest : us ≡ drop at symbols
  pub few : at ≤ most
  pub counts : rows' ≡ rows
  pub logged : log' ≡ log
  pub cells : G' ≡ G

-- and of one that was refused
pub record Ends (w : Result ℕ Refusal) (log : List ℕ) (G : PerChannel) (why : ℕ → Refusal) (at : ℕ) (log' : List ℕ) (G' : PerChannel) : Type 0 where
  pub answer : w ≡ Err (why at)
  pub logged : log' ≡ log
  pub cells : G' ≡ G

abbrev pub ShownBy : List ℕ → ℕ → Result ℕ Refusal → PerChannel → List ℕ → PerChannel → Reading → Type 0
ShownBy symbols most w rows log G (going us at log' G' rows') = Going symbols most w rows log G us at log' G' rows'
ShownBy symbols most w rows log G (refused why at log' G') = Ends w log G why at log' G'

-- what the code holds of a reading
pub record Shown (symbols : List ℕ) (most : ℕ) (w : Result ℕ Refusal) (rows : PerChannel) (log : List ℕ) (G : PerChannel) (R : Reading) : Type 0 where
  pub it : ShownBy symbols most w rows log G R
