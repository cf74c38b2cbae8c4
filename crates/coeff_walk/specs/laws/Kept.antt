-- What a walk keeps: the symbols left are those behind the symbols read, log and grid keep their lengths.
use Rattle.std.specs.Prelude.{◌≡◌, List, ℕ, ◌+◌, ◌≤◌, length, drop}
use Rattle.coeff_walk.specs.Walk.{Walked, done, stopped}

-- from symbols us at a position to what a walk ends in; at most n symbols are read
pub record Kept (n : ℕ) (us : List ℕ) (at : ℕ) (log g us' : List ℕ) (at' : ℕ) (log' g' : List ℕ) : Type 0 where
  pub k : ℕ
  pub most : k ≤ n
  pub read : at' ≡ at + k
  pub rest : us' ≡ drop k us
  pub logged : length log' ≡ length log
  pub cells : length g' ≡ length g

abbrev pub KeptBy : ℕ → List ℕ → ℕ → List ℕ → List ℕ → Walked → Type 0
KeptBy n us at log g (done us' at' log' g') = Kept n us at log g us' at' log' g'
KeptBy n us at log g (stopped why at' log' g') = Unit
