-- What a walk reads, logs and adds, whatever the shift and whatever log and grid held: all of it in one induction.
use Rattle.std.specs.Prelude.{◌≡◌, length, replicate}
use mathlib.Core.List.{List, [], ◌∷◌, ◌++◌}
use Prim.Native.Nat.{ℕ, ◌+◌, ◌*◌, ◌<◌, ◌≤◌}
use Rattle.std.proofs.lemmas.List.Edits.{sets}
use Rattle.refusal.specs.declared.Refusal.{Refusal}
use Rattle.refusal.specs.declared.Refusal.TheVariants.{SymbolsEnd, TooManyZeros, Count, CountRemaining}
use Rattle.coeff_walk.specs.Walk.{Walked, done, stopped, gain}
use Rattle.coeff_walk.specs.Sent.{Words, non_zeros, up_to}

-- symbols added at places, one after the other
abbrev pub gains : ℕ → List ℕ → List ℕ → List ℕ → List ℕ
gains s g ps [] = g
gains s g [] (d ∷ ds) = g
gains s g (p ∷ ps) (d ∷ ds) = gains s (gain s g p d) ps ds

-- no symbol for any of the places
abbrev pub none : List ℕ → List ℕ
none ps = replicate (length ps) 0

-- how a reading ended: symbols left, or why it stopped
pub data End : Type 0 where
  ends : (us : List ℕ) → End
  stops : (why : ℕ → Refusal) → End

abbrev pub walked_by : End → ℕ → List ℕ → List ℕ → Walked
walked_by (ends us) at log g = done us at log g
walked_by (stops why) at log g = stopped why at log g

-- the same with more symbols behind
abbrev pub longer : List ℕ → End → End
longer vs (ends us) = ends (us ++ vs)
longer vs (stops why) = stops why

abbrev pub Goes : End → Type 0
Goes (ends us) = Unit
Goes (stops why) = ⊥

-- of a reading that ended, with ds at the places and k symbols read: its symbols are those, its count is theirs
pub record Taken (n : ℕ) (us : List ℕ) (k : ℕ) (ds us' : List ℕ) : Type 0 where
  pub rest : us ≡ up_to n ds ++ us'
  pub read : length us ≡ k + length us'
  pub due : n ≡ non_zeros ds
  pub words : Words us → Words ds × Words us'

-- k symbols that were read, in front of those that were not, and what is told of them
pub record ReadOf (Q : List ℕ → Type 0) (us : List ℕ) (k : ℕ) : Type 0 where
  pub s : List ℕ
  pub vs : List ℕ
  pub are : us ≡ s ++ vs
  pub long : k ≡ length s
  pub told : Q s

-- of one that stopped behind k of its symbols: 15 comes only when none is left; what 17 and 24 tell of the symbols read
pub data Stop (Due Remains : List ℕ → Type 0) (us : List ℕ) (k : ℕ) (why : ℕ → Refusal) : Type 0 where
  symbols_end : why ≡ SymbolsEnd → k ≡ length us → Stop Due Remains us k why
  count : why ≡ Count → k ≤ length us → Stop Due Remains us k why
  too_many_zeros : why ≡ TooManyZeros → ReadOf Due us k → Stop Due Remains us k why
  count_remaining : why ≡ CountRemaining → ReadOf Remains us k → Stop Due Remains us k why

-- a walk over the places ps, the first of them number i, with n due: behind the symbols ds more are due than places remain; all places are passed, with
-- fewer symbols that are not 0 than were due
abbrev pub TooMany : (blocks i prev n : ℕ) (ps ds : List ℕ) → Type 0
TooMany blocks i prev n ps ds = prev ≤ 1 → (length ds < length ps) × (63 * blocks + non_zeros ds < i + length ds + n)

abbrev pub TooFew : (n : ℕ) (ps ds : List ℕ) → Type 0
TooFew n ps ds = (length ds ≡ length ps) × (non_zeros ds < n)

abbrev pub Tells : (blocks i prev n : ℕ) (ps us : List ℕ) → ℕ → List ℕ → End → Type 0
Tells blocks i prev n ps us k ds (ends us') = Taken n us k ds us'
Tells blocks i prev n ps us k ds (stops why) = Stop (TooMany blocks i prev n ps) (TooFew n ps) us k why

-- a reading F of the symbols us at the places ps, n of them due; F' is the same with more symbols behind
pub record Run (blocks i prev n : ℕ) (ps us : List ℕ) (F : ℕ → ℕ → List ℕ → List ℕ → Walked) (F' : List ℕ → ℕ → ℕ → List ℕ → List ℕ → Walked) : Type 0 where
  pub clusters : List ℕ
  pub ds : List ℕ
  pub end : End
  pub is : (s at : ℕ) (log g : List ℕ) → F s at log g ≡ walked_by end (at + length clusters) (sets log at clusters) (gains s g ps ds)
  pub further : Goes end → (vs : List ℕ) (s at : ℕ) (log g : List ℕ) → F' vs s at log g ≡ walked_by (longer vs end) (at + length clusters) (sets log at clusters) (gains s g ps ds)
  pub all : length ds ≡ length ps
  pub few : length clusters ≤ length ps
  pub tells : Tells blocks i prev n ps us (length clusters) ds end
