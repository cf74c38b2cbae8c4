-- What the walk's code hands back, and the walk's steps as a loop uses them.
use Rattle.std.specs.Prelude.{◌≡◌, length, get_or, set}
use Rattle.std.proofs.Math.Path.{refl}
use Rattle.std.proofs.Common.{ap, sym, ◌∙◌, add-one, lt-ltb, le-ltb, drop-cons}
use mathlib.Core.List.{List, [], ◌∷◌}
use Prim.Native.Nat.{ℕ, zero, suc, ◌+◌, ◌*◌, ◌-◌, ◌%◌, ◌^◌, ◌<◌, ◌≤◌}
use native.Mathlib.Omega.{arith}
use Rattle.std.proofs.Math.ListN.{drop, drop_of_length-le}
use Rattle.std.proofs.Math.Seq.{set_out}
use Rattle.refusal.specs.declared.Refusal.TheVariants.{SymbolsEnd, TooManyZeros, CountRemaining}
use Rattle.coded_numbers.specs.Signed.{unpack_signed}
use Rattle.coeff_context.specs.Context.{coeff_context}
use Rattle.coeff_walk.specs.Walk.{Walked, done, stopped, walk, flag, less, gain}
use Rattle.coeff_walk.specs.laws.Outcome.{less_of, answer_of, log_of, grid_after, WalkShown}

less_of_lem : (u n : ℕ) → less u n ≡ less_of u (suc n)
less_of_lem zero n = refl
less_of_lem (suc u) n = omega arith

pub flag_one : (u : ℕ) → (u ≡ 0 → ⊥) → flag u ≡ 1
flag_one zero n = absurd (n refl)
flag_one (suc u) n = refl

less_flag : (u left : ℕ) → less_of u left ≡ left - flag u
less_flag zero left = omega arith
less_flag (suc u) left = refl

less_one : (u left : ℕ) → (u ≡ 0 → ⊥) → less_of u left ≡ left - 1
less_one zero left n = absurd (n refl)
less_one (suc u) left n = refl

module _ (shift blocks : ℕ) (coeff_map : List ℕ) where
  pub walk_next : (p : ℕ) (ps : List ℕ) (i prev n u : ℕ) (us : List ℕ) (at : ℕ) (log g : List ℕ) → coeff_context blocks n i prev < 458
      → walk shift blocks coeff_map (p ∷ ps) i prev (suc n) (u ∷ us) at log g
      ≡ walk shift blocks coeff_map ps (i + 1) (flag u) (less u n) us (at + 1) (set log at (get_or coeff_map (coeff_context blocks n i prev) 0)) (gain shift g p u)
  unfolding walk
  walk_next p ps i prev n u us at log g h = rw (lt-ltb (coeff_context blocks n i prev) 458 h)

module _ (shift blocks : ℕ) (coeff_map places symbols : List ℕ) (k prev left at : ℕ) (log g : List ℕ) where
  pub walk_used : left ≡ 0 → walk shift blocks coeff_map (drop k places) k prev left (drop at symbols) at log g ≡ done (drop at symbols) at log g
  walk_used e = rw e (go (drop k places))
    where
      go : (ps : List ℕ) → walk shift blocks coeff_map ps k prev 0 (drop at symbols) at log g ≡ done (drop at symbols) at log g
      go [] = unfold walk in refl
      go (p ∷ ps) = unfold walk in refl

  pub walk_24 : length places ≤ k → 0 < left → walk shift blocks coeff_map (drop k places) k prev left (drop at symbols) at log g ≡ stopped CountRemaining at log g
  unfolding walk
  walk_24 h l = rw (drop_of_length-le places h) (go left l)
    where
      go : (m : ℕ) → 0 < m → walk shift blocks coeff_map [] k prev m (drop at symbols) at log g ≡ stopped CountRemaining at log g
      go zero l = absurd (omega arith)
      go (suc m) l = refl

  pub walk_17 : k < length places → 0 < left → 458 ≤ coeff_context blocks (left - 1) k prev
      → walk shift blocks coeff_map (drop k places) k prev left (drop at symbols) at log g ≡ stopped TooManyZeros at log g
  unfolding walk
  walk_17 h l c = rw (drop-cons places k 0 h) (go left (drop at symbols) (omega arith) c)
    where
      go : (m : ℕ) (us : List ℕ) → 0 < m → 458 ≤ coeff_context blocks (m - 1) k prev
          → walk shift blocks coeff_map (get_or places k 0 ∷ drop (suc k) places) k prev m us at log g ≡ stopped TooManyZeros at log g
      go zero us l c = absurd (omega arith)
      go (suc m) [] l c = let e : suc m - 1 ≡ m = omega arith in rw (le-ltb (coeff_context blocks m k prev) 458 (rw e at c))
      go (suc m) (u ∷ us) l c = let e : suc m - 1 ≡ m = omega arith in rw (le-ltb (coeff_context blocks m k prev) 458 (rw e at c))

  pub walk_15 : k < length places → 0 < left → coeff_context blocks (left - 1) k prev < 458 → length symbols ≤ at
      → walk shift blocks coeff_map (drop k places) k prev left (drop at symbols) at log g ≡ stopped SymbolsEnd at log g
  unfolding walk
  walk_15 h l c e = rw (drop-cons places k 0 h, drop_of_length-le symbols e) (go left (omega arith) c)
    where
      go : (m : ℕ) → 0 < m → coeff_context blocks (m - 1) k prev < 458
          → walk shift blocks coeff_map (get_or places k 0 ∷ drop (suc k) places) k prev m [] at log g ≡ stopped SymbolsEnd at log g
      go zero l c = absurd (omega arith)
      go (suc m) l c = let e : suc m - 1 ≡ m = omega arith in rw (lt-ltb (coeff_context blocks m k prev) 458 (rw e at c))

  walk_turn : k < length places → 0 < left → coeff_context blocks (left - 1) k prev < 458 → at < length symbols
      → walk shift blocks coeff_map (drop k places) k prev left (drop at symbols) at log g
      ≡ walk shift blocks coeff_map (drop (k + 1) places) (k + 1) (flag (get_or symbols at 0)) (less_of (get_or symbols at 0) left) (drop (at + 1) symbols) (at + 1)
      (set log at (get_or coeff_map (coeff_context blocks (left - 1) k prev) 0)) (gain shift g (get_or places k 0) (get_or symbols at 0))
  walk_turn h l c s =
      rw (drop-cons places k 0 h, drop-cons symbols at 0 s, add-one k, add-one at) (go left l c)
    where
      u : ℕ
      u = get_or symbols at 0

      p : ℕ
      p = get_or places k 0

      go : (m : ℕ) → 0 < m → coeff_context blocks (m - 1) k prev < 458
          → walk shift blocks coeff_map (p ∷ drop (suc k) places) k prev m (u ∷ drop (suc at) symbols) at log g
          ≡ walk shift blocks coeff_map (drop (suc k) places) (suc k) (flag u) (less_of u m) (drop (suc at) symbols) (suc at) (set log at (get_or coeff_map (coeff_context blocks (m - 1) k prev) 0)) (gain shift g p u)
      go zero l c = absurd (omega arith)
      go (suc m) l c =
          let e : suc m - 1 ≡ m = omega arith in
          let c₁ : coeff_context blocks m k prev < 458 = rw e at c in
          walk_next shift blocks coeff_map p (drop (suc k) places) k prev m u (drop (suc at) symbols) at log g c₁ ∙ rw (add-one k, add-one at, less_of_lem u m, e)

  -- a symbol of either kind; one that is 0, and one that is not
  module _ (h : k < length places) (l : 0 < left) (c : coeff_context blocks (left - 1) k prev < 458) (s : at < length symbols) where
    pub walk_step :
        walk shift blocks coeff_map (drop k places) k prev left (drop at symbols) at log g
        ≡ walk shift blocks coeff_map (drop (k + 1) places) (k + 1) (flag (get_or symbols at 0)) (left - flag (get_or symbols at 0)) (drop (at + 1) symbols) (at + 1)
        (set log at (get_or coeff_map (coeff_context blocks (left - 1) k prev) 0)) (gain shift g (get_or places k 0) (get_or symbols at 0))
    walk_step = walk_turn h l c s ∙ rw (less_flag (get_or symbols at 0) left)

    pub walk_zero : get_or symbols at 0 ≡ 0
        → walk shift blocks coeff_map (drop k places) k prev left (drop at symbols) at log g
        ≡ walk shift blocks coeff_map (drop (k + 1) places) (k + 1) 0 left (drop (at + 1) symbols) (at + 1) (set log at (get_or coeff_map (coeff_context blocks (left - 1) k prev) 0)) g
    walk_zero e = walk_turn h l c s ∙ rw e

    pub walk_more : (get_or symbols at 0 ≡ 0 → ⊥)
        → walk shift blocks coeff_map (drop k places) k prev left (drop at symbols) at log g
        ≡ walk shift blocks coeff_map (drop (k + 1) places) (k + 1) 1 (left - 1) (drop (at + 1) symbols) (at + 1)
        (set log at (get_or coeff_map (coeff_context blocks (left - 1) k prev) 0)) (gain shift g (get_or places k 0) (get_or symbols at 0))
    walk_more n = walk_turn h l c s ∙ rw (flag_one (get_or symbols at 0) n, less_one (get_or symbols at 0) left n)

-- from what is left to do to what the whole gives
pub ends : (w v x : Walked) → w ≡ x → w ≡ v → WalkShown (answer_of x) (log_of x) (grid_after x) v
ends w v x e i = record { answer = ap answer_of (sym e ∙ i); logged = ap log_of (sym e ∙ i); cells = ap grid_after (sym e ∙ i) }

-- a symbol that is 0, and one that is not
pub gain_none : (u : ℕ) → u ≡ 0 → (shift : ℕ) (g : List ℕ) (p : ℕ) → gain shift g p u ≡ g
gain_none u e shift g p = rw e

pub gain_more : (shift : ℕ) (g : List ℕ) (p u : ℕ) → (u ≡ 0 → ⊥) → gain shift g p u ≡ set g p ((get_or g p 0 + unpack_signed u * 2 ^ shift % 2 ^ 32) % 2 ^ 32)
gain_more shift g p zero n = absurd (n refl)
gain_more shift g p (suc u) n = refl

-- a cell outside the grid
pub gain_out : (shift : ℕ) (g : List ℕ) (p u : ℕ) → length g ≤ p → gain shift g p u ≡ g
gain_out shift g p zero h = refl
gain_out shift g p (suc u) h = set_out g p ((get_or g p 0 + unpack_signed (suc u) * 2 ^ shift % 2 ^ 32) % 2 ^ 32) h
