-- What a walk keeps: the symbols left are those behind the symbols read, log and grid keep their lengths.
use Rattle.std.specs.Prelude.{◌≡◌, refl, Bool, true, false, cond, List, [], ◌∷◌, ℕ, zero, suc, ◌+◌, ◌*◌, ◌%◌, ◌^◌, ltb, leb, length, get_or, set}
use Rattle.std.proofs.Common.{◌∙◌, arith, length-set}
use Rattle.refusal.specs.declared.Refusal.{Refusal}
use Rattle.refusal.specs.declared.Refusal.TheVariants.{SymbolsEnd, TooManyZeros, Count}
use Rattle.coded_numbers.specs.Signed.{unpack_signed}
use Rattle.coeff_context.specs.Context.{coeff_context}
use Rattle.coeff_walk.specs.Walk.{Walked, done, stopped, walk, flag, less, gain}
use Rattle.coeff_walk.specs.Item.{Item, count_cluster, coeff_map_of, counted}
use Rattle.coeff_walk.specs.laws.Kept.{Kept, KeptBy}

none : (n : ℕ) (us : List ℕ) (at : ℕ) (log g : List ℕ) → Kept n us at log g us at log g
none n us at log g = record { k = 0; most = omega arith; read = omega arith; rest = refl; logged = refl; cells = refl }

pub length_gain : (shift : ℕ) (g : List ℕ) (p u : ℕ) → length (gain shift g p u) ≡ length g
length_gain shift g p zero = refl
length_gain shift g p (suc u) = length-set g p ((get_or g p 0 + unpack_signed (suc u) * 2 ^ shift % 2 ^ 32) % 2 ^ 32)

either : (n : ℕ) (us : List ℕ) (at : ℕ) (log g : List ℕ) (b : Bool) (w : Walked) (why : ℕ → Refusal) (at₁ : ℕ) (log₁ g₁ : List ℕ)
    → KeptBy n us at log g w → KeptBy n us at log g (cond b w (stopped why at₁ log₁ g₁))
either n us at log g true w why at₁ log₁ g₁ k = k
either n us at log g false w why at₁ log₁ g₁ k = tt

-- one symbol more was read before
later : (n u : ℕ) (us : List ℕ) (at : ℕ) (log g log₁ g₁ : List ℕ) (w : Walked) → length log₁ ≡ length log → length g₁ ≡ length g
    → KeptBy n us (at + 1) log₁ g₁ w → KeptBy (suc n) (u ∷ us) at log g w
later n u us at log g log₁ g₁ (done us' at' log' g') a b r =
    let m = r.most in let e = r.read in
    record { k = suc r.k; most = omega arith; read = omega arith; rest = r.rest; logged = r.logged ∙ a; cells = r.cells ∙ b }
later n u us at log g log₁ g₁ (stopped why at' log' g') a b r = tt

pub walk_kept : (shift blocks : ℕ) (coeff_map ps : List ℕ) (i prev n : ℕ) (us : List ℕ) (at : ℕ) (log g : List ℕ)
    → KeptBy (length ps) us at log g (walk shift blocks coeff_map ps i prev n us at log g)
unfolding walk
walk_kept shift blocks coeff_map [] i prev zero us at log g = none 0 us at log g
walk_kept shift blocks coeff_map [] i prev (suc n) us at log g = tt
walk_kept shift blocks coeff_map (p ∷ ps) i prev zero us at log g = none (suc (length ps)) us at log g
walk_kept shift blocks coeff_map (p ∷ ps) i prev (suc n) [] at log g =
    either (suc (length ps)) [] at log g (ltb (coeff_context blocks n i prev) 458) (stopped SymbolsEnd at log g) TooManyZeros at log g tt
walk_kept shift blocks coeff_map (p ∷ ps) i prev (suc n) (u ∷ us) at log g =
    let c = coeff_context blocks n i prev in
    let log₁ = set log at (get_or coeff_map c 0) in
    let g₁ = gain shift g p u in
    either (suc (length ps)) (u ∷ us) at log g (ltb c 458) (walk shift blocks coeff_map ps (i + 1) (flag u) (less u n) us (at + 1) log₁ g₁) TooManyZeros at log g
    (later (length ps) u us at log g log₁ g₁ (walk shift blocks coeff_map ps (i + 1) (flag u) (less u n) us (at + 1) log₁ g₁)
    (length-set log at (get_or coeff_map c 0)) (length_gain shift g p u) (walk_kept shift blocks coeff_map ps (i + 1) (flag u) (less u n) us (at + 1) log₁ g₁))

pub counted_kept : (shift clusters : ℕ) (preset_map : List ℕ) (it : Item) (row us : List ℕ) (at : ℕ) (log g : List ℕ)
    → KeptBy (suc (length it.cells)) us at log g (counted shift clusters preset_map it row us at log g)
unfolding counted
counted_kept shift clusters preset_map it row [] at log g = tt
counted_kept shift clusters preset_map it row (n ∷ us) at log g =
    let log₁ = set log at (count_cluster clusters preset_map it row) in
    let first_prev : ℕ = cond (leb n (4 * it.blocks)) 1 0 in
    let w = walk shift it.blocks (coeff_map_of clusters preset_map it) it.cells 0 first_prev n us (at + 1) log₁ g in
    either (suc (length it.cells)) (n ∷ us) at log g (leb n (63 * it.blocks)) w Count (at + 1) log₁ g
    (later (length it.cells) n us at log g log₁ g w (length-set log at (count_cluster clusters preset_map it row)) refl
    (walk_kept shift it.blocks (coeff_map_of clusters preset_map it) it.cells 0 first_prev n us (at + 1) log₁ g))
