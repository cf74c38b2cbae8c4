-- Laws on a job's columns (document 01, The lister).
use Rattle.std.specs.Prelude.{◌≡◌, Bool, List, ◌∷◌, ◌++◌, length, get_or, set, drop}
use Rattle.std.proofs.Math.Path.{ap}
use Rattle.std.proofs.Common.{sym, ◌∙◌, drop-cons, le-leb, eq-eqb, ne_eqb}
use Rattle.std.proofs.Math.Bool.{true, false, cond}
use Prim.Native.Nat.{ℕ, zero, suc, ◌+◌, ◌-◌, ◌≤◌, ◌<◌}
use native.Mathlib.Omega.{arith}
use Rattle.std.proofs.Math.ListN.{get_or-eq_default}
use Rattle.std.proofs.lemmas.List.{set_at}
use Rattle.std.proofs.lemmas.Bool.{lt-leb}
use Rattle.laws.specs.Lists.{tabulate}
use Rattle.laws.specs.laws.Lists.{length_tabulate}
use Rattle.lister_job.specs.Job.{number16, column_place, is_column, count_from, columns}
use Rattle.lister_job.specs.laws.JobSteps.{prefixed}

-- one more at the end
tabulate_more : (f : ℕ → ℕ) (n o : ℕ) (r : List ℕ) → tabulate f n o ++ (f (o + n) ∷ r) ≡ tabulate f (suc n) o ++ r
tabulate_more f zero o r = let e : o + 0 ≡ o = omega arith in ap (λ (k : ℕ). f k ∷ r) e
tabulate_more f (suc n) o r =
    let e : o + suc n ≡ o + 1 + n = omega arith in
    ap (λ (k : ℕ). f o ∷ (tabulate f n (o + 1) ++ (f k ∷ r))) e ∙ ap (λ (l : List ℕ). f o ∷ l) (tabulate_more f n (o + 1) r)

pub prefixed_more : (f : ℕ → ℕ) (n v : ℕ) (d : List ℕ) → n < length d → v ≡ f n → set (prefixed f n d) n v ≡ prefixed f (n + 1) d
prefixed_more f n v d h e =
    let z : 0 + n ≡ n = omega arith in
    let m : suc n ≡ n + 1 = omega arith in
    ap (λ (l : List ℕ). set (tabulate f n 0 ++ l) n v) (drop-cons d n 0 h)
    ∙ set_at (tabulate f n 0) (get_or d n 0) (drop (suc n) d) v n (length_tabulate f n 0)
    ∙ ap (λ (k : ℕ). tabulate f n 0 ++ (k ∷ drop (suc n) d)) (e ∙ ap f (sym z))
    ∙ tabulate_more f n 0 (drop (suc n) d)
    ∙ ap (λ (k : ℕ). tabulate f k 0 ++ drop k d) m

-- bytes beyond the end
pub no_byte : (s : List ℕ) (i : ℕ) → length s ≤ i → 0 ≡ number16 s i
no_byte s i h = rw (get_or-eq_default s 0 {n = i} h, get_or-eq_default s 0 {n = i + 1} (omega arith))

pub one_byte : (s : List ℕ) (i : ℕ) → length s ≡ i + 1 → get_or s i 0 ≡ number16 s i
one_byte s i h = let e : get_or s (i + 1) 0 ≡ 0 = get_or-eq_default s 0 {n = i + 1} (omega arith) in omega arith

module _ (s : List ℕ) where
  abbrev pub count_left : ℕ → ℕ
  count_left n = count_from s (4096 - n) n

  more_left : (n : ℕ) → n < 4096 → count_left n ≡ cond (is_column s n) (count_from s (4096 - (n + 1)) (n + 1)) n
  unfolding count_from
  more_left n h = let e : 4096 - n ≡ suc (4096 - (n + 1)) = omega arith in ap (λ (k : ℕ). count_from s k n) e

  pub count_next : (n : ℕ) → n < 4096 → column_place n + 9 ≤ length s → get_or s (column_place n) 0 ≡ 17 → count_left n ≡ count_left (n + 1)
  count_next n h a b = more_left n h ∙ rw (le-leb (column_place n + 9) (length s) a, eq-eqb (get_or s (column_place n) 0) 17 b)

  pub count_cut : (n : ℕ) → n < 4096 → length s < column_place n + 9 → count_left n ≡ n
  count_cut n h a = more_left n h ∙ rw (lt-leb (column_place n + 9) (length s) a)

  pub count_other : (n : ℕ) → n < 4096 → column_place n + 9 ≤ length s → (get_or s (column_place n) 0 ≡ 17 → ⊥) → count_left n ≡ n
  count_other n h a b = more_left n h ∙ rw (le-leb (column_place n + 9) (length s) a, ne_eqb (get_or s (column_place n) 0) 17 b)

  pub count_full : (n : ℕ) → 4096 ≤ n → count_left n ≡ n
  unfolding count_from
  count_full n h = let e : 4096 - n ≡ 0 = omega arith in ap (λ (k : ℕ). count_from s k n) e

  columns_most' : (n k : ℕ) → count_from s n k ≤ k + n
  unfolding count_from
  columns_most' zero k = omega arith
  columns_most' (suc n) k = go (is_column s k) (columns_most' n (k + 1))
    where
      go : (b : Bool) → count_from s n (k + 1) ≤ k + 1 + n → cond b (count_from s n (k + 1)) k ≤ k + suc n
      go true h = omega arith
      go false h = omega arith

  pub columns_most : columns s ≤ 4096
  columns_most = columns_most' 4096 0
