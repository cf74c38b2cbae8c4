-- Laws of written lists, one element at a time.
use Rattle.std.specs.Prelude.{◌≡◌, List, [], ◌∷◌, ◌++◌, ℕ, zero, suc, ◌+◌, ◌<◌, ◌≤◌, length, drop, set}
use Rattle.std.proofs.Common.{ap, sym, ◌∙◌, not-suc-le-zero, le_of_suc-le-suc, arith, add-one, length-take}
use Rattle.io.specs.Counts.{IsPrefixLen}
use Rattle.laws.specs.Lists.{tabulate}

module _ (f : ℕ → ℕ) where
  -- one element more is written
  put_suc : (n o : ℕ) (d : List ℕ) → n < length d → set (tabulate f n o ++ drop n d) n (f (o + n)) ≡ tabulate f (suc n) o ++ drop (suc n) d
  put_suc n o [] l = absurd (not-suc-le-zero l)
  put_suc zero o (x ∷ d) l = let e : o + 0 ≡ o = omega arith in rw e
  put_suc (suc n) o (x ∷ d) l =
      let e : o + suc n ≡ o + 1 + n = omega arith in
      ap (λ (t : List ℕ). f o ∷ t) (ap (λ (k : ℕ). set (tabulate f n (o + 1) ++ drop n d) n (f k)) e ∙ put_suc n (o + 1) d (le_of_suc-le-suc l))

  pub put_more : (n : ℕ) (d : List ℕ) → n < length d → set (tabulate f n 0 ++ drop n d) n (f n) ≡ tabulate f (n + 1) 0 ++ drop (n + 1) d
  put_more n d l = let e : 0 + n ≡ n = omega arith in rw add-one (ap (λ (k : ℕ). set (tabulate f n 0 ++ drop n d) n (f k)) (sym e) ∙ put_suc n 0 d l)

-- What was written lies at the start.
pub counts_written : (n : ℕ) (last : List ℕ) → n ≤ length last → IsPrefixLen n last
counts_written n last h = (h, simp length-take (omega arith))
