-- Lent lengths that fit.
use Rattle.std.specs.Prelude.{◌≡◌, true, ◌&&◌, ℕ, T, eqb}
use Rattle.std.proofs.Common.{eqb→eq}
use Rattle.std.specs.Float.Ieee.Fits.{and_l, and_r}
use Rattle.layout_sizes.specs.Blocks.{counts_fit}
use Rattle.layout_sizes.specs.laws.Counts.{Counts}

pub counts : (types muls sharpness kinds hf_mul sigma n : ℕ) → counts_fit types muls sharpness kinds hf_mul sigma n ≡ true → Counts types muls sharpness kinds hf_mul sigma n
counts types muls sharpness kinds hf_mul sigma n e =
    let t : T (counts_fit types muls sharpness kinds hf_mul sigma n) = rw e tt in
    let a = and_l (eqb muls types && eqb sharpness n && eqb kinds n && eqb hf_mul n) (eqb sigma n) t in
    let b = and_l (eqb muls types && eqb sharpness n && eqb kinds n) (eqb hf_mul n) a in
    let c = and_l (eqb muls types && eqb sharpness n) (eqb kinds n) b in
    record {
      muls_are = eqb→eq muls types (and_l (eqb muls types) (eqb sharpness n) c);
      sharpness_are = eqb→eq sharpness n (and_r (eqb muls types) (eqb sharpness n) c);
      kinds_are = eqb→eq kinds n (and_r (eqb muls types && eqb sharpness n) (eqb kinds n) b);
      hf_mul_are = eqb→eq hf_mul n (and_r (eqb muls types && eqb sharpness n && eqb kinds n) (eqb hf_mul n) a);
      sigma_are = eqb→eq sigma n (and_r (eqb muls types && eqb sharpness n && eqb kinds n && eqb hf_mul n) (eqb sigma n) t);
    }
