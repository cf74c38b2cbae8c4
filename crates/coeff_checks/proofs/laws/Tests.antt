-- The checks before work by numbers, as the code makes them.
use Rattle.std.specs.Prelude.{◌≡◌, refl, Bool, true, false, ◌&&◌, List, ℕ, ◌*◌, ◌≤◌, T, leb, eqb, length}
use Rattle.std.proofs.Common.{sym, subst, le-leb, eq-eqb}
use Rattle.layout.specs.Check.{is_layout}
use Rattle.refusal.specs.Answer.{gives, unless}
use Rattle.lent_check.specs.Calls.{check_of}
use Rattle.lent_sides.specs.Limits.{in_limits, lengths_fit as cells_fit}
use Rattle.coeff_checks.specs.Checks.{three_fit}
use Rattle.coeff_checks.specs.laws.Tests.{other_lengths_fit, passes, group_passes}

-- tests that hold together
pub two : (a b : Bool) → T (a && b) → T a × T b
two true false t = elim t [ ]
two false b t = elim t [ ]
two true true t = (tt, tt)

pub three : (a b c : Bool) → T (a && b && c) → T a × T b × T c
three true true false t = elim t [ ]
three true false c t = elim t [ ]
three false b c t = elim t [ ]
three true true true t = (tt, tt, tt)

pub four : (a b c d : Bool) → T (a && b && c && d) → T a × T b × T c × T d
four true true true false t = elim t [ ]
four true true false d t = elim t [ ]
four true false c d t = elim t [ ]
four false b c d t = elim t [ ]
four true true true true t = (tt, tt, tt, tt)

pub truth : (b : Bool) → b ≡ true → T b
truth b e = subst T (sym e) tt

-- the lengths alone, once the limits are met
pub other_lengths_are : (clusters presets cluster_map_length g0_length g1_length g2_length log_length n : ℕ) (read_fit : Bool) → clusters ≤ 16 → presets ≤ 256 → n ≤ 1024
    → other_lengths_fit clusters presets cluster_map_length g0_length g1_length g2_length log_length n read_fit ≡ read_fit && eqb cluster_map_length (495 * clusters * presets) && three_fit g0_length g1_length g2_length (64 * n) && leb (192 * n) log_length
other_lengths_are clusters presets cluster_map_length g0_length g1_length g2_length log_length n read_fit a b c = rw (le-leb clusters 16 a, le-leb presets 256 b, le-leb n 1024 c)

-- 18 alone, once sides and lengths fit
pub passes_is : (bw bh : ℕ) (kinds hf_mul : List ℕ) → in_limits 32 bw bh ≡ true → length kinds ≡ bh * bw → length hf_mul ≡ bh * bw → group_passes bw bh kinds hf_mul ≡ is_layout bw bh kinds hf_mul
unfolding check_of cells_fit
passes_is bw bh kinds hf_mul a k m = rw (a, eq-eqb (length kinds) (bh * bw) k, eq-eqb (length hf_mul) (bh * bw) m) (go (is_layout bw bh kinds hf_mul))
  where
    go : (b : Bool) → passes (unless 18 b (gives tt)) ≡ b
    go true = refl
    go false = refl
