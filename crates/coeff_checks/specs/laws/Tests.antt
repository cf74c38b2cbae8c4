-- The checks before work by numbers, as the code makes them.
use Rattle.std.specs.Prelude.{Bool, true, false, cond, ◌&&◌, List, ℕ, ◌*◌, leb, eqb}
use Rattle.refusal.specs.Answer.{Answer, gives, refuses}
use Rattle.lent_check.specs.Calls.{check_of}
use Rattle.order_store.specs.Store.{PLACES}
use Rattle.coeff_checks.specs.Checks.{three_fit}

abbrev pub lf_lengths_fit : Bool → ℕ → ℕ → ℕ → ℕ → Bool
lf_lengths_fit there lf0_length lf1_length lf2_length n = cond there (three_fit lf0_length lf1_length lf2_length n) true

abbrev pub read_lengths_fit : (kinds_length hf_mul_length : ℕ) (there : Bool) (lf0_length lf1_length lf2_length store_length n : ℕ) → Bool
read_lengths_fit kinds_length hf_mul_length there lf0_length lf1_length lf2_length store_length n = eqb kinds_length n && eqb hf_mul_length n && lf_lengths_fit there lf0_length lf1_length lf2_length n && eqb store_length (2 * PLACES)

-- within the limits that are tested before lengths
abbrev pub other_lengths_fit : (clusters presets cluster_map_length g0_length g1_length g2_length log_length n : ℕ) → Bool → Bool
other_lengths_fit clusters presets cluster_map_length g0_length g1_length g2_length log_length n read_fit =
    leb clusters 16
    && leb presets 256
    && leb n 1024
    && read_fit
    && eqb cluster_map_length (495 * clusters * presets)
    && three_fit g0_length g1_length g2_length (64 * n)
    && leb (192 * n) log_length

-- the check of a group lets it pass
abbrev pub passes : Answer Unit → Bool
passes (gives u) = true
passes (refuses s) = false

abbrev pub group_passes : ℕ → ℕ → List ℕ → List ℕ → Bool
group_passes bw bh kinds hf_mul = passes (check_of 32 bw bh kinds hf_mul)
