-- The checks before work (document 01, Coefficients and Refused): 2, 11, 12, 1, 18, stored places (13).
-- Of the cluster map, the log and the grids they look at the lengths alone.
use Rattle.std.specs.Prelude.{◌≡◌, Bool, true, cond, ◌&&◌, ℕ, ◌*◌, leb, eqb, length}
use Rattle.refusal.specs.Answer.{Answer, unless, passed}
use Rattle.layout.specs.Check.{is_layout}
use Rattle.lent_sides.specs.Limits.{in_limits}
use Rattle.order_store.specs.Store.{PLACES, places_fit}
use Rattle.context_record.specs.Record.{fit}
use Rattle.coeff_group.specs.PassGroup.{PassGroup}
use Rattle.coeff_group.specs.Work.{clusters_of}

abbrev pub blocks : PassGroup → ℕ
blocks P = P.bh * P.bw

abbrev pub sides_fit : PassGroup → Bool
sides_fit P = in_limits 32 P.bw P.bh

abbrev pub parameters_fit : ℕ → ℕ → Bool
parameters_fit shift presets = leb shift 3 && leb presets 256

-- three lengths of n
abbrev pub three_fit : ℕ → ℕ → ℕ → ℕ → Bool
three_fit a b c n = eqb a n && eqb b n && eqb c n

-- the LF grids, if there are any
abbrev pub lf_fits : PassGroup → Bool
lf_fits P = cond P.lf_there (three_fit (length P.lf0) (length P.lf1) (length P.lf2) (blocks P)) true

abbrev pub read_fits : PassGroup → Bool
read_fits P = eqb (length P.kinds) (blocks P) && eqb (length P.hf_mul) (blocks P) && lf_fits P && eqb (length P.store) (2 * PLACES)

-- with the lengths of the cluster map, the log and the three grids
abbrev pub all_lengths_fit : PassGroup → (presets cluster_map_length log_length g0_length g1_length g2_length : ℕ) → Bool
all_lengths_fit P presets cluster_map_length log_length g0_length g1_length g2_length =
    read_fits P
    && eqb cluster_map_length (495 * clusters_of P * presets)
    && three_fit g0_length g1_length g2_length (64 * blocks P)
    && leb (192 * blocks P) log_length

-- 18: what passes is a layout (crate layout, Theorems, layout-iff)
abbrev pub layout_fits : PassGroup → Bool
layout_fits P = is_layout P.bw P.bh P.kinds P.hf_mul

unfoldable pub before_work : PassGroup → (presets shift cluster_map_length log_length g0_length g1_length g2_length : ℕ) → Answer Unit
before_work P presets shift cluster_map_length log_length g0_length g1_length g2_length =
    unless 2 (sides_fit P)
    (unless 11 (parameters_fit shift presets)
    (unless 12 (fit P.contexts)
    (unless 1 (all_lengths_fit P presets cluster_map_length log_length g0_length g1_length g2_length)
    (unless 18 (layout_fits P)
    (unless 13 (places_fit P.store) passed)))))

-- what they leave
pub record Passed (P : PassGroup) (presets shift cluster_map_length log_length g0_length g1_length g2_length : ℕ) : Type 0 where
  pub sides : sides_fit P ≡ true
  pub parameters : parameters_fit shift presets ≡ true
  pub contexts : fit P.contexts ≡ true
  pub lengths : all_lengths_fit P presets cluster_map_length log_length g0_length g1_length g2_length ≡ true
  pub layout : layout_fits P ≡ true
  pub places : places_fit P.store ≡ true
