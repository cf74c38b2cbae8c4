-- The coefficient call (document 01, Coefficients and Refused; document 02, No. 8).
use Rattle.std.specs.Prelude.{Bool, List, [], ◌∷◌, ℕ, length, get_or, Result}
use Rattle.refusal.specs.declared.Refusal.{Refusal}
use Rattle.refusal.specs.declared.Said.{Said}
use Rattle.refusal.specs.Said.{said}
use Rattle.refusal.specs.Answer.{Answer, gives, refuses, answered, answered_by}
use Rattle.bits.specs.Bits.{Read, read_bits}
use Rattle.coded_numbers.specs.Exponent.{exponent}
use Rattle.coeff_group.specs.PassGroup.{PassGroup}
use Rattle.coeff_group.specs.Group.{PerChannel, Reading, going, refused}
use Rattle.coeff_group.specs.Work.{preset_map_of, reading_by}
use Rattle.coeff_checks.specs.Checks as checks
use Rattle.coeff_preset.specs.Preset.{preset_of}

-- what is lent
pub record Lent : Type 0 where
  pub pass_group : PassGroup
  pub presets : ℕ
  pub cluster_map : List ℕ
  pub shift : ℕ
  -- the bytes of the preset number
  pub bytes : List ℕ
  pub symbols : List ℕ
  pub log : List ℕ
  pub grids : PerChannel

abbrev pub lent : PassGroup → (presets : ℕ) (cluster_map : List ℕ) (shift : ℕ) (bytes symbols log g0 g1 g2 : List ℕ) → Lent
lent pass_group presets cluster_map shift bytes symbols log g0 g1 g2 =
    record {
      pass_group = pass_group;
      presets = presets;
      cluster_map = cluster_map;
      shift = shift;
      bytes = bytes;
      symbols = symbols;
      log = log;
      grids = g0 ∷ g1 ∷ g2 ∷ [];
    }

-- the answer, and what log and grids hold then
pub record Outcome : Type 0 where
  pub answer : Answer ℕ
  pub log : List ℕ
  pub grids : PerChannel

-- what the code answers, symbols read or a refusal, beside them
abbrev pub leaves : Result ℕ Refusal → (log g0 g1 g2 : List ℕ) → Outcome
leaves r log g0 g1 g2 = record { answer = answered r; log = log; grids = g0 ∷ g1 ∷ g2 ∷ [] }

-- Checks before work: of log and grids the lengths alone (CallLaws, steady).
abbrev pub all_lengths_fit : Lent → Bool
all_lengths_fit L =
    checks.all_lengths_fit L.pass_group L.presets (length L.cluster_map) (length L.log) (length (get_or L.grids 0 [])) (length (get_or L.grids 1 [])) (length (get_or L.grids 2 []))

abbrev pub before_work : Lent → Answer Unit
before_work L =
    checks.before_work L.pass_group L.presets L.shift (length L.cluster_map) (length L.log) (length (get_or L.grids 0 [])) (length (get_or L.grids 1 [])) (length (get_or L.grids 2 []))

-- what they leave
abbrev pub Passed : Lent → Type 0
Passed L =
    checks.Passed L.pass_group L.presets L.shift (length L.cluster_map) (length L.log) (length (get_or L.grids 0 [])) (length (get_or L.grids 1 [])) (length (get_or L.grids 2 []))

-- The work.
-- the preset's part of the cluster map
abbrev pub preset_map : Lent → ℕ → List ℕ
preset_map L preset = preset_map_of L.pass_group L.cluster_map preset

unfoldable pub reading : Lent → ℕ → Reading
reading L preset = reading_by L.pass_group L.cluster_map L.shift L.symbols L.log L.grids preset

-- symbols read; 15 to 17 and 24 keep what was added and logged
abbrev pub outcome_of : Reading → Outcome
outcome_of (going us at log grids rows) = record { answer = gives at; log = log; grids = grids }
outcome_of (refused why at log grids) = record { answer = refuses (said (why at)); log = log; grids = grids }

-- a refusal that writes nothing
abbrev pub refuse : Lent → Said → Outcome
refuse L s = record { answer = refuses s; log = L.log; grids = L.grids }

abbrev pub preset_bits : Lent → Read ℕ
preset_bits L = read_bits L.bytes 0 (exponent L.presets)

abbrev pub with_preset : Lent → Read ℕ → Outcome
with_preset L bits = answered_by (preset_of L.presets bits) (refuse L) (λ preset. outcome_of (reading L preset))

unfoldable pub call : Lent → Outcome
call L = answered_by (before_work L) (refuse L) (λ u. with_preset L (preset_bits L))
