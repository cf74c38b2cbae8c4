-- The coefficient call, outcome by outcome.
use Rattle.std.specs.Prelude.{◌≡◌, true, List, [], ℕ, zero, suc, ◌*◌, ◌<◌, ◌≤◌, length, get_or}
use Rattle.std.proofs.Common.{arith}
use borrow.Author.Tests.{lt-ltb, le-ltb}
use Rattle.refusal.specs.declared.Said.{Said}
use Rattle.refusal.specs.declared.Refusal.TheVariants.{BitsEnd, Preset}
use Rattle.refusal.specs.Said.{said}
use Rattle.refusal.specs.Answer.{refuses, passed}
use Rattle.bits.specs.Bits.{Value, Ended}
use Rattle.coeff_checks.specs.Checks.{blocks}
use Rattle.coeff_checks.proofs.laws.ChecksLaws as checks_laws
use Rattle.coeff_group.specs.Group.{PerChannel}
use Rattle.coeff_call.specs.Call.{Lent, all_lengths_fit, before_work, Passed, preset_bits, reading, outcome_of, refuse, call}

module _ (L : Lent) where
  pub checks_pass : Passed L → before_work L ≡ passed
  checks_pass =
      checks_laws.checks_pass L.pass_group L.presets L.shift (length L.cluster_map) (length L.log) (length (get_or L.grids 0 [])) (length (get_or L.grids 1 [])) (length (get_or L.grids 2 []))

  pub passed_by : before_work L ≡ passed → Passed L
  passed_by =
      checks_laws.passed_by L.pass_group L.presets L.shift (length L.cluster_map) (length L.log) (length (get_or L.grids 0 [])) (length (get_or L.grids 1 [])) (length (get_or L.grids 2 []))

  pub lengths_fit_lem : all_lengths_fit L ≡ true → checks_laws.Lengths L.pass_group L.presets (length L.cluster_map) (length L.log) (length (get_or L.grids 0 [])) (length (get_or L.grids 1 [])) (length (get_or L.grids 2 []))
  lengths_fit_lem = checks_laws.lengths_fit_lem L.pass_group L.presets (length L.cluster_map) (length L.log) (length (get_or L.grids 0 [])) (length (get_or L.grids 1 [])) (length (get_or L.grids 2 []))

  pub grids_fit : all_lengths_fit L ≡ true → (c : ℕ) → c < 3 → length (get_or L.grids c []) ≡ 64 * blocks L.pass_group
  grids_fit e zero h = (lengths_fit_lem e).grids.0
  grids_fit e (suc zero) h = (lengths_fit_lem e).grids.1
  grids_fit e (suc (suc zero)) h = (lengths_fit_lem e).grids.2
  grids_fit e (suc (suc (suc c))) h = absurd (omega arith)

  pub call_refused : (s : Said) → before_work L ≡ refuses s → call L ≡ refuse L s
  unfolding call
  call_refused s e = rw e

  module _ (p : before_work L ≡ passed) where
    pub call_bits : (at : ℕ) → preset_bits L ≡ Ended at → call L ≡ refuse L (said (BitsEnd at))
    unfolding call
    call_bits at g = rw (p, g)

    pub call_preset : (preset at : ℕ) → preset_bits L ≡ Value preset at → L.presets ≤ preset → call L ≡ refuse L (said (Preset at))
    unfolding call
    call_preset preset at g h = rw (p, g, le-ltb preset L.presets h)

    -- the group is read
    pub call_reads : (preset at : ℕ) → preset_bits L ≡ Value preset at → preset < L.presets → call L ≡ outcome_of (reading L preset)
    unfolding call
    call_reads preset at g h = rw (p, g, lt-ltb preset L.presets h)

-- other log and grids
abbrev pub with_out : Lent → List ℕ → PerChannel → Lent
with_out L log G = record { pass_group = L.pass_group; presets = L.presets; cluster_map = L.cluster_map; shift = L.shift; bytes = L.bytes; symbols = L.symbols; log = log; grids = G }

-- the checks look at log and grids only by their lengths
pub steady : (L : Lent) (log : List ℕ) (G : PerChannel) → length log ≡ length L.log
    → length (get_or G 0 []) ≡ length (get_or L.grids 0 []) → length (get_or G 1 []) ≡ length (get_or L.grids 1 []) → length (get_or G 2 []) ≡ length (get_or L.grids 2 [])
    → before_work (with_out L log G) ≡ before_work L
steady L log G l a b c = rw (l, a, b, c)
