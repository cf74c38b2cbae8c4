-- Each way through the coefficient call: refused before the first symbol, or the group is read.
use Rattle.std.specs.Prelude.{◌≡◌, Bool, true, false, List, ◌++◌, ℕ, ◌+◌, ltb, length}
use Rattle.std.proofs.Math.Path.{refl}
use Rattle.std.proofs.Common.{◌∙◌, arith, ltb-true, ltb-false}
use Rattle.std.proofs.lemmas.List.Edits.{sets}
use Rattle.refusal.specs.declared.Said.{Said}
use Rattle.refusal.specs.declared.Refusal.TheVariants.{BitsEnd, Preset}
use Rattle.refusal.specs.Said.{said}
use Rattle.bits.specs.Bits.{Read, Value, Ended}
use Rattle.order_store.specs.Store.{places_fit}
use Rattle.context_record.specs.Record.{fit}
use Rattle.refusal.specs.Answer.{Answer, gives, refuses, unless, passed}
use Rattle.coeff_group.specs.Group.{PerChannel, going, zero_rows}
use Rattle.coeff_group.proofs.laws.GroupLaws.{group_items_lem}
use Rattle.coeff_group.specs.PassGroup.{varblocks, items_of}
use Rattle.coeff_group.specs.Work.{clusters_of}
use Rattle.coeff_checks.specs.Checks.{sides_fit, parameters_fit, layout_fits}
use Rattle.coeff_checks.specs.Checks as checks
use Rattle.coeff_call.specs.Call.{Lent, all_lengths_fit, before_work, preset_map, reading, outcome_of, refuse, preset_bits}
use Rattle.coeff_call.specs.laws.CallLaws.{passed_by, call_refused, call_bits, call_preset, call_reads}
use Rattle.one_to_one.specs.Filling.{tells_read, relent}
use Rattle.coeff_group.specs.laws.Reads.{End, ends, stops, read_by, longer}
use Rattle.coeff_group.proofs.laws.Reads.{reads}
use Rattle.one_to_one.specs.laws.Ways.{Way, Did, answer_by, before, work}

-- the same refusal
pub same_said : (a b : Said) → ◌≡◌ {A = Answer ℕ} (refuses a) (refuses b) → a ≡ b
same_said a b e = cc

-- a refusal is no result
pub no_answer : (s : Said) (n : ℕ) → ◌≡◌ {A = Answer ℕ} (refuses s) (gives n) → ⊥
no_answer s n e = let z : ◌≡◌ {A = ℕ} 0 1 = cc in omega arith

-- what the checks refuse comes before the first symbol
abbrev Early : Answer Unit → Type 0
Early (gives u) = Unit
Early (refuses s) = tells_read s.number ≡ false

early_unless : (n : ℕ) (b : Bool) (next : Answer Unit) → tells_read n ≡ false → Early next → Early (unless n b next)
early_unless n true next t e = e
early_unless n false next t e = t

module _ (L : Lent) where
  early : Early (before_work L)
  unfolding checks.before_work
  early =
      early_unless 2 (sides_fit L.pass_group) _ refl
      (early_unless 11 (parameters_fit L.shift L.presets) _ refl
      (early_unless 12 (fit L.pass_group.contexts) _ refl
      (early_unless 1 (all_lengths_fit L) _ refl
      (early_unless 18 (layout_fits L.pass_group) _ refl
      (early_unless 13 (places_fit L.pass_group.store) passed refl tt)))))

  checks_same : (symbols log : List ℕ) → length log ≡ length L.log → before_work (relent L symbols log) ≡ before_work L
  checks_same symbols log e = rw e

  module _ (p : before_work L ≡ passed) where
    by_number : (preset at : ℕ) (t : Bool) → preset_bits L ≡ Value preset at → ltb preset L.presets ≡ t → Way L
    by_number preset at true g h = work (passed_by L p) preset (λ symbols log k. call_reads (relent L symbols log) (checks_same symbols log k ∙ p) preset at g (ltb-true preset L.presets h))
    by_number preset at false g h =
        before (said (Preset at)) refl
        (λ symbols log k. call_preset (relent L symbols log) (checks_same symbols log k ∙ p) preset at g (ltb-false preset L.presets h))

    by_preset : (r : Read ℕ) → preset_bits L ≡ r → Way L
    by_preset (Ended at) g =
        before (said (BitsEnd at)) refl (λ symbols log k. call_bits (relent L symbols log) (checks_same symbols log k ∙ p) at g)
    by_preset (Value preset at) g = by_number preset at (ltb preset L.presets) g refl

  by_checks : (a : Answer Unit) → before_work L ≡ a → Early a → Way L
  by_checks (gives u) p e = by_preset p (preset_bits L) refl
  by_checks (refuses s) p e = before s e (λ symbols log k. call_refused (relent L symbols log) s (checks_same symbols log k ∙ p))

  pub way : Way L
  way = by_checks (before_work L) refl early

from_zero : (e : End) (k : ℕ) (log : List ℕ) (G : PerChannel) → read_by e (0 + k) log G ≡ read_by e k log G
from_zero e k log G = let z : 0 + k ≡ k = omega arith in rw z

pub did : (L : Lent) (preset : ℕ) → Did L preset
unfolding reading
did L preset =
    let P = L.pass_group in
    let r = reads (clusters_of P) (preset_map L preset) (items_of P (varblocks P)) L.symbols zero_rows in
    record {
      clusters = r.clusters;
      dss = r.dss;
      end = r.end;
      is = λ log. group_items_lem L.shift (clusters_of P) (preset_map L preset) P (varblocks P) (going L.symbols 0 log L.grids zero_rows) ∙ r.is L.shift 0 log L.grids ∙ from_zero r.end (length r.clusters) (sets log 0 r.clusters) _;
      further = λ h vs.
          group_items_lem L.shift (clusters_of P) (preset_map L preset) P (varblocks P) (going (L.symbols ++ vs) 0 L.log L.grids zero_rows) ∙ r.further h vs L.shift 0 L.log L.grids ∙ from_zero (longer vs r.end) (length r.clusters) (sets L.log 0 r.clusters) _;
      few = r.few;
      tells = r.tells;
    }

pub outcome_by : (e : End) (at : ℕ) (log : List ℕ) (G : PerChannel) → outcome_of (read_by e at log G) ≡ record { answer = answer_by e at; log = log; grids = G }
outcome_by (ends us rows) at log G = refl
outcome_by (stops why) at log G = refl
