-- The context call (document 01, Block contexts and Refused).
use Rattle.std.specs.Prelude.{cond, List, [], ◌∷◌, ◌++◌, ℕ, ◌*◌, eqb, leb, length}
use Rattle.refusal.specs.declared.Refusal.TheVariants.{BitsEnd}
use Rattle.refusal.specs.declared.Said.{Said}
use Rattle.refusal.specs.Said.{said}
use Rattle.refusal.specs.Answer.{Answer, gives, refuses, unless, passed, answered_by, answered}
use Rattle.bits.specs.Bits.{Read, Value, Ended, read_bits}
use Rattle.context_record.specs.declared.HfBlockContext.{HfBlockContext}
use Rattle.context_record.specs.Record.{record_of, bsize_of}
use Rattle.bytes_below.specs.Below.{bytes_below}
use Rattle.context_call.specs.declared.ContextResult.{ContextResult}
use Rattle.context_thresholds.specs.Thresholds.{Lists, lists_of, read_lists, pad}

abbrev pub lengths_of : Lists → List ℕ
lengths_of l = length l.lf_thresholds0 ∷ length l.lf_thresholds1 ∷ length l.lf_thresholds2 ∷ length l.qf_thresholds ∷ []

-- the record of a number of clusters, lists and a context map
unfoldable pub contexts_of : ℕ → Lists → List ℕ → HfBlockContext
contexts_of clusters l map =
    record_of clusters (lengths_of l) (pad 15 l.lf_thresholds0 ++ (pad 15 l.lf_thresholds1 ++ pad 15 l.lf_thresholds2)) (pad 15 l.qf_thresholds) (pad 2496 map)

abbrev pub no_lists : Lists
no_lists = lists_of [] [] [] []

-- the 39-entry map of `lf.rs`
abbrev pub DEFAULT_MAP : List ℕ
DEFAULT_MAP =
    0 ∷ 1 ∷ 2 ∷ 2 ∷ 3 ∷ 3 ∷ 4 ∷ 5 ∷ 6 ∷ 6 ∷ 6 ∷ 6 ∷ 6 ∷ 7 ∷ 8 ∷ 9 ∷ 9 ∷ 10 ∷ 11 ∷ 12 ∷ 13 ∷ 14 ∷ 14 ∷ 14 ∷ 14 ∷ 14 ∷ 7 ∷ 8 ∷ 9 ∷ 9 ∷ 10 ∷ 11 ∷ 12 ∷ 13 ∷ 14 ∷ 14 ∷ 14 ∷ 14 ∷ 14 ∷ []

-- the answer, and the record handed back
pub record Outcome : Type 0 where
  pub answer : Answer ℕ
  pub contexts : HfBlockContext

-- what the code hands back
abbrev pub leaves : ContextResult → Outcome
leaves r = record { answer = answered r.answer; contexts = r.contexts }

abbrev pub accepted : ℕ → HfBlockContext → Outcome
accepted at contexts = record { answer = gives at; contexts = contexts }

-- all zero beside a refusal
abbrev pub refused : Said → Outcome
refused s = record { answer = refuses s; contexts = contexts_of 0 no_lists [] }

-- all bits are read: bsize (12), map length (1), clusters (12), map bytes (12)
unfoldable pub judged : ℕ → List ℕ → List ℕ → Answer Unit
judged clusters map lengths =
    unless 12 (leb (bsize_of lengths) 64)
    (unless 1 (eqb (length map) (39 * bsize_of lengths))
    (unless 12 (leb 1 clusters)
    (unless 12 (leb clusters 16)
    (unless 12 (bytes_below clusters map) passed))))

abbrev pub judged_as : ℕ → List ℕ → List ℕ → HfBlockContext → ℕ → Outcome
judged_as clusters map lengths contexts at = answered_by (judged clusters map lengths) refused (λ (u : Unit). accepted at contexts)

abbrev pub judged_lists : ℕ → List ℕ → Lists → ℕ → Outcome
judged_lists clusters map l at = judged_as clusters map (lengths_of l) (contexts_of clusters l map) at

abbrev pub or_ended : {A : Type 0} → Read A → (A → ℕ → Outcome) → Outcome
or_ended (Value l at) k = k l at
or_ended (Ended at) k = refused (said (BitsEnd at))

-- first bit 1: 15 clusters, the 39-entry map, no thresholds
abbrev pub by_first : List ℕ → ℕ → List ℕ → ℕ → ℕ → Outcome
by_first bytes clusters map first at =
    cond (eqb first 1) (accepted at (contexts_of 15 no_lists DEFAULT_MAP)) (or_ended (read_lists bytes at) (judged_lists clusters map))

unfoldable pub parsed : List ℕ → ℕ → List ℕ → Outcome
parsed bytes clusters map = or_ended (read_bits bytes 0 1) (by_first bytes clusters map)
