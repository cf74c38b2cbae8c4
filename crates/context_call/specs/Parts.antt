-- The context call's answer and record, with lists and map in lent memory.
use Rattle.std.specs.Prelude.{List, [], ◌∷◌, ℕ, Result, Ok, Err}
use Rattle.refusal.specs.declared.Refusal.{Refusal}
use Rattle.refusal.specs.Said.{said}
use Rattle.refusal.specs.declared.Said.{Said}
use Rattle.refusal.specs.Answer.{Answer, refuses, answered_by}
use Rattle.context_record.specs.declared.HfBlockContext.{HfBlockContext}
use Rattle.context_call.specs.declared.ContextParts.{ContextParts}
use Rattle.context_record.specs.Record.{record_of}
use Rattle.context_call.specs.Call.{Outcome, accepted}

-- accepted: the record; beside a refusal lists and map hold what they held before
abbrev pub kept_by : Answer ℕ → HfBlockContext → List ℕ → List ℕ → List ℕ → HfBlockContext
kept_by a contexts lf qf map = answered_by a (λ (s : Said). record_of contexts.num_block_clusters contexts.lengths lf qf map) (λ (at : ℕ). contexts)

abbrev pub or_kept : Outcome → List ℕ → List ℕ → List ℕ → Outcome
or_kept o lf qf map = record { answer = o.answer; contexts = kept_by o.answer o.contexts lf qf map }

-- what the code hands back, with what the places of lists and map hold; a refusal hands back no count and no lengths
abbrev pub with_lists : Result ContextParts Refusal → List ℕ → List ℕ → List ℕ → Outcome
with_lists (Ok p) lf qf map = accepted p.bits_read (record_of p.num_block_clusters p.lengths lf qf map)
with_lists (Err why) lf qf map = record { answer = refuses (said why); contexts = record_of 0 (0 ∷ 0 ∷ 0 ∷ 0 ∷ []) lf qf map }
