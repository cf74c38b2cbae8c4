use mathlib.Core.Path.{ap}
use mathlib.Core.List.{List}
use Prim.Native.Nat.{ℕ}
use lib.ListN.{replicate}
use Rattle.context_record.specs.Record.{record_of}
use Rattle.context_call.specs.Call.{accepted, contexts_of}
use Rattle.context_call.proofs.judge.default_contexts.Goals as goal

pub returns : goal.returns
unfolding contexts_of
returns c =
    ap (λ (m : List ℕ). accepted c.args.at (record_of 15 (replicate 4 0) (replicate 45 0) (replicate 15 0) m)) c.fill.ensures
