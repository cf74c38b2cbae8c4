-- A context record as it is lent and handed back: lists in arrays, with their lengths (document 01, Block contexts).
use Rattle.std.specs.Prelude.{ℕ, ◌*◌, List, take, drop, slice_index}
use Rattle.context_record.specs.declared.HfBlockContext.{HfBlockContext}
use Rattle.context_index.specs.Contexts.{Contexts}

-- the LF list of channel c, of n thresholds: the first of its 15 elements
abbrev pub lf_list : List ℕ → ℕ → ℕ → List ℕ
lf_list lf_thresholds c n = take n (take 15 (drop (15 * c) lf_thresholds))

-- by the lengths of the LF lists of channels 0, 1, 2 and of the qf list, the LF and qf thresholds, and the context map
abbrev pub contexts_by : List ℕ → List ℕ → List ℕ → List ℕ → Contexts
contexts_by lengths lf_thresholds qf_thresholds context_map =
    record {
      lf_thresholds0 = lf_list lf_thresholds 0 (slice_index lengths 0);
      lf_thresholds1 = lf_list lf_thresholds 1 (slice_index lengths 1);
      lf_thresholds2 = lf_list lf_thresholds 2 (slice_index lengths 2);
      qf_thresholds = take (slice_index lengths 3) qf_thresholds;
      context_map = context_map;
    }

-- what a record says
abbrev pub in_use : HfBlockContext → Contexts
in_use R = contexts_by R.lengths R.lf_thresholds R.qf_thresholds R.block_ctx_map
