-- A context record as it is lent, and when it is fit (document 01, Block contexts).
use Rattle.std.specs.Prelude.{Bool, ◌&&◌, List, ℕ, ◌+◌, ◌*◌, leb, get_or, take}
use Rattle.laws.specs.Tables.{every}
use Rattle.bytes_below.specs.Below.{bytes_below}
use Rattle.context_record.specs.declared.HfBlockContext.{HfBlockContext}

abbrev pub record_of : (clusters : ℕ) (lengths lf_thresholds qf_thresholds map : List ℕ) → HfBlockContext
record_of clusters lengths lf_thresholds qf_thresholds map =
    record {
      num_block_clusters = clusters;
      lengths = lengths;
      lf_thresholds = lf_thresholds;
      qf_thresholds = qf_thresholds;
      block_ctx_map = map;
    }

-- bsize: the product of the four (length + 1)
unfoldable pub bsize_of : List ℕ → ℕ
bsize_of lengths =
    (get_or lengths 0 0 + 1) * (get_or lengths 1 0 + 1) * (get_or lengths 2 0 + 1) * (get_or lengths 3 0 + 1)

-- a qf threshold: 1 to 300
abbrev pub qf_fit : ℕ → Bool
qf_fit v = leb 1 v && leb v 300

-- Not refused with 12. Elements behind a list's length, and map bytes from 39 × bsize on, are not looked at.
unfoldable pub fit_of : ℕ → List ℕ → List ℕ → List ℕ → Bool
fit_of clusters lengths qf_thresholds map =
    leb (get_or lengths 0 0) 15
    && leb (get_or lengths 1 0) 15
    && leb (get_or lengths 2 0) 15
    && leb (get_or lengths 3 0) 15
    && leb (bsize_of lengths) 64
    && leb 1 clusters
    && leb clusters 16
    && every qf_fit (take (get_or lengths 3 0) qf_thresholds)
    && bytes_below clusters (take (39 * bsize_of lengths) map)

abbrev pub fit : HfBlockContext → Bool
fit R = fit_of R.num_block_clusters R.lengths R.qf_thresholds R.block_ctx_map
