-- The work of the coefficient call: a group read with a preset's part of the cluster map (document 01, Coefficients).
use Rattle.std.specs.Prelude.{List, ℕ, ◌*◌, take, drop}
use Rattle.coeff_group.specs.PassGroup.{PassGroup, varblocks}
use Rattle.coeff_group.specs.Group.{PerChannel, zero_rows, Reading, going, read_group}

abbrev pub clusters_of : PassGroup → ℕ
clusters_of P = P.contexts.num_block_clusters

-- preset n's part of the cluster map
abbrev pub preset_map_of : PassGroup → List ℕ → ℕ → List ℕ
preset_map_of P cluster_map n = take (495 * clusters_of P) (drop (495 * clusters_of P * n) cluster_map)

abbrev pub reading_by : PassGroup → (cluster_map : List ℕ) (shift : ℕ) (symbols log : List ℕ) → PerChannel → ℕ → Reading
reading_by P cluster_map shift symbols log G n = read_group shift (clusters_of P) (preset_map_of P cluster_map n) P (varblocks P) (going symbols 0 log G zero_rows)
