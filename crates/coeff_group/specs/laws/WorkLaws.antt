-- A preset's part of the cluster map as it is handed on.
use Rattle.std.specs.Prelude.{◌≡◌, ℕ, ◌+◌, ◌*◌, ◌<◌, ◌≤◌}
use Rattle.coeff_group.specs.PassGroup.{PassGroup}
use Rattle.coeff_group.specs.laws.Due.{GroupReady}
use Rattle.coeff_group.specs.Work.{clusters_of}

-- what the work asks for
pub record WorkReady (P : PassGroup) (cluster_map shift log n : ℕ) : Type 0 where
  pub clusters : clusters_of P ≤ 16
  pub part : 495 * clusters_of P * n + 495 * clusters_of P ≤ cluster_map
  pub number : n < 256
  pub ready : (m : ℕ) → m ≡ 495 * clusters_of P → GroupReady P (clusters_of P) m shift log
