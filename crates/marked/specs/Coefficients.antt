-- What M9 to M11 are lent.
use Rattle.std.specs.Prelude.{◌≡◌, List, [], ◌∷◌, ℕ, ◌+◌, ◌*◌, ◌%◌, ◌^◌, ◌≤◌, length, get_or, set}
use Rattle.coeff_call.specs.Call.{Lent, lent}
use Rattle.one_to_one.specs.Plain.{plain}

-- cell p of a grid gains v modulo 2^32
abbrev pub gains : List ℕ → ℕ → ℕ → List ℕ
gains g p v = set g p ((get_or g p 0 + v) % 2 ^ 32)

abbrev pub dct8 : (presets : ℕ) (map bytes symbols log g0 g1 g2 : List ℕ) → Lent
dct8 presets map bytes symbols log g0 g1 g2 = lent (plain 1 1 (2 ∷ []) (1 ∷ [])) presets map 0 bytes symbols log g0 g1 g2

abbrev pub dct16 : (map symbols log g0 g1 g2 : List ℕ) → Lent
dct16 map symbols log g0 g1 g2 = lent (plain 2 2 (6 ∷ 1 ∷ 1 ∷ 1 ∷ []) (1 ∷ 0 ∷ 0 ∷ 0 ∷ [])) 1 map 0 [] symbols log g0 g1 g2

-- a cluster map for so many presets of 15 clusters, a log and grids for so many blocks
pub record Room (presets blocks : ℕ) (map log g0 g1 g2 : List ℕ) : Type 0 where
  pub entries : length map ≡ 7425 * presets
  pub bytes : 192 * blocks ≤ length log
  pub cells0 : length g0 ≡ 64 * blocks
  pub cells1 : length g1 ≡ 64 * blocks
  pub cells2 : length g2 ≡ 64 * blocks
