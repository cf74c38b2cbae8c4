-- What examples open to be computed: a proof that says `unfolding items_compute` opens all that its line names.
use Rattle.std.specs.Prelude.{Bool, List, [], ◌∷◌, ℕ, zero, suc, ◌^◌, ◌<◌, T, ltb, get_or}
use Rattle.std.proofs.Common.{arith, ltb→lt}
use Rattle.std.specs.Float.Ieee.Fits.{and_l, and_r}
use Rattle.laws.specs.Tables.{every}
use Rattle.coeff_group.specs.Group.{PerChannel}
use Rattle.coeff_group.specs.Sequence.{in_cell}

-- numbers below m, by a test
pub below : (m : ℕ) → 0 < m → (l : List ℕ) → T (every (λ (v : ℕ). ltb v m) l) → (i : ℕ) → get_or l i 0 < m
below m z [] t i = z
below m z (v ∷ l) t zero = ltb→lt v m (and_l (ltb v m) (every (λ (v : ℕ). ltb v m) l) t)
below m z (v ∷ l) t (suc i) = below m z l (and_r (ltb v m) (every (λ (v : ℕ). ltb v m) l) t) i

abbrev small : List ℕ → Bool
small g = every (λ (v : ℕ). ltb v (2 ^ 32)) g

pub cells_below : (G : PerChannel) → T (every small G) → (c p : ℕ) → in_cell G c p < 2 ^ 32
cells_below [] t c p = omega arith
cells_below (g ∷ G) t zero p = below (2 ^ 32) (omega arith) g (and_l (small g) (every small G) t) p
cells_below (g ∷ G) t (suc c) p = cells_below G (and_r (small g) (every small G) t) c p
