-- A varblock placed, by what the scan answers and leaves.
use Rattle.std.specs.Prelude.{◌≡◌, refl, List, ℕ, ◌+◌, ◌*◌, set, Float, Option, Result, Ok, Err}
use Rattle.std.proofs.Common.{ap, ◌∙◌, subst}
use Rattle.layout_filter.specs.declared.ScaledMultiplier.{ScaledMultiplier}
use Rattle.layout_filter.specs.declared.DividedMultiplier.{DividedMultiplier}
use Rattle.layout_filter.specs.Strength.{divided_by}
use Rattle.layout_placing.specs.Scan.{Scan, Taking, scan}
use Rattle.layout_placing.specs.Reading.{Job, Placed, placed, place, visit}
use Rattle.layout_reading.specs.declared.scan.CellFault.{CellFault}
use Rattle.layout_reading.specs.declared.scan.CellFault.TheVariants.{Outside, Overlap, Sharpness}
use Rattle.layout_reading.specs.declared.column.Stop.{Stop}
use Rattle.layout_reading.specs.laws.Scan.{scanned, refusal_at}
use Rattle.layout_reading.specs.laws.Outcome.{stepped}

module _ (bw bh : ℕ) (filter : Option ScaledMultiplier) (lookups : List Float) (sharpness : List ℕ) (kind h w n x y : ℕ) (p : Placed) where
  left : (f : CellFault) (k s k' m' s' : List ℕ) → stepped (Err (record { placed = p.used; why = refusal_at f x y })) k' m' s' ≡ placed bw kind h x y p (scanned (Err f) k s)
  left (Outside cx cy) k s k' m' s' = refl
  left (Overlap cx cy) k s k' m' s' = refl
  left (Sharpness cx cy) k s k' m' s' = refl

  -- what the scan of the column's rectangle answered and left
  module _ (f : Result Unit CellFault) (divided : Option DividedMultiplier) (k s : List ℕ) (q : divided ≡ divided_by filter h)
      (e : scanned f k s ≡ scan bw bh divided lookups sharpness x y w n (Taking p.kinds p.sigma)) where
    by_scan : placed bw kind h x y p (scanned f k s) ≡ place bw bh filter lookups sharpness kind h w n x y p
    unfolding place
    by_scan = ap (λ (z : Scan). placed bw kind h x y p z) (e ∙ ap (λ (z : Option DividedMultiplier). scan bw bh z lookups sharpness x y w n (Taking p.kinds p.sigma)) q)

    pub place_left : (g : CellFault) → f ≡ Err g → (m : List ℕ)
        → stepped (Err (record { placed = p.used; why = refusal_at g x y })) k m s ≡ place bw bh filter lookups sharpness kind h w n x y p
    place_left g r m = left g k s k m s ∙ subst (λ (z : Result Unit CellFault). placed bw kind h x y p (scanned z k s) ≡ place bw bh filter lookups sharpness kind h w n x y p) r by_scan

    pub place_taken : (u : Unit) → f ≡ Ok u
        → stepped (Ok (p.used + 1)) (set k (y * bw + x) kind) (set p.hf_mul (y * bw + x) h) s ≡ place bw bh filter lookups sharpness kind h w n x y p
    place_taken u r = subst (λ (z : Result Unit CellFault). placed bw kind h x y p (scanned z k s) ≡ place bw bh filter lookups sharpness kind h w n x y p) r by_scan

-- a reading that was stopped stays so
pub stop_stays : (J : Job) (s : Stop) (k m g : List ℕ) (a b : ℕ) → visit J a b (stepped (Err s) k m g) ≡ stepped (Err s) k m g
stop_stays J s k m g a b = refl
