-- A column that is refused at a block: with 4 to 10 there, the columns placed told, and with 5 only if its type is unknown.
use Rattle.std.specs.Prelude.{◌≡◌, Bool, cond, ◌&&◌, List, ℕ, ◌+◌, ◌%◌, ◌≤◌, ltb, length, Float, Option}
use Rattle.std.proofs.Math.Path.{refl}
use Rattle.std.proofs.Math.Bool.{true, false}
use native.Mathlib.Omega.{arith}
use Rattle.std.proofs.Math.Dec.{leb}
use borrow.Author.Tests.{ltb-true, ltb-false}
use Rattle.refusal.specs.declared.Said.{Said}
use Rattle.refusal.specs.Answer.{Answer, unless, passed, answered_by}
use Rattle.dct_select.specs.Transforms.{COUNT, wide, high}
use Rattle.layout.proofs.laws.RowByRow.{forward}
use Rattle.layout.specs.Grid.{block_at}
use Rattle.layout_filter.specs.declared.DividedMultiplier.{DividedMultiplier}
use Rattle.layout_filter.specs.Strength.{divided_by}
use Rattle.layout_column.specs.Columns.{positive}
use Rattle.layout_placing.specs.Scan.{Scan, Taking, Left, is_on, take_cell, scan}
use Rattle.layout_placing.specs.Reading.{Job, Placed, Placing, Going, Stopped, stop_at, placed, place, place_in, next_type, next_hf_mul, column}
use Rattle.layout_accepted.specs.Refused.{UnknownNext}
use Rattle.layout_accepted.specs.laws.Stops.{LeftWell}

cond_left : (b : Bool) (s t : Scan) → LeftWell s → LeftWell t → LeftWell (cond b s t)
cond_left true s t p q = p
cond_left false s t p q = q

module _ (bw bh : ℕ) (filter : Option DividedMultiplier) (lookups : List Float) (sharpness : List ℕ) where
  cell_left : (cx cy : ℕ) (s : Scan) → LeftWell s → LeftWell (take_cell bw bh filter lookups sharpness cx cy s)
  unfolding LeftWell take_cell
  cell_left cx cy (Left n a b) p = p
  cell_left cx cy (Taking k s) p =
      cond_left (leb bw cx) (Left 9 cx cy) _ (omega arith)
      (cond_left (leb bh cy) (Left 9 cx cy) _ (omega arith)
      (cond_left (ltb 0 (block_at k bw cx cy)) (Left 8 cx cy) _ (omega arith) (cond_left (is_on filter && leb 8 (block_at sharpness bw cx cy)) (Left 10 cx cy) _ (omega arith) tt)))

  pub scan_left : (x y w h : ℕ) (s : Scan) → LeftWell s → LeftWell (scan bw bh filter lookups sharpness x y w h s)
  unfolding scan
  scan_left x y w h s p =
      forward (λ (dx dy : ℕ). take_cell bw bh filter lookups sharpness (x + dx) (y + dy)) w h (λ dx dy t. LeftWell t) (λ dx dy t i j q. cell_left (x + dx) (y + dy) t q) (λ dy t j q. q) s p

module _ (J : Job) where
  module _ (x y : ℕ) (p : Placed) where
    -- refused with 4 to 10 at (x, y), and with 5 if the next type is unknown
    unfoldable pub Well : Placing → Type 0
    Well (Going q) = Unit
    Well (Stopped n r) = (4 ≤ r.number) × (r.number ≤ 10) × (x ≡ r.x) × (y ≡ r.y) × (n ≡ p.used) × (r.number ≡ 5 → UnknownNext J p)

    place_well : (kind h w n : ℕ) → Well (place_in J kind h w n x y p)
    unfolding Well LeftWell place
    place_well kind h w n =
        go (scan J.bw J.bh (divided_by J.filter h) J.lookups J.sharpness x y w n (Taking p.kinds p.sigma))
        (scan_left J.bw J.bh (divided_by J.filter h) J.lookups J.sharpness x y w n (Taking p.kinds p.sigma) tt)
      where
        go : (s : Scan) → LeftWell s → Well (placed J.bw kind h x y p s)
        go (Taking k s) q = tt
        go (Left m a b) q = (omega arith, omega arith, refl, refl, refl, λ e. absurd (omega arith))

    -- a chain of checks, then what follows
    abbrev after_checks : Answer Unit → Placing → Placing
    after_checks a next = answered_by a (λ (s : Said). stop_at s.number x y p) (λ (u : Unit). next)

    check_well : (n : ℕ) (b : Bool) (a : Answer Unit) (next : Placing) → 4 ≤ n → n ≤ 10 → (n ≡ 5 → b ≡ false → UnknownNext J p)
        → (b ≡ true → Well (after_checks a next)) → Well (after_checks (unless n b a) next)
    unfolding Well
    check_well n true a next l m u w = w refl
    check_well n false a next l m u w = (l, m, refl, refl, refl, λ e. u e refl)

    pub column_well : Well (column J x y p)
    unfolding column
    column_well =
        let t = next_type J p in
        let h = next_hf_mul J p in
        let next = place_in J (2 + t) h (wide t) (high t) x y p in
        check_well 4 (ltb p.used (length J.types)) _ next (omega arith) (omega arith) (λ e. absurd (omega arith))
        (λ more. check_well 5 (ltb t COUNT) _ next (omega arith) (omega arith) (λ e u. (ltb-true p.used (length J.types) more, ltb-false t COUNT u))
        (λ k. check_well 6 (positive h) _ next (omega arith) (omega arith) (λ e. absurd (omega arith))
        (λ k. check_well 7 (leb (x % 32 + wide t) 32) _ next (omega arith) (omega arith) (λ e. absurd (omega arith))
        (λ k. check_well 7 (leb (y % 32 + high t) 32) passed next (omega arith) (omega arith) (λ e. absurd (omega arith)) (λ k. place_well (2 + t) h (wide t) (high t))))))
