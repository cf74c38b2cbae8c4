use mathlib.Core.Path.{◌≡◌, ◌∙◌, ap, sym, refl}
use Prim.Native.Nat.{ℕ}
use native.Mathlib.Omega.{arith}
use borrow.Author.Rules.{rules}
use Rattle.dct_select.specs.declared.Sides.{Sides}
use Rattle.dct_select.specs.Transforms.{TRANSFORMS}
use Rattle.dct_select.specs.LookUp.{sides}
use Rattle.layout.specs.Kinds.{wide_of, high_of}
use Rattle.layout.specs.Valid.{Fits}
use Rattle.layout.proofs.laws.CheckLaws.{fitting_fits}
use Rattle.lent_sides.specs.laws.Sizes.{WIDES, HIGHS, size_by}
use Rattle.lent_check.specs.laws.Corners.{size_corner}
use Rattle.lent_cells.specs.laws.Cells.{larger_of}
use Rattle.lent_check.specs.laws.Steps.{place_plain, place_free, place_unfit, place_fit}
use Rattle.lent_check.specs.laws.Claims.{claimed}
use Rattle.lent_check.proofs.rows.place_cell.Goals.{After-claim-arg-1, After-size_of-size, Else-larger-eq0}
use Rattle.lent_check.proofs.rows.place_cell.Goals as goal

sized : (c : After-size_of-size) → let k = c.args.kind in c.size_of-size.result ≡ sides (wide_of k) (high_of k)
unfolding size_by WIDES HIGHS TRANSFORMS
sized c =
    let a = c.args in
    let e : c.size_of-size.result ≡ size_by WIDES HIGHS a.kind = search rules in
    e ∙ size_corner WIDES HIGHS a.kind refl refl (omega arith)

-- the kind is one that is looked at
looked : (c : Else-larger-eq0) → let k = c.args.kind in larger_of k ≡ 0 → ⊥
looked c = λ e. c.if-larger-eq0.false (c.larger.ensures ∙ e)

fitted : (c : After-claim-arg-1) → let a = c.args in Fits a.bw a.bh a.x a.y a.kind 1
fitted c = let a = c.args in fitting_fits a.bw a.bh a.x a.y a.kind 1 (sym c.fits.ensures ∙ c.if-not-fits.false)

pub returns-then-larger-eq0 : goal.returns-then-larger-eq0
returns-then-larger-eq0 c =
    let a = c.args in
    sym (place_plain a.bw a.bh a.kind a.x a.y a.depth.now (sym c.larger.ensures ∙ c.if-larger-eq0.true))

pub returns-then-kind-lt2 : goal.returns-then-kind-lt2
returns-then-kind-lt2 c =
    let a = c.args in
    sym (place_free a.bw a.bh a.kind a.x a.y a.depth.now (looked (goal.at.returns-then-kind-lt2 c).Else-larger-eq0) (omega arith))

pub fits-requires : goal.fits-requires
fits-requires c =
    let w : c.size_of-size.result.wide ≡ wide_of c.args.kind = ap (λ (s : Sides). s.wide) (sized (goal.at.fits-requires c).After-size_of-size) in
    let h : c.size_of-size.result.high ≡ high_of c.args.kind = ap (λ (s : Sides). s.high) (sized (goal.at.fits-requires c).After-size_of-size) in
    search rules

pub returns-then-not-fits : goal.returns-then-not-fits
returns-then-not-fits c =
    let a = c.args in
    sym (place_unfit a.bw a.bh a.kind a.x a.y a.depth.now (looked (goal.at.returns-then-not-fits c).Else-larger-eq0) (omega arith) (sym c.fits.ensures ∙ c.if-not-fits.true))

pub overflow_cast-h : goal.overflow_cast-h
overflow_cast-h c =
    let f = (fitted (goal.at.overflow_cast-h c).After-claim-arg-1).square_y in
    let h : c.size_of-size.result.high ≡ high_of c.args.kind = ap (λ (s : Sides). s.high) (sized (goal.at.overflow_cast-h c).After-size_of-size) in
    search rules

pub claim-requires : goal.claim-requires
claim-requires c =
    let f = (fitted (goal.at.claim-requires c).After-claim-arg-1).in_x in
    let w : c.size_of-size.result.wide ≡ wide_of c.args.kind = ap (λ (s : Sides). s.wide) (sized (goal.at.claim-requires c).After-size_of-size) in
    omega arith

pub returns : goal.returns
returns c =
    let a = c.args in
    let s = c.size_of-size.result in
    let w : s.wide ≡ wide_of a.kind = ap (λ (s : Sides). s.wide) (sized (goal.at.returns c).After-size_of-size) in
    let h : s.high ≡ high_of a.kind = ap (λ (s : Sides). s.high) (sized (goal.at.returns c).After-size_of-size) in
    c.claim.ensures
    ∙ ap (λ (n : ℕ). claimed a.depth.now a.x n s.high) w
    ∙ ap (λ (n : ℕ). claimed a.depth.now a.x (wide_of a.kind) n) h
    ∙ sym (place_fit a.bw a.bh a.kind a.x a.y a.depth.now (looked (goal.at.returns c).Else-larger-eq0) (omega arith) (sym c.fits.ensures ∙ c.if-not-fits.false))
