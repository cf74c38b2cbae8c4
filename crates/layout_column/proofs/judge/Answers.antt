use Rattle.std.proofs.Common.{◌≡◌, true, refl, arith, rules}
use Rattle.refusal.specs.Answer.{gives}
use Rattle.dct_select.specs.LookUp.{look_up}
use Rattle.dct_select.specs.laws.LookUp.{known_is, Sized, sized}
use Rattle.layout_column.specs.Columns.{hf_mul_of, positive}
use Rattle.layout_column.proofs.laws.Judged.{found, not_found, judged_unknown, judged_hf_mul, judged_wide, judged_high, judged_asks}
use Rattle.layout_column.proofs.judge.Goals.{After-dct_select_size-sides, In_ok-known, then-x-sides-gt32-via-then-x-sides-gt32, then-x-sides-gt32-via-else-x-sides-gt32+then-y-sides-gt32}
use Rattle.layout_column.proofs.judge.Goals as goal

-- The number stands for a transform.
known : (c : In_ok-known) → look_up c.args.transform ≡ gives c.in_ok-known.known
known c = found c.args.transform c.map_err.result _ c.try_from.result _ c.try_from.ensures c.map_err.ensures.cases c.in_ok-known.was

-- The sides are that transform's.
sides : (c : After-dct_select_size-sides) → Sized c.args.transform c.dct_select_size-sides.result
sides c = sized c.args.transform _ c.dct_select_size-sides.result (found c.args.transform c.map_err.result _ c.try_from.result _ c.try_from.ensures c.map_err.ensures.cases c.in_ok-known.was) c.dct_select_size-sides.ensures

pub returns-in_err-known : goal.returns-in_err-known
returns-in_err-known c =
    let a = c.args in
    let n = not_found a.transform c.map_err.result _ c.try_from.result _ c.try_from.ensures c.map_err.ensures.cases c.in_err-known.was in
    rw (← judged_unknown a.transform (hf_mul_of a.mul) a.x a.y n) (search rules)

pub returns-then-not-contains : goal.returns-then-not-contains
returns-then-not-contains c =
    let a = c.args in
    judged_hf_mul a.transform (hf_mul_of a.mul) a.x a.y (known_is a.transform _ (known (goal.at.returns-then-not-contains c).In_ok-known)).0 (search rules)

pub overflow_add-x : goal.overflow_add-x
overflow_add-x c = let s = sides (goal.at.overflow_add-x c).After-dct_select_size-sides in omega arith

pub overflow_add-y : goal.overflow_add-y
overflow_add-y c = let s = sides (goal.at.overflow_add-y c).After-dct_select_size-sides in omega arith

pub returns-then-x-sides-gt32 : goal.returns-then-x-sides-gt32
returns-then-x-sides-gt32 c =
    let a = c.args in
    let s = sides (goal.at.returns-then-x-sides-gt32 c).After-dct_select_size-sides in
    let p : positive (hf_mul_of a.mul) ≡ true = search rules in
    elim c.then-x-sides-gt32.branch [ then-x-sides-gt32-via-then-x-sides-gt32 w ↦ judged_wide a.transform (hf_mul_of a.mul) a.x a.y s.below p (omega arith) | then-x-sides-gt32-via-else-x-sides-gt32+then-y-sides-gt32 w ↦ judged_high a.transform (hf_mul_of a.mul) a.x a.y s.below p (omega arith) (omega arith) ]

pub overflow_add-result : goal.overflow_add-result
overflow_add-result c = let s = sides (goal.at.overflow_add-result c).After-dct_select_size-sides in omega arith

pub overflow_cast-result : goal.overflow_cast-result
overflow_cast-result c = let s = sides (goal.at.overflow_cast-result c).After-dct_select_size-sides in omega arith

pub returns : goal.returns
returns c =
    let a = c.args in
    let s = sides (goal.at.returns c).After-dct_select_size-sides in
    judged_asks a.transform (hf_mul_of a.mul) a.x a.y s.below (search rules) _ _ _ refl s.wide_is s.high_is (omega arith) (omega arith)
