use mathlib.Core.Path.{sym}
use Rattle.lent_sides.specs.laws.Sizes.{size_small, size_large, size_known}
use borrow.Author.Rules.{rules}
use native.Mathlib.Omega.{arith}
use Rattle.lent_sides.proofs.sizes.size_of.Goals as goal

pub returns-then-kind-lt2 : goal.returns-then-kind-lt2
returns-then-kind-lt2 c =
    let a = c.args in
    sym (size_small a.wides.now a.highs.now a.kind (omega arith))

pub returns-then-t-lt-COUNT : goal.returns-then-t-lt-COUNT
returns-then-t-lt-COUNT c =
    let a = c.args in
    sym (size_known a.wides.now a.highs.now a.kind (omega arith) (omega arith))

pub returns : goal.returns
returns c =
    let a = c.args in
    sym (size_large a.wides.now a.highs.now a.kind (omega arith) (omega arith))
