use mathlib.Core.List.{List}
use lib.Seq.{paste}
use Rattle.context_places.specs.laws.Copies.{three}
use borrow.Author.Rules.{rules}
use native.Mathlib.Omega.{arith}
use mathlib.Core.Path.{◌∙◌, ap}
use Prim.Native.Nat.{ℕ, ◌-◌}
use Rattle.context_places.proofs.joined.Goals as goal

pub returns : goal.returns
returns c =
    let a = c.args in
    c.placed.ensures
    ∙ ap (λ (l : List ℕ). paste l 30 a.list2.now 15) c.placed-lists1.ensures
    ∙ ap (λ (l : List ℕ). paste (paste l 15 a.list1.now 15) 30 a.list2.now 15) c.placed-lists0.ensures
    ∙ three a.list0.now a.list1.now a.list2.now (omega arith) (omega arith) (omega arith)
