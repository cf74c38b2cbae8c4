use mathlib.Core.Path.{◌≡◌, ◌∙◌, ap, sym}
use Prim.Native.Nat.{ℕ, ◌-◌, ◌+◌}
use native.Mathlib.Omega.{arith}
use Rattle.lent_check.specs.laws.Claims.{claimed, claim_stop, claim_next, claim_end, first_good, first_bad}
use Rattle.lent_check.proofs.rows.claim.Goals.{Else-not-claim_four}
use Rattle.lent_check.proofs.rows.claim.Goals as goal

pub returns-then-not-claim_four : goal.returns-then-not-claim_four
returns-then-not-claim_four c =
    let a = c.args in
    sym (first_bad a.x a.n a.v c.claim_four.result (claimed c.claim_four.new.depth (a.x + 4) (a.n - 4) a.v) (claimed a.depth.now a.x a.n a.v) c.claim_four.ensures (c.if-not-claim_four.true))

-- what is left behind the first four columns
rest : (c : Else-not-claim_four) → let a = c.args in claimed a.depth.now a.x a.n a.v ≡ claimed c.claim_four.new.depth (a.x + 4) (a.x + a.n - (a.x + 4)) a.v
rest c =
    let a = c.args in
    let e : a.n - 4 ≡ a.x + a.n - (a.x + 4) = omega arith in
    first_good a.x a.n a.v c.claim_four.result (claimed c.claim_four.new.depth (a.x + 4) (a.n - 4) a.v) (claimed a.depth.now a.x a.n a.v) c.claim_four.ensures (c.if-not-claim_four.false)
    ∙ ap (λ (k : ℕ). claimed c.claim_four.new.depth (a.x + 4) k a.v) e

pub returns-then-depth-i-gt0 : goal.returns-then-depth-i-gt0
returns-then-depth-i-gt0 c =
    let a = c.args in
    let l = c.loop-i in
    sym (rest (goal.at.returns-then-depth-i-gt0 c).Else-not-claim_four ∙ l.invariant ∙ claim_stop l.depth l.i (a.x + a.n) a.v (omega arith) (omega arith))

pub loop-i-preserved : goal.loop-i-preserved
loop-i-preserved c =
    let a = c.args in
    let l = c.loop-i in
    l.invariant ∙ claim_next l.depth l.i (a.x + a.n) a.v (omega arith) (omega arith)

pub returns : goal.returns
returns c =
    let a = c.args in
    let l = c.loop-i in
    sym (rest (goal.at.returns c).Else-not-claim_four ∙ l.invariant ∙ claim_end l.depth l.i (a.x + a.n) a.v (omega arith))
