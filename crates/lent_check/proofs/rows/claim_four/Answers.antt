use Rattle.std.proofs.Common.{◌≡◌, ℕ, ◌+◌, cond, max, ltb, get_or, set, ap, sym, ◌∙◌}
use Rattle.lent_check.specs.laws.Claims.{claiming, first_start, first_next}
use Rattle.lent_check.proofs.laws.Most.{most}
use Rattle.lent_check.proofs.rows.claim_four.Goals as goal

pub loop-i-init : goal.loop-i-init
loop-i-init c = let a = c.args in first_start a.x a.n a.v a.depth.now

pub loop-i-preserved : goal.loop-i-preserved
loop-i-preserved c =
    let a = c.args in
    let l = c.loop-i in
    let old = get_or l.depth (a.x + l.i) 0 in
    let b = ltb l.i a.n in
    let m : max l.found (cond b old 0) ≡ c.max-found.result = sym (c.max-found.ensures ∙ most l.found _ ∙ ap (max l.found) c.select_unpredictable.ensures) in
    l.invariant ∙ first_next a.x a.n a.v l.found l.i l.depth
    ∙ ap (λ (k : ℕ). claiming a.x a.n a.v k (l.i + 1) (set l.depth (a.x + l.i) (cond b a.v old))) m
    ∙ ap (λ (k : ℕ). claiming a.x a.n a.v c.max-found.result (l.i + 1) (set l.depth (a.x + l.i) k)) (sym c.select_unpredictable-in-loop-i.ensures)
