use Rattle.std.proofs.Common.{rules, arith, ◌≡◌, ◌∙◌, ap, sym, ℕ, List, take, count_by, length-take, take_all}
use Rattle.std.proofs.lemmas.List.Sums.{count_by-le-length}
use Rattle.context_index.specs.Contexts.{above, greater}
use Rattle.context_index.proofs.laws.Laws.{above_is, take_min}
use Rattle.context_index.proofs.count_above.Goals as goal

pub returns : goal.returns
returns c =
    let a = c.args in
    let used = take c.capped.result a.places.now in
    let counted : c.count.result ≡ count_by (greater a.q) used = search rules in
    let e : used ≡ take a.n a.places.now =
    ap (λ (k : ℕ). take k a.places.now) c.capped.ensures ∙ take_min a.n 15 a.places.now ∙ ap (λ (l : List ℕ). take a.n l) (take_all 15 a.places.now (omega arith)) in (
      counted ∙ sym (above_is a.q used) ∙ ap (λ (l : List ℕ). above l a.q) e,
      omega (arith, counted, count_by-le-length (greater a.q) used, length-take c.capped.result a.places.now),
    )
