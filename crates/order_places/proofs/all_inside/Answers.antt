use Rattle.std.proofs.Common.{arith, ap, sym, ◌∙◌, refl, ◌≡◌, ◌+◌, ◌*◌, ◌/◌, List, ℕ, length, get_or, take, drop, length-take-le, length-drop, []}
use Rattle.order_store.specs.Store.{inside_all}
use Rattle.order_places.specs.laws.Ors.{chunk_at, together_start, together_turn, together_both}
use Rattle.order_places.proofs.all_inside.Goals.{In-loop-part}
use Rattle.order_places.proofs.all_inside.Goals as goal

-- a part's numbers
part_is : (c : In-loop-part) → get_or c.as_chunks.result.0.now c.loop-part.part-index [] ≡ take 64 (drop (c.loop-part.part-index * 64) c.args.list.now)
part_is c =
    let i = c.loop-part.part-index in
    ap (λ (parts : List (List ℕ)). get_or parts i []) c.as_chunks.ensures.front ∙ chunk_at (length c.args.list.now / 64) i c.args.list.now (omega (arith, c.as_chunks.ensures.front_len, c.loop-part-test.true))

pub or_into-requires : goal.or_into-requires
or_into-requires c =
    let list = c.args.list.now in
    let at = c.loop-part.part-index * 64 in
    let p = part_is (goal.at.or_into-requires c).In-loop-part in
    (c.loop-part.invariant.0, ap length p ∙ length-take-le 64 (drop at list) (omega (arith, length-drop at list, c.as_chunks.ensures.front_len, c.loop-part-test.true)))

pub loop-part-init : goal.loop-part-init
loop-part-init c = let a = c.args in together_start a.size.width a.size.height c.requires.0 c.requires.1 a.list.now _ refl

pub loop-part-preserved : goal.loop-part-preserved
loop-part-preserved c =
    let a = c.args in
    let l = c.loop-part in
    let at = l.part-index * 64 in
    let e : at + 64 ≡ (l.part-index + 1) * 64 = omega arith in
    let p = part_is (goal.at.loop-part-preserved c).In-loop-part in
    rw e at (together_turn a.size.width a.size.height c.requires.0 c.requires.1 a.list.now at l.ors _ _ (omega (arith, c.as_chunks.ensures.front_len, c.loop-part-test.true)) p c.or_into.ensures l.invariant)

pub returns-then-few_inside : goal.returns-then-few_inside
returns-then-few_inside c =
    let a = c.args in
    let l = c.loop-part in
    let at = l.part-index * 64 in
    let e : length a.list.now / 64 * 64 ≡ at = omega (arith, c.as_chunks.ensures.front_len, c.loop-part-test.false) in
    let rest : c.as_chunks.result.1.now ≡ drop at a.list.now = c.as_chunks.ensures.back ∙ ap (λ (n : ℕ). drop n a.list.now) e in
    c.few_inside-then-few_inside.ensures ∙ ap (inside_all a.size.width a.size.height) rest ∙ together_both a.size.width a.size.height a.list.now at l.ors (sym c.few_inside.ensures ∙ c.if-few_inside.true) l.invariant
