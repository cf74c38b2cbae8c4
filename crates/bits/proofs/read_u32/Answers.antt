use Rattle.bits.specs.Bits.{read_u32}
use Rattle.bits.specs.Reads.{Got, bits_before, choice_of, got_of, got_value, got_end}
use Rattle.bits.specs.laws.Laws.{took_none, u32_end, u32_value, u32_short, selected_at}
use Rattle.std.proofs.Common.{◌≡◌, refl, Ok, Err, sym, ap, ◌∙◌, rules}
use Rattle.bits.proofs.read_u32.Goals as goal
use Rattle.bits.proofs.read_u32.Goals.{After-map_err}

pub returns-in_err-k : goal.returns-in_err-k
returns-in_err-k c =
    let a = c.args in
    let k = c.in_err-k.field-0.0.taken in
    let f : c.from_residual.result ≡ got_end k = search rules in
    let e = sym c.read_bits.ensures ∙ c.in_err-k.was in
    f
    ∙ ap got_end (took_none a.s.now (bits_before a.p) 2 k e)
    ∙ u32_end a.s.now (bits_before a.p) (choice_of a.d0) (choice_of a.d1) (choice_of a.d2) (choice_of a.d3) k e

pub read_choice-requires : goal.read_choice-requires
read_choice-requires c =
    let a = c.args in
    (selected_at a.s.now (bits_before a.p) (choice_of a.d0) (choice_of a.d1) (choice_of a.d2) (choice_of a.d3) c.in_ok-k.k c.in_ok-k.next
    (sym c.read_bits.ensures ∙ c.in_ok-k.was) (choice_of c.choose.result) c.choose.ensures).1

-- by what the choice gave
returned : (c : After-map_err) (r : Got) → c.read_choice.result ≡ r
    → c.map_err.result ≡ got_of (bits_before c.args.p) (read_u32 c.args.s.now (bits_before c.args.p) (choice_of c.args.d0) (choice_of c.args.d1) (choice_of c.args.d2) (choice_of c.args.d3))
returned c (Ok (v, w)) e =
    let a = c.args in
    let f : c.map_err.result ≡ got_value v w = search rules in
    f
    ∙ u32_value a.s.now (bits_before a.p) (choice_of a.d0) (choice_of a.d1) (choice_of a.d2) (choice_of a.d3) c.in_ok-k.k c.in_ok-k.next
    (sym c.read_bits.ensures ∙ c.in_ok-k.was) (choice_of c.choose.result) c.choose.ensures v w (sym c.read_choice.ensures ∙ e)
returned c (Err end) e =
    let a = c.args in
    let f : c.map_err.result ≡ got_end 2 = search rules in
    f
    ∙ u32_short a.s.now (bits_before a.p) (choice_of a.d0) (choice_of a.d1) (choice_of a.d2) (choice_of a.d3) c.in_ok-k.k c.in_ok-k.next
    (sym c.read_bits.ensures ∙ c.in_ok-k.was) (choice_of c.choose.result) c.choose.ensures end.taken (sym c.read_choice.ensures ∙ e)

pub returns : goal.returns
returns c = returned c c.read_choice.result refl
