use Rattle.lister.specs.laws.ListSteps.{zero_bits, listed_is, accepts, refuses}
use Rattle.lister.specs.Texts.{refused_text}
use Rattle.text.specs.Text.{Puts}
use Rattle.layout_call.specs.Call.{leaves}
use Rattle.refusal.specs.declared.Refusal.{Refusal}
use lib.ListN.{replicate}
use lib.Ieee.{Float}
use mathlib.Core.List.{List}
use mathlib.Core.Path.{subst}
use native.Mathlib.Omega.{arith}
use mathlib.Core.Path.{◌∙◌, ap, sym}
use Prim.Native.Nat.{ℕ}
use Rattle.std.proofs.Common.{Result}
use Rattle.lister.proofs.list_layout.Goals as goal

pub put_accepted-requires : goal.put_accepted-requires
put_accepted-requires c =
    let a = c.args in
    let h = c.requires in
    let e = c.layout-answer.ensures ∙ listed_is a.width a.height a.types.now a.muls.now a.bw a.bh a.sharpness.now a.kinds.now a.hf_mul.now a.sigma.now _ h.0 h.1 h.4 h.5 h.6 h.7 (ap (λ (z : Float). replicate 8 z) zero_bits) in
    let f = sym (ap (λ (z : Result ℕ Refusal). leaves z c.layout-answer.new.kinds c.layout-answer.new.hf_mul c.layout-answer.new.sigma) c.in-Ok.is) ∙ e in
    let r = accepts a.width a.height a.types.now a.muls.now a.bw a.bh h.0 h.1 c.layout-answer.new.kinds c.layout-answer.new.hf_mul c.layout-answer.new.sigma _ f in
    (r.length_k, r.length_m, omega (arith, h.2), omega (arith, h.3), r.full)

pub returns-in-Ok : goal.returns-in-Ok
returns-in-Ok c =
    let a = c.args in
    let h = c.requires in
    let e = c.layout-answer.ensures ∙ listed_is a.width a.height a.types.now a.muls.now a.bw a.bh a.sharpness.now a.kinds.now a.hf_mul.now a.sigma.now _ h.0 h.1 h.4 h.5 h.6 h.7 (ap (λ (z : Float). replicate 8 z) zero_bits) in
    let f = sym (ap (λ (z : Result ℕ Refusal). leaves z c.layout-answer.new.kinds c.layout-answer.new.hf_mul c.layout-answer.new.sigma) c.in-Ok.is) ∙ e in
    let r = accepts a.width a.height a.types.now a.muls.now a.bw a.bh h.0 h.1 c.layout-answer.new.kinds c.layout-answer.new.hf_mul c.layout-answer.new.sigma _ f in
    subst (λ (s : List ℕ). Puts a.out.now 0 s c.put_accepted.new.out c.put_accepted.result) r.text c.put_accepted.ensures

pub returns-in-Err : goal.returns-in-Err
returns-in-Err c =
    let a = c.args in
    let h = c.requires in
    let e = c.layout-answer.ensures ∙ listed_is a.width a.height a.types.now a.muls.now a.bw a.bh a.sharpness.now a.kinds.now a.hf_mul.now a.sigma.now _ h.0 h.1 h.4 h.5 h.6 h.7 (ap (λ (z : Float). replicate 8 z) zero_bits) in
    let f = sym (ap (λ (z : Result ℕ Refusal). leaves z c.layout-answer.new.kinds c.layout-answer.new.hf_mul c.layout-answer.new.sigma) c.in-Err.is) ∙ e in
    let t = ap refused_text c.numbers.ensures ∙ refuses a.width a.height a.types.now a.muls.now a.bw a.bh h.0 h.1 c.layout-answer.new.kinds c.layout-answer.new.hf_mul c.layout-answer.new.sigma c.in-Err.why f in
    subst (λ (s : List ℕ). Puts a.out.now 0 s c.put_refused.new.out c.put_refused.result) t c.put_refused.ensures
