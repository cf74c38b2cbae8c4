use mathlib.Core.Path.{◌≡◌, ◌∙◌, ap, sym}
use Prim.Native.Nat.{ℕ}
use lib.Dec.{eqb}
use lib.ListN.{length}
use native.Mathlib.Omega.{arith}
use Rattle.lent_check.specs.laws.Flaws.{flaws, sound_unknown, sound_known, flaws_start, flaws_step}
use Rattle.lent_check.proofs.cells.cells_sound.Goals as goal

pub returns-then-not-all_below : goal.returns-then-not-all_below
returns-then-not-all_below c =
    let a = c.args in
    sym (sound_unknown a.kinds.now a.hf_mul.now (sym c.all_below.ensures ∙ c.if-not-all_below.true))

pub loop-i-init : goal.loop-i-init
loop-i-init c = let a = c.args in (omega arith, sym (flaws_start a.kinds.now a.hf_mul.now))

pub overflow_add-flaws : goal.overflow_add-flaws
overflow_add-flaws c = let p = c.requires in let f = c.flaw-flaws.ensures.1 in omega arith

pub loop-i-preserved : goal.loop-i-preserved
loop-i-preserved c =
    let a = c.args in
    let l = c.loop-i in
    let f = c.flaw-flaws.ensures in
    (omega arith, omega (arith, f.0, l.invariant.1, flaws_step a.kinds.now a.hf_mul.now l.i))

pub returns : goal.returns
returns c =
    let a = c.args in
    let l = c.loop-i in
    let n : l.i ≡ length a.kinds.now = omega arith in
    let e : l.flaws ≡ flaws a.kinds.now a.hf_mul.now (length a.kinds.now) = l.invariant.1 ∙ ap (flaws a.kinds.now a.hf_mul.now) n in
    ap (λ (m : ℕ). eqb m 0) e ∙ sym (sound_known a.kinds.now a.hf_mul.now (sym c.all_below.ensures ∙ c.if-not-all_below.false))
