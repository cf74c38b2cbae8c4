use Prim.Native.Nat.{◌/◌, ◌-◌}
use Rattle.order_permutation.specs.laws.Permuting.{odd_length, too_many, too_few, not_small, digit_large, moved}
use Rattle.order_permutation.specs.laws.Below.{leading_below}
use native.Mathlib.Omega.{arith}
use mathlib.Core.Path.{◌∙◌, sym}
use lib.ListN.{length}
use Rattle.order_permutation.proofs.permute.Goals as goal

pub returns-then-list-ne0 : goal.returns-then-list-ne0
returns-then-list-ne0 c =
    let a = c.args in
    odd_length a.list.now a.skip a.digits.now c.if-list-ne0.true

pub returns-then-size-gt65536 : goal.returns-then-size-gt65536
returns-then-size-gt65536 c =
    let a = c.args in
    too_many a.list.now a.skip a.digits.now c.if-list-ne0.false (omega arith)

pub returns-then-size-skip : goal.returns-then-size-skip
returns-then-size-skip c =
    let a = c.args in
    too_few a.list.now a.skip a.digits.now c.if-list-ne0.false (omega arith) (omega arith)

pub returns-then-not-all_below : goal.returns-then-not-all_below
returns-then-not-all_below c =
    let a = c.args in
    let e = c.if-not-all_below.true in
    not_small a.list.now a.skip a.digits.now c.if-list-ne0.false (omega arith) (omega arith) (sym c.all_below.ensures ∙ e)

pub returns-then-good-digits : goal.returns-then-good-digits
returns-then-good-digits c =
    let a = c.args in
    let e = c.if-not-all_below.false in
    digit_large a.list.now a.skip a.digits.now c.if-list-ne0.false (omega arith) (omega arith) (sym c.all_below.ensures ∙ e) (λ f. c.if-good-digits.true (c.digits_below-good.ensures ∙ f))

pub reorder-requires : goal.reorder-requires
reorder-requires c =
    let a = c.args in
    (omega (arith, c.if-list-ne0.false), omega arith, omega arith, sym c.all_below.ensures ∙ c.if-not-all_below.false, leading_below a.digits.now (length a.list.now / 2 - a.skip) (sym c.digits_below-good.ensures ∙ c.if-good-digits.false))

pub returns : goal.returns
returns c =
    let a = c.args in
    let e = c.if-not-all_below.false in
    moved a.list.now a.skip a.digits.now c.if-list-ne0.false (omega arith) (omega arith) (sym c.all_below.ensures ∙ e) c.reorder.new.list (sym c.digits_below-good.ensures ∙ c.if-good-digits.false) c.reorder.ensures
