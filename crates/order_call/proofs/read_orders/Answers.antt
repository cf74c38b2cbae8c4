use Rattle.std.proofs.Common.{rules, arith, ap, sym, ◌∙◌, length}
use Rattle.order_naturals.specs.laws.Naturals.{natural_store_lem, whole_long}
use Rattle.order_call.proofs.laws.Progress.{all_read, all_refused}
use Rattle.order_call.proofs.read_orders.Goals as goal

pub read_lists-read-requires : goal.read_lists-read-requires
read_lists-read-requires c =
    let e = c.fill_natural_orders.ensures.1 ∙ natural_store_lem c.args.store.now c.requires in
    (ap length e ∙ whole_long, e)

pub returns-then-is_err : goal.returns-then-is_err
returns-then-is_err c =
    let a = c.args in
    let r = c.read_lists-read in
    all_refused a.used a.symbols.now r.new.store c.fill.new.self (length r.new.store) r.result r.ensures (sym c.is_err.ensures.value ∙ c.if-is_err.true) (c.fill.ensures.after (search rules)) (omega arith)

pub returns-else-is_err : goal.returns-else-is_err
returns-else-is_err c =
    let a = c.args in
    let r = c.read_lists-read in
    all_read a.used a.symbols.now r.new.store r.result r.ensures (sym c.is_err.ensures.value ∙ c.if-is_err.false)
