use Rattle.std.proofs.Common.{rules, arith, sym, ◌≡◌, Err}
use Rattle.order_store.specs.laws.Offsets.{first_start}
use Rattle.order_call.proofs.laws.Progress.{progress_start, progress_end}
use Rattle.order_call.proofs.read_lists.Goals as goal

pub loop-i-init : goal.loop-i-init
loop-i-init c = let a = c.args in (progress_start a.used a.symbols.now a.store.now c.requires.1, sym first_start)

pub returns-in_err-at : goal.returns-in_err-at
returns-in_err-at c =
    let f : c.from_residual.result ≡ Err c.in_err-at.field-0.0 = search rules in
    rw f c.in_err-at.ensures

pub returns : goal.returns
returns c =
    let a = c.args in
    let l = c.loop-i in
    progress_end a.used a.symbols.now l.store l.i l.at l.invariant.0 (omega arith)
