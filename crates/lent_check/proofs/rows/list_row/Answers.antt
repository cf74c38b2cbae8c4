use Prim.Native.Nat.{ℕ}
use lib.ListN.{get_or}
use native.Mathlib.Omega.{arith}
use Rattle.lent_check.specs.laws.Listing.{list_start, list_step, list_end}
use Rattle.lent_check.proofs.rows.list_row.Goals as goal

pub loop-x-init : goal.loop-x-init
loop-x-init c = let a = c.args in list_start (λ (x : ℕ). get_or a.flags.now x 0) a.bw a.list.now c.requires.1

pub bounds-list-n : goal.bounds-list-n
bounds-list-n c = let i = c.loop-x.invariant.0 in omega arith

pub overflow_add-n : goal.overflow_add-n
overflow_add-n c =
    let f = c.requires.2 c.loop-x.x (omega arith) in
    let t = c.from-n.ensures in
    let i = c.loop-x.invariant.0 in
    omega arith

pub loop-x-preserved : goal.loop-x-preserved
loop-x-preserved c =
    let a = c.args in
    let p = c.requires in
    let l = c.loop-x in
    list_step (λ (x : ℕ). get_or a.flags.now x 0) a.bw l.n l.x c.from-n.result l.list (omega arith) p.0 (p.2 l.x (omega arith)) c.from-n.ensures l.invariant

pub returns : goal.returns
returns c =
    let a = c.args in
    let l = c.loop-x in
    list_end (λ (x : ℕ). get_or a.flags.now x 0) a.bw l.n l.x l.list (omega arith) c.requires.0 l.invariant
