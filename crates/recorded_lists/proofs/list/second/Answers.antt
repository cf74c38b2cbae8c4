use native.Mathlib.Omega.{arith}
use Prim.Native.Nat.{◌+◌, ◌≤◌}
use lib.ListN.{length, get_or-eq_default}
use Rattle.recorded_lists.proofs.list.second.Goals as goal

pub returns-then-words-at : goal.returns-then-words-at
returns-then-words-at c =
    let a = c.args in
    let h : length a.words.now ≤ a.at + 1 = omega arith in
    rw (get_or-eq_default a.words.now 0 h)
