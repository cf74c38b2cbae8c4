use Prim.Native.Nat.{ℕ}
use lib.ListN.{get_or}
use Rattle.lent_check.specs.laws.Listing.{Listing}
use Rattle.lent_check.proofs.rows.list_row.Given as goal

abbrev pub invariant-loop-x : goal.invariant-loop-x
invariant-loop-x l = Listing (λ (x : ℕ). get_or l.flags x 0) l.bw l.n l.x l.list
