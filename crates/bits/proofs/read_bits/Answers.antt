use Rattle.std.proofs.Common.{◌≡◌, ◌+◌, ◌/◌, ◌%◌, min, ◌∙◌, arith}
use Rattle.bits.specs.Reads.{bits_before}
use Rattle.bits.specs.laws.Laws.{read_end, read_window}
use Rattle.bits.proofs.read_bits.Goals as goal

pub returns-then-s-byte : goal.returns-then-s-byte
returns-then-s-byte c = read_end c.args.s.now (bits_before c.args.p) (min c.args.n 32) (omega arith)

pub returns-then-s-first : goal.returns-then-s-first
returns-then-s-first c = read_end c.args.s.now (bits_before c.args.p) (min c.args.n 32) (omega arith)

pub returns : goal.returns
returns c =
    let a = c.args in
    let n = c.min-n.result in
    let e : n ≡ min a.n 32 = c.min-n.ensures in
    rw (← e)
    (read_window a.s.now (bits_before a.p) n (a.p.byte + a.p.bit / 8) ((a.p.bit % 8 + n + 7) / 8) (a.p.bit % 8) c.cut-v.result _ _
    (λ i. (c.shared_slice_known-1.given i).fits) (omega arith) (omega arith) (omega arith) (c.cut-v.ensures ∙ rw c.gather.ensures) (omega arith) (omega arith))
