use Rattle.std.proofs.Common.{◌/◌, ◌^◌, arith}
use Rattle.bits.specs.laws.Numbers.{mask_pos, masked_lt, masked}
use Rattle.bits.proofs.cut.Goals as goal

pub overflow_sub-result : goal.overflow_sub-result
overflow_sub-result c = mask_pos c.args.n (omega arith)

pub overflow_cast-result-3 : goal.overflow_cast-result-3
overflow_cast-result-3 c = record { fits = masked_lt (c.args.acc / 2 ^ c.args.skip) c.args.n (omega arith) }

pub returns : goal.returns
returns c = masked _ c.args.n (omega arith)
