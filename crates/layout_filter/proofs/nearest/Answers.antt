use Rattle.std.proofs.Common.{lit≤}
use lib.Ieee.{binary32}
use Rattle.std.proofs.num.Nearest.{upper_in, lower_in, halves_masked, two_to_16}
use Rattle.layout_filter.proofs.nearest.Goals as goal

pub returns : goal.returns
returns c = halves_masked binary32 16 c.args.n _ two_to_16 (lit≤ tt) (lit≤ tt) c.ranges.n.fits

pub int_to_float-result : goal.int_to_float-result
int_to_float-result c = upper_in binary32 16 c.args.n (lit≤ tt) c.ranges.n.fits

pub int_to_float-result-2 : goal.int_to_float-result-2
int_to_float-result-2 c = lower_in binary32 16 c.args.n (lit≤ tt)
