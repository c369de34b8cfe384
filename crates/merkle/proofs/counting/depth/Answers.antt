-- `merkle::counting::depth` meets its contract: the leading zeros of n - 1 and its length in bits make 64.
use Rattle.std.proofs.Common.{arith}
use Rattle.merkle.proofs.LowBitLaws.{depth-length}
use Rattle.merkle.proofs.counting.depth.Goals as goal

pub returns : goal.returns
returns c = depth-length c.args.n (omega arith) (omega arith)
