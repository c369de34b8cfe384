-- `merkle::node::split` meets its contract: the power is below n, and its double is not.
use Rattle.std.proofs.Common.{arith}
use Rattle.merkle.proofs.ShapeLaws.{split-is}
use Rattle.merkle.proofs.node.split.Goals as goal

pub returns-clause-value : goal.returns-clause-value
returns-clause-value c = omega (arith, split-is c.args.n c.ilog2.result (omega arith) (omega arith))
