-- `merkle::frontier::next_at` meets its contract.
use Rattle.std.proofs.Common.{arith}
use Rattle.merkle.proofs.CountLaws.{counted-most}
use Rattle.merkle.proofs.HeldLaws.{start_is}
use Rattle.merkle.proofs.frontier.next_at.Goals as goal

pub overflow_mul-result : goal.overflow_mul-result
overflow_mul-result c = omega (arith, counted-most _ _ _ _ (omega arith) (omega arith) c.count-counts.ensures)

pub overflow_sub-result : goal.overflow_sub-result
overflow_sub-result c = omega (arith, counted-most _ _ _ _ (omega arith) (omega arith) c.count-counts.ensures)

pub returns : goal.returns
returns c = start_is _ _ _ _ (omega arith) (omega arith) c.count-counts.ensures
