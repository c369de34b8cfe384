-- `merkle::frontier::advance` meets its contract.
use Rattle.std.proofs.Common.{arith}
use Rattle.merkle.proofs.HeldLaws.{advanced-is}
use Rattle.merkle.proofs.frontier.advance.Goals as goal

pub returns : goal.returns
returns c =
    advanced-is _ _ c.next_at.result _ _ _ c.next_at.ensures.0 (omega arith) c.copy.ensures
