-- `merkle::siblings::subtree` meets its contract.
use Rattle.std.proofs.Common.{arith}
use Rattle.merkle.proofs.SiblingLaws.{within_all, within-left, within-right, within-found}
use Rattle.merkle.proofs.siblings.subtree.Goals as goal

pub loop-i-init : goal.loop-i-init
loop-i-init c = within_all _ _ c.requires

pub loop-i-preserved-then-i-k : goal.loop-i-preserved-then-i-k
loop-i-preserved-then-i-k c = within-left _ _ _ _ _ c.loop-i.invariant (omega arith) c.split-k.ensures.value (omega arith)

pub loop-i-preserved : goal.loop-i-preserved
loop-i-preserved c = within-right _ _ _ _ _ c.loop-i.invariant (omega arith) c.split-k.ensures.value (omega arith)

pub returns : goal.returns
returns c = let l = c.loop-i in within-found _ _ l.m l.i (omega arith) l.invariant
