-- The block is in the subtree over m blocks, and the nodes and the turns are those above that.
use Rattle.merkle.proofs.TurnLaws.{Falling}
use Rattle.merkle.proofs.path.descend.Given as goal

abbrev pub invariant-loop-m : goal.invariant-loop-m
invariant-loop-m l = Falling l.n l.before l.m l.i l.depth l.turns

abbrev pub decreases-loop-m : goal.decreases-loop-m
decreases-loop-m l = l.m
