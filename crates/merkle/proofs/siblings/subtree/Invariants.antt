-- What is looked for is the largest subtree after i blocks of a tree over m, which has the other blocks before it.
use Rattle.merkle.proofs.SiblingLaws.{Within}
use Rattle.merkle.proofs.siblings.subtree.Given as goal

abbrev pub invariant-loop-i : goal.invariant-loop-i
invariant-loop-i l = Within l.n l.before l.m l.i

abbrev pub decreases-loop-i : goal.decreases-loop-i
decreases-loop-i l = l.m
