-- The tree starts with the block, and the right siblings within it are still to be written.
use Rattle.sha256.specs.Sha256.{digest}
use Rattle.merkle.specs.Blocks.{cut}
use Rattle.merkle.specs.Hash.{plain}
use Rattle.merkle.proofs.SiblingLaws.{Writing}
use Rattle.merkle.proofs.TreeLaws.{PartOf}
use Rattle.merkle.proofs.blocks.Blocks.write_siblings.Given as goal

abbrev pub invariant-loop-tree : goal.invariant-loop-tree
invariant-loop-tree l = record {
  part : PartOf l.self.len l.self.bytes.now l.before l.tree.len l.tree.bytes.now;
  writing : Writing (plain digest) (cut l.self.len l.self.bytes.now) l.self.count l.before l.initial.out l.out l.tree.count l.c;
}

abbrev pub decreases-loop-tree : goal.decreases-loop-tree
decreases-loop-tree l = l.tree.count
