-- The tree has the block, and the siblings within it are still to be written.
use Rattle.std.proofs.Common.{ℕ}
use Rattle.sha256.specs.Sha256.{digest}
use Rattle.merkle.specs.Blocks.{cut}
use Rattle.merkle.specs.Hash.{plain}
use Rattle.merkle.proofs.PathWritingLaws.{Inside}
use Rattle.merkle.proofs.TreeLaws.{PartOf}
use Rattle.merkle.proofs.blocks.Blocks.write_path.Given as goal

abbrev pub invariant-loop-tree : goal.invariant-loop-tree
invariant-loop-tree l = record {
  first : ℕ;
  part : PartOf l.self.len l.self.bytes.now first l.tree.len l.tree.bytes.now;
  inside : Inside (plain digest) (cut l.self.len l.self.bytes.now) l.self.count l.before l.initial.out l.out first l.tree.count l.i l.depth;
}

abbrev pub decreases-loop-tree : goal.decreases-loop-tree
decreases-loop-tree l = l.tree.count
