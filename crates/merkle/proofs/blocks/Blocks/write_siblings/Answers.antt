-- `merkle::blocks::Blocks::write_siblings` meets its contract.
use Rattle.std.proofs.Common.{◌-◌, refl, arith}
use Rattle.sha256.specs.Sha256.{digest}
use Rattle.sha256.proofs.DigestLaws.{length-digest}
use Rattle.merkle.specs.Hash.{plain}
use Rattle.merkle.specs.Shape.{split, shape}
use Rattle.merkle.proofs.TreeLaws.{part-left, part-right, part-hash}
use Rattle.merkle.proofs.SiblingLaws.{writing-none, writing-room, writing-one, writing-done}
use Rattle.merkle.proofs.blocks.Blocks.write_siblings.Goals as goal

pub loop-tree-init : goal.loop-tree-init
loop-tree-init c =
    let s = c.args.self in
    let found = c.subtree.ensures in
    record {
      part = record { long = c.part-tree.ensures.1; starts = c.part-tree.ensures.0 };
      writing = rw c.part-tree.ensures.2 (
          writing-none (plain digest) _ s.count c.args.before c.args.out.now c.subtree.result c.count-c.result.carried found.1 found.2 c.count-c.ensures.1 (omega (arith, c.count-c.ensures.1))
          );
    }

pub overflow_sub-c : goal.overflow_sub-c
overflow_sub-c c = (writing-room c.loop-tree.invariant.writing refl c.loop-tree-test.true).0

pub put_root-requires : goal.put_root-requires
put_root-requires c = (writing-room c.loop-tree.invariant.writing refl c.loop-tree-test.true).1

pub loop-tree-preserved : goal.loop-tree-preserved
loop-tree-preserved c =
    let tree = c.loop-tree.tree in
    let part = c.loop-tree.invariant.part in
    let left = c.halves.ensures.left in
    let right = c.halves.ensures.right in
    let made = part-hash (part-right part (split tree.count) right.0 right.1) (plain digest) (shape (tree.count - split tree.count)) in
    record {
      part = part-left part left.0 left.1;
      writing = rw (left.2, c.put_root.ensures, right.2, made) (writing-one c.loop-tree.invariant.writing refl c.loop-tree-test.true length-digest);
    }

pub returns : goal.returns
returns c = writing-done c.loop-tree.invariant.writing (omega arith)
