-- `merkle::blocks::Blocks::write_path` meets its contract.
use Rattle.std.proofs.Common.{◌+◌, ◌-◌, refl, arith}
use Rattle.sha256.specs.Sha256.{digest}
use Rattle.sha256.proofs.DigestLaws.{length-digest}
use Rattle.merkle.specs.Hash.{plain}
use Rattle.merkle.specs.Shape.{split, shape}
use Rattle.merkle.proofs.TreeLaws.{part-all, part-left, part-right, part-hash}
use Rattle.merkle.proofs.PathWritingLaws.{inside-all, left-room, to-left, right-room, to-right, some_left, inside-done}
use Rattle.merkle.proofs.blocks.Blocks.write_path.Goals as goal

pub loop-tree-init : goal.loop-tree-init
loop-tree-init c =
    let s = c.args.self in
    record {
      first = 0;
      part = part-all s.len s.bytes.now;
      inside = inside-all (plain digest) _ s.count c.args.before c.args.out.now c.requires.0 c.leaf_depth-depth.result c.leaf_depth-depth.ensures c.requires.1;
    }

pub overflow_sub-depth : goal.overflow_sub-depth
overflow_sub-depth c = some_left c.loop-tree.invariant.inside refl c.loop-tree-test.true

pub put_root-requires : goal.put_root-requires
put_root-requires c = (left-room c.loop-tree.invariant.inside refl c.loop-tree-test.true (omega (arith, c.halves.ensures.left))).1

pub loop-tree-preserved-then-i-left : goal.loop-tree-preserved-then-i-left
loop-tree-preserved-then-i-left c =
    let tree = c.loop-tree.tree in
    let part = c.loop-tree.invariant.part in
    let left = c.halves.ensures.left in
    let right = c.halves.ensures.right in
    let made = part-hash (part-right part (split tree.count) right.0 right.1) (plain digest) (shape (tree.count - split tree.count)) in
    record {
      first = c.loop-tree.invariant.first;
      part = part-left part left.0 left.1;
      inside = rw (left.2, c.put_root.ensures, right.2, made) (to-left c.loop-tree.invariant.inside refl c.loop-tree-test.true (omega (arith, left)) length-digest);
    }

pub put_root-requires-else-i-left : goal.put_root-requires-else-i-left
put_root-requires-else-i-left c = (right-room c.loop-tree.invariant.inside refl c.loop-tree-test.true (omega (arith, c.halves.ensures.left))).1

pub loop-tree-preserved : goal.loop-tree-preserved
loop-tree-preserved c =
    let tree = c.loop-tree.tree in
    let part = c.loop-tree.invariant.part in
    let left = c.halves.ensures.left in
    let right = c.halves.ensures.right in
    let made = part-hash (part-left part left.0 left.1) (plain digest) (shape (split tree.count)) in
    record {
      first = c.loop-tree.invariant.first + split tree.count;
      part = part-right part (split tree.count) right.0 right.1;
      inside = rw (left.2, right.2, c.put_root-else-i-left.ensures, left.2, made) (to-right c.loop-tree.invariant.inside refl c.loop-tree-test.true (omega (arith, left)) length-digest);
    }

pub returns : goal.returns
returns c = inside-done c.loop-tree.invariant.inside (omega arith)
