use mathlib.Core.Path.{◌≡◌}
use Prim.Native.Nat.{◌+◌, ◌/◌, ◌^◌}
use Rattle.lms.specs.Tree.{climb}
use Rattle.lms.proofs.tree.candidate.Given as goal

abbrev pub invariant-loop-sibling : goal.invariant-loop-sibling
invariant-loop-sibling l =
    (l.node ≡ (2 ^ l.height + l.leaf.q) / 2 ^ l.sibling-index) × (l.hash ≡ climb l.leaf.id (2 ^ l.height + l.leaf.q) l.key l.path l.sibling-index)
