use Rattle.std.proofs.Common.{◌≡◌, ℕ, ◌%◌, List, ◌++◌, ap, ◌∙◌, eq-eqb, ne_eqb, arith, rules}
use Rattle.lms.specs.Notation.{H}
use Rattle.lms.specs.Tree.{parent}
use Rattle.lms.proofs.HashLaws.{filled}
use Rattle.lms.proofs.tree.parent.Goals.{then-node-eq1, else-node-eq1}
use Rattle.lms.proofs.tree.parent.Goals as goal

pub returns : goal.returns
unfolding parent
returns c =
    let a = c.args in
    let s = c.start-s in
    -- the hash input, whichever child is the left one
    let hashed : H c.if-node-eq1.b ≡ parent a.id.now a.node a.sibling.now a.hash.now =
    elim c.if-node-eq1.branch [
      | then-node-eq1 w ↦ rw (eq-eqb (a.node % 2) 1 w.if-node-eq1.true)
          (ap H (w.b-is
          ∙ filled 86 22 54 s.result a.sibling.now a.hash.now (search rules) (omega arith) (omega arith) c.copy.ensures w.copy-then-node-eq1.ensures w.copy-then-node-eq1-2.ensures)
          ∙ ap (λ (x : List ℕ). H (x ++ a.sibling.now ++ a.hash.now)) s.ensures)
      | else-node-eq1 w ↦ rw (ne_eqb (a.node % 2) 1 w.if-node-eq1.false)
          (ap H (w.b-is
          ∙ filled 86 22 54 s.result a.hash.now a.sibling.now (search rules) (omega arith) (omega arith) c.copy.ensures w.copy-else-node-eq1.ensures w.copy-else-node-eq1-2.ensures)
          ∙ ap (λ (x : List ℕ). H (x ++ a.hash.now ++ a.sibling.now)) s.ensures)
    ] in
    (c.finish.ensures _ (c.update.ensures _ c.new.ensures)).0 ∙ hashed
