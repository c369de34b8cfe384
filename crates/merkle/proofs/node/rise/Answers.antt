-- `merkle::node::rise` meets its contract: two copies fill the array.
use Rattle.std.proofs.Common.{◌≡◌, cond, [], ◌∷◌, ◌++◌, ap, ◌∙◌, append-nil, length, rules}
use Rattle.octets.specs.Octets.{joined}
use Rattle.octets.proofs.JoinedLaws.{copied, copy, none}
use Rattle.merkle.specs.Limits.{hash_length}
use Rattle.merkle.specs.Path.{beside_input}
use Rattle.merkle.proofs.node.rise.Goals.{then-right, else-right}
use Rattle.merkle.proofs.node.rise.Goals as goal

pub returns : goal.returns
unfolding beside_input joined
returns c =
    let a = c.args in
    let x = a.x.now in
    let y = a.sibling.now in
    let long : (length x ≡ hash_length) × (length y ≡ hash_length) = (search rules, search rules) in
    let filled : c.if-right.both ≡ cond a.right (x ++ y) (y ++ x) =
    elim c.if-right.branch [
      | then-right w ↦ rw w.if-right.true (w.both-is ∙ copied (hash_length ∷ hash_length ∷ []) (x ∷ y ∷ []) (rw (long.0, long.1)) (copy w.copy.ensures (copy w.copy-then-right.ensures none)) ∙ ap (λ z. x ++ z) (append-nil y))
      | else-right w ↦ rw w.if-right.false (w.both-is ∙ copied (hash_length ∷ hash_length ∷ []) (y ∷ x ∷ []) (rw (long.0, long.1)) (copy w.copy-else-right.ensures (copy w.copy-else-right-2.ensures none)) ∙ ap (λ z. y ++ z) (append-nil x))
    ] in
    rw filled at c.node_hash.ensures
