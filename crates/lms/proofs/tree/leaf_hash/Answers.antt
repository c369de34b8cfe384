use Rattle.std.proofs.Common.{ℕ, List, ◌++◌, ap, ◌∙◌, rules}
use Rattle.lms.specs.Notation.{H}
use Rattle.lms.specs.Tree.{leaf_hash}
use Rattle.lms.proofs.HashLaws.{filled-two}
use Rattle.lms.proofs.tree.leaf_hash.Goals as goal

pub returns : goal.returns
unfolding leaf_hash
returns c =
    let key = c.args.key.now in
    (c.finish.ensures _ (c.update.ensures _ c.new.ensures)).0
    ∙ ap H (filled-two 54 22 c.start-s.result key (search rules) (search rules) c.copy.ensures c.copy-2.ensures)
    ∙ ap (λ (x : List ℕ). H (x ++ key)) c.start-s.ensures
