-- `merkle::path::path_hash` meets its contract.
use Rattle.std.proofs.Common.{◌*◌, sym, ap, ◌∙◌}
use Rattle.merkle.specs.Limits.{hash_length}
use Rattle.merkle.specs.Shape.{shape}
use Rattle.merkle.specs.Path.{way, path_hash}
use Rattle.merkle.specs.Cost.{path_cost}
use Rattle.merkle.proofs.WayLaws.{leaf-depths}
use Rattle.merkle.proofs.path.path_hash.Goals as goal

pub returns : goal.returns
unfolding path_hash path_cost
returns c =
    let a = c.args in
    let d = leaf-depths.1 a.n a.before c.requires.0 in
    rw d at (c.climb.ensures (way 0 (shape a.n) a.before) c.descend-descent.ensures.1 (c.requires.1 ∙ ap (λ j. hash_length * j) (sym d)))
