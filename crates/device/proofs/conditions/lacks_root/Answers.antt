use mathlib.Core.Path.{ap, ◌∙◌}
use mathlib.Core.Bool.{not}
use Rattle.octets.specs.Octets.{equal}
use Rattle.wire.specs.Geometry.{count_of, blocks_of, tree_over}
use Rattle.machine.specs.Refusals.{lacks_root}
use Rattle.device.proofs.conditions.lacks_root.Goals as goal

pub returns : goal.returns
unfolding lacks_root tree_over blocks_of count_of
returns c =
    let b = c.blocks-blocks.ensures in
    let g = c.known_geometry.ensures in
    ap not (c.equal.ensures ∙ ap (λ y. equal y c.args.manifest.root) (rw (b.0, b.1, b.2, g.0, g.1) at c.root.ensures.0))
