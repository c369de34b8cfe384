use mathlib.Core.Path.{◌∙◌}
use Rattle.wire.proofs.GeometryLaws.{before-is, with-copied}
use Rattle.device.proofs.accept.write_block.Goals as goal

pub returns : goal.returns
returns c =
    let a = c.args in
    rw (before-is a.number) at c.copy.ensures ∙ with-copied a.len a.flash.now a.number a.block.now
