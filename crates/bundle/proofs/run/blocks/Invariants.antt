use Rattle.std.proofs.Common.{◌≡◌}
use Rattle.bundle.proofs.RunLaws.{Looping}
use Rattle.bundle.proofs.run.blocks.Given as goal

abbrev pub invariant-loop-number : goal.invariant-loop-number
invariant-loop-number l =
    (l.output.buffer.ghost_name ≡ l.initial.output.buffer.ghost_name)
    × Looping l.geometry.block_len l.geometry.image_len l.n l.initial.device l.initial.flash l.bytes l.initial.output.buffer.now l.initial.output.end
    l.flash l.output.buffer.now l.device l.output.end l.rest l.number
