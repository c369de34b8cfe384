use Rattle.std.proofs.Common.{◌-◌, ◌≤◌, length}
use Rattle.sha256.specs.Sha256.{digest}
use Rattle.sender.specs.Given.{image_of}
use Rattle.wire.proofs.PutLaws.{Put}
use Rattle.bundle.specs.Bundle.{block_messages}
use Rattle.bundle.proofs.packing.put_blocks.Given as goal

abbrev pub invariant-loop-number : goal.invariant-loop-number
invariant-loop-number l = Put l.initial.out l.out (block_messages digest (image_of l.image) (l.number - 1)) l.at × (l.at ≤ length l.initial.out)
