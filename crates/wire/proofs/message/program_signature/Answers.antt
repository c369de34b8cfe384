use Rattle.octets.proofs.CopyLaws.{part-from}
use Rattle.wire.specs.Message.{program_signature}
use Rattle.wire.proofs.message.program_signature.Goals as goal

pub returns : goal.returns
unfolding program_signature
returns c = rw part-from
