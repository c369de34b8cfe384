use Rattle.std.proofs.Common.{arith}
use Rattle.wire.proofs.MessageLaws.{messages-few}
use Rattle.bundle.proofs.packing.unsigned_len.Goals as goal

pub overflow_add-result : goal.overflow_add-result
overflow_add-result c = let g = c.args.geometry in omega (arith, messages-few _ _ g.allowed, c.messages_len.ensures)

pub overflow_add-result-2 : goal.overflow_add-result-2
overflow_add-result-2 c = let g = c.args.geometry in omega (arith, messages-few _ _ g.allowed, c.messages_len.ensures)

pub returns : goal.returns
returns c = rw (c.messages_len.ensures, c.least_len.ensures)
