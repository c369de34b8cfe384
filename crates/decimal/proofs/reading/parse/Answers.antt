use Rattle.std.proofs.Common.{arith}
use Rattle.decimal.proofs.ReadingLaws.{reading-next}
use Rattle.decimal.proofs.reading.parse.Goals as goal

pub loop-digit-preserved : goal.loop-digit-preserved
loop-digit-preserved c = reading-next _ c.loop-digit.invariant (omega arith) c.if-not-is_ascii_digit.ensures.cases (omega arith) (omega arith)
