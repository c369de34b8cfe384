use Rattle.decimal.proofs.ReadingLaws.{Reading}
use Rattle.decimal.proofs.reading.parse.Given as goal

abbrev pub invariant-loop-digit : goal.invariant-loop-digit
invariant-loop-digit l = Reading l.text l.value l.digit-index
