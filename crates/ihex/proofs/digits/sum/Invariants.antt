use Rattle.ihex.proofs.DigitLaws.{Summing}
use Rattle.ihex.proofs.digits.sum.Given as goal

abbrev pub invariant-loop-i : goal.invariant-loop-i
invariant-loop-i l = Summing l.line l.n l.sum l.i
