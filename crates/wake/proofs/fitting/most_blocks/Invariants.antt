use Rattle.wake.proofs.FitLaws.{Above}
use Rattle.wake.proofs.fitting.most_blocks.Given as goal

abbrev pub invariant-loop-n : goal.invariant-loop-n
invariant-loop-n l = Above l.len l.budget l.n
