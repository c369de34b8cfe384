use mathlib.Core.Path.{sym, ◌∙◌}
use native.Mathlib.Omega.{arith}
use Rattle.ihex.proofs.DigitLaws.{summing-done, summing-wrong, summing-next}
use Rattle.ihex.proofs.digits.sum.Goals as goal

pub returns-in_err-sum : goal.returns-in_err-sum
returns-in_err-sum c = c.from_residual.ensures ∙ summing-wrong _ _ c.requires c.loop-i.invariant (omega arith) (sym c.octet.ensures ∙ c.in_err-sum.was)

pub loop-i-preserved : goal.loop-i-preserved
loop-i-preserved c = summing-next _ _ c.requires c.loop-i.invariant (omega arith) (sym c.octet.ensures ∙ c.in_ok-sum.was)

pub returns : goal.returns
returns c = summing-done _ _ c.requires c.loop-i.invariant (omega arith)
