use mathlib.Core.Path.{sym, ◌∙◌}
use native.Mathlib.Omega.{arith}
use Rattle.ihex.specs.Code.{octet_at}
use Rattle.ihex.proofs.DigitLaws.{digit-below}
use Rattle.ihex.proofs.digits.octet.Goals as goal

pub returns-in_err-high : goal.returns-in_err-high
unfolding octet_at
returns-in_err-high c = rw (sym c.digit.ensures ∙ c.in_err-high.was) c.from_residual.ensures

pub returns-in_err-low : goal.returns-in_err-low
unfolding octet_at
returns-in_err-low c = rw (sym c.digit.ensures ∙ c.in_ok-high.was, sym c.digit-2.ensures ∙ c.in_err-low.was) c.from_residual-in_err-low.ensures

pub overflow_mul-result : goal.overflow_mul-result
overflow_mul-result c = omega (arith, digit-below _ (sym c.digit.ensures ∙ c.in_ok-high.was))

pub overflow_add-result : goal.overflow_add-result
overflow_add-result c = omega (arith, digit-below _ (sym c.digit.ensures ∙ c.in_ok-high.was), digit-below _ (sym c.digit-2.ensures ∙ c.in_ok-low.was))

pub returns : goal.returns
unfolding octet_at
returns c = rw (sym c.digit.ensures ∙ c.in_ok-high.was, sym c.digit-2.ensures ∙ c.in_ok-low.was)
