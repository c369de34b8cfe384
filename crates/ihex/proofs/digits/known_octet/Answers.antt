use native.Mathlib.Omega.{arith}
use Rattle.ihex.specs.Code.{octet_at}
use Rattle.ihex.proofs.DigitLaws.{digit-below, both-digits}
use Rattle.ihex.proofs.digits.known_octet.Goals as goal

pub value-requires : goal.value-requires
unfolding octet_at
value-requires c = (both-digits _ _ c.requires.1).0

pub value-requires-2 : goal.value-requires-2
unfolding octet_at
value-requires-2 c = (both-digits _ _ c.requires.1).1

pub overflow_mul-result : goal.overflow_mul-result
overflow_mul-result c = omega (arith, digit-below _ c.value.ensures)

pub overflow_add-result : goal.overflow_add-result
overflow_add-result c = omega (arith, digit-below _ c.value.ensures, digit-below _ c.value-2.ensures)

pub returns : goal.returns
unfolding octet_at
returns c = rw (c.value.ensures, c.value-2.ensures)
