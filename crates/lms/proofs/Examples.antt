-- RFC 8554's own examples of a string's digits, by computation.
use mathlib.Core.Path.{refl}
use Rattle.lms.specs.Notation.{coef}
use Rattle.lms.specs.Claims.{Digits}

pub digits : Digits
unfolding coef
digits = (refl, refl)
