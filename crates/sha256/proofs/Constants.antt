-- The constants, by computation.
use Rattle.std.proofs.Common.{refl}
use Rattle.sha256.specs.Sha256.{K, H0}
use Rattle.sha256.specs.Claims.{divides, primes, fraction, fractions, Constants}

pub constants : Constants
unfolding K H0 divides primes fraction fractions
constants = (refl, refl)
