-- The numbers of refusals.
use Prim.Native.Nat.{◌<◌}
use native.Mathlib.Omega.{arith}
use Rattle.wire.specs.declared.refusal.Refusal.{Refusal}
use Rattle.wire.specs.Refusal.{refusal_number}

-- no refusal has the number of an accepted message
pub above_zero : (r : Refusal) → 0 < refusal_number r
above_zero r = grind arith
