-- A device as `fresh_with` makes it is fresh.
use mathlib.Core.Path.{refl}
use Rattle.machine.specs.Device.{fresh_with}
use Rattle.machine.specs.Claims.{FreshIs}

pub fresh-is : FreshIs
unfolding fresh_with
fresh-is model key = record { idle = refl; array = refl }
