-- The order of the refusals.
use mathlib.Core.Path.{refl}
use mathlib.Core.Bool.{Bool}
use mathlib.Core.List.{List}
use Prim.Native.Nat.{ℕ}
use Rattle.machine.specs.declared.state.Device.{Device}
use Rattle.machine.specs.Refusals.{of_manifest, always, of_program, of_block, of_successor, of_update, of_path_update, of_kind, refusals}
use Rattle.machine.specs.BootCheck.{of_boot}
use Rattle.machine.specs.Claims.{numbers, Orders}

pub orders : (H : List ℕ → List ℕ) (valid : (key message signature : List ℕ) → Bool) (budget : ℕ) (d : Device) (flash m : List ℕ) → Orders H valid budget d flash m
unfolding numbers always of_manifest of_program of_block of_successor of_update of_path_update of_kind refusals of_boot
orders H valid budget d flash m = record { program = refl; block = refl; update = refl; path_update = refl; boot = refl }
