-- For the code alone: what the contracts of its inner functions say besides.
use Rattle.std.specs.Prelude.{◌≡◌, cond, Option, None, Some, List, ℕ, ◌+◌}
use Rattle.decimal.specs.Buffer.{Appended}
use Rattle.wire.specs.declared.kind.Kind.TheVariants.{Program}
use Rattle.wire.specs.Message.{least_length, messages_length}
use Rattle.machine.specs.declared.state.Device.{Device}
use Rattle.bundle.specs.Parts.{trailer_length, nowhere, program_at}
use Rattle.bundle.specs.Load.{Printed}

-- where the kind 1 message starts, if anywhere
unfoldable pub start_of : List ℕ → Option ℕ
start_of b = cond (nowhere b) None (Some (program_at b))

-- The bytes of a bundle for an image of T bytes in blocks of L, but for filler and signature.
abbrev pub unsigned_length : (L T : ℕ) → ℕ
unsigned_length L T = messages_length L T + least_length Program + trailer_length

-- The text of p stands in the buffer (`Appended`), and d and f are the device and the flash at its end.
pub record Ran (p : Printed) (out : List ℕ) (at : ℕ) (out' : List ℕ) (next : ℕ) (d : Device) (f : List ℕ) : Type 0 where
  pub appended : Appended out at out' next p.text
  pub device : d ≡ p.device
  pub flash : f ≡ p.flash
