-- A list of calls from C: the caller keeps state and flash from call to call.
use Rattle.std.specs.Prelude.{List, ℕ}
use Rattle.octets.specs.Octets.{Bytes}
use Rattle.machine.specs.Device.{SituationOf}
use Rattle.machine.specs.Step.{Call}
use Rattle.guarantee.specs.Run.{Trace, empty, ◌▷◌}
use Rattle.capi.specs.Call.{CallOutcome, receive}

-- what the caller's memory holds between two calls: the device as its state's bytes, and the flash
abbrev pub left : CallOutcome → SituationOf (List ℕ) (List ℕ)
left c = record { device = c.state; flash = c.flash }

-- one call more, with `before` behind the pointer to the compressions
abbrev pub called : SituationOf (List ℕ) (List ℕ) → Call → (before : ℕ) → CallOutcome
called b c before = receive b.device b.flash c.message c.budget before

-- memory after a list of calls; it depends on nothing that stands behind the pointer, so 0 may stand there
unfoldable pub calls_after : (state flash : List ℕ) → Trace Call → SituationOf (List ℕ) (List ℕ)
calls_after state flash empty = record { device = state; flash = flash }
calls_after state flash (cs ▷ c) = left (called (calls_after state flash cs) c 0)

-- what one call more returns after a list of calls, and what it leaves behind the pointer
unfoldable pub returned : (state flash : List ℕ) → Trace Call → Call → ℕ
returned state flash cs c = (called (calls_after state flash cs) c 0).answer

unfoldable pub counted : (state flash : List ℕ) → Trace Call → Call → (before : ℕ) → ℕ
counted state flash cs c before = (called (calls_after state flash cs) c before).compressions

-- every message is a string of bytes
unfoldable pub AllBytes : Trace Call → Type 0
AllBytes empty = Unit {0}
AllBytes (cs ▷ c) = AllBytes cs × Bytes c.message
