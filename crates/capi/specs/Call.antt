-- What the functions for C return, and what they leave in the caller's memory: 0 or a refusal's number.
use Rattle.std.specs.Prelude.{Bool, cond, None, Some, Ok, Err, List, ℕ}
use Rattle.sha256.specs.Sha256.{digest}
use Rattle.lms.specs.Lms.{valid}
use Rattle.wire.specs.declared.refusal.Refusal.TheVariants as refusal
use Rattle.wire.specs.Refusal.{refusal_number}
use Rattle.sender.specs.Send.{Sent}
use Rattle.ihex.specs.Read as ihex
use Rattle.machine.specs.declared.state.Device.{Device}
use Rattle.machine.specs.Answer.{Answer}
use Rattle.machine.specs.Readers.{number_of}
use Rattle.machine.specs.Device as device
use Rattle.machine.specs.Step.{step}
use Rattle.machine.specs.BootCheck.{boot_check}
use Rattle.capi.specs.State.{encode, decode}

-- a verdict: 0 where the signature is valid, else 9
unfoldable pub verdict : Bool → ℕ
verdict ok = cond ok 0 (refusal_number refusal.Unsigned)

-- The sender's answer: the number that is returned, and the length that is written through a pointer; after a refusal that is as before.
pub record LengthOutcome : Type 0 where
  pub answer : ℕ
  pub written : ℕ

abbrev pub length_outcome : ℕ → Sent → LengthOutcome
length_outcome before (Ok n) = record { answer = 0; written = n }
length_outcome before (Err r) = record { answer = refusal_number r; written = before }

-- The Intel HEX reader: the number that is returned, the line at fault, 0 where none is, and the buffer.
pub record IhexOutcome : Type 0 where
  pub answer : ℕ
  pub line : ℕ
  pub buffer : List ℕ

abbrev pub ihex_outcome : ihex.TextOutcome → IhexOutcome
ihex_outcome o =
    elim o.answer [
      | Ok _ ↦ record { answer = 0; line = 0; buffer = o.buffer }
      | Err f ↦ record { answer = refusal_number f.refusal; line = f.line; buffer = o.buffer }
    ]

unfoldable pub read_text : (text : List ℕ) (base k : ℕ) (buffer : List ℕ) → IhexOutcome
read_text text base k buffer = ihex_outcome (ihex.read text base k buffer)

-- The device: answer, the number behind the caller's pointer to the compressions, state bytes and flash after a message.
pub record CallOutcome : Type 0 where
  pub answer : ℕ
  pub compressions : ℕ
  pub state : List ℕ
  pub flash : List ℕ

-- the state's bytes: those of the new device where the message was accepted, else as before
unfoldable pub state_after : Answer → Device → List ℕ → List ℕ
state_after a d state = elim a [ Ok _ ↦ encode d | Err r ↦ state ]

-- the number behind the pointer: what the device reports where the message was accepted, else as before
unfoldable pub count_after : Answer → (count before : ℕ) → ℕ
count_after a count before = elim a [ Ok _ ↦ count | Err r ↦ before ]

unfoldable pub call_outcome : device.Outcome → List ℕ → (before : ℕ) → CallOutcome
call_outcome o state before =
    record {
      answer = number_of o.answer;
      compressions = count_after o.answer o.compressions before;
      state = state_after o.answer o.device state;
      flash = o.flash;
    }

-- bytes that encode no state are a state that makes no sense: refused 1, nothing changed
unfoldable pub receive : (state flash message : List ℕ) (budget before : ℕ) → CallOutcome
receive state flash m budget before =
    elim (decode state) [
      | None ↦ record { answer = refusal_number refusal.State; compressions = before; state = state; flash = flash }
      | Some d ↦ call_outcome (step digest valid budget d flash m) state before
    ]

-- the boot check: its answer as a number; 1 too for bytes that encode no state
unfoldable pub boot_check_of : (state flash : List ℕ) → ℕ
boot_check_of state flash = elim (decode state) [ None ↦ refusal_number refusal.State | Some d ↦ number_of (boot_check digest d flash) ]
