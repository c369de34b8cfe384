-- What is shown of the interface for C (in proofs/).
use Rattle.std.specs.Prelude.{◌≡◌, ◌⊎◌, List, ℕ, ◌^◌, ◌<◌, length, Some}
use Rattle.octets.specs.Octets.{Bytes}
use Rattle.sha256.specs.Sha256.{digest}
use Rattle.merkle.specs.Limits.{held_bytes}
use Rattle.lms.specs.Lms.{key_length, valid}
use Rattle.wire.specs.declared.kind.Kind.TheVariants.{Block, Update}
use Rattle.wire.specs.Manifest as manifest
use Rattle.wire.specs.Message.{kind}
use Rattle.machine.specs.declared.state.Stage.TheVariants.{Complete}
use Rattle.machine.specs.declared.state.Device.{Device}
use Rattle.machine.specs.Device.{fresh_with, next_of}
use Rattle.machine.specs.Readers.{number_of}
use Rattle.machine.specs.Step.{step, Call, step_call}
use Rattle.guarantee.specs.Run.{Trace, after, answer_to}
use Rattle.guarantee.specs.Altered.{Booted}
use Rattle.capi.specs.State.{encode, stage_in, decode}
use Rattle.capi.specs.Call.{count_after, call_outcome, receive, boot_check_of}
use Rattle.capi.specs.Run.{calls_after, returned, counted, AllBytes}

-- A state's fields fit their bytes: that of a fresh device, and every one that messages of bytes lead to from there.
pub record Fits (d : Device) : Type 0 where
  pub model : d.model < 256 ^ 4
  pub key : length d.key ≡ key_length
  pub next : next_of d.stage < 256 ^ 2
  pub manifest : manifest.Fits d.manifest
  pub hashes : length d.hashes ≡ held_bytes

abbrev pub FreshFits : Type 0
FreshFits = (model : ℕ) (key : List ℕ) → model < 256 ^ 4 → length key ≡ key_length → Fits (fresh_with model key)

-- The state's bytes give back the state.
abbrev pub GivesBack : Type 0
GivesBack = (d : Device) → Fits d → decode (encode d) ≡ Some d

-- A call on a state's bytes is the device's step.
abbrev pub IsStep : Type 0
IsStep =
    (d : Device) (flash m : List ℕ) (budget before : ℕ) → Fits d
    → receive (encode d) flash m budget before ≡ call_outcome (step digest valid budget d flash m) (encode d) before

-- What 0 of the boot check proves of bytes and memory, whoever wrote them.
abbrev pub BootProvesFromC : Type 0
BootProvesFromC = (state flash : List ℕ) → boot_check_of state flash ≡ 0 → (d : Device) × (decode state ≡ Some d) × Booted digest d flash

-- The fields of every device that bytes encode fit their bytes.
abbrev pub DecodedFits : Type 0
DecodedFits = (state : List ℕ) → Bytes state → (d : Device) → decode state ≡ Some d → Fits d

-- The boot check returns 0 right after each call that reports a program complete, an accepted update of kind 3 or last block, whatever bytes and memory that call was given.
abbrev pub PassesAfter : Type 0
PassesAfter =
    (state flash m : List ℕ) (budget before : ℕ) → Bytes state → Bytes m
    → (let c = receive state flash m budget before in
    c.answer ≡ 0 → (kind m ≡ Update) ⊎ ((kind m ≡ Block) × (stage_in c.state ≡ Some Complete)) → boot_check_of c.state c.flash ≡ 0)

-- A caller that keeps state and flash from call to call runs the device that demand 3 speaks of: after a list of calls the bytes are those of that device and its
-- flash; the number that one call more returns is that of its answer, and the compressions that the device reports are written where it accepts.
pub record Runs (d : Device) (flash : List ℕ) (cs : Trace Call) : Type 0 where
  pub fits : Fits (after (step_call digest valid) d flash cs).device
  pub memory : calls_after (encode d) flash cs ≡ (let s = after (step_call digest valid) d flash cs in record { device = encode s.device; flash = s.flash })
  pub answers : (c : Call) → returned (encode d) flash cs c ≡ number_of (answer_to (step_call digest valid) d flash cs c)
  pub reports : (c : Call) (before : ℕ) → counted (encode d) flash cs c before
      ≡ (let s = after (step_call digest valid) d flash cs in
      let o = step_call digest valid s.device s.flash c in count_after o.answer o.compressions before)

abbrev pub RunsDevice : Type 0
RunsDevice = (d : Device) (flash : List ℕ) → Fits d → (cs : Trace Call) → AllBytes cs → Runs d flash cs
