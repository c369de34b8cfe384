-- What a caller from C reads off a state's bytes: the device's status, how long the next block message is, and what it costs.
use Rattle.std.specs.Prelude.{cond, List, [], ◌∷◌, ℕ, Option, None, Some}
use Rattle.sha256.specs.Sha256.{digest}
use Rattle.wire.specs.declared.manifest.Manifest.{Manifest}
use Rattle.wire.specs.declared.refusal.Refusal.TheVariants as refusal
use Rattle.wire.specs.Refusal.{refusal_number}
use Rattle.wire.specs.Geometry.{count_of}
use Rattle.wire.specs.Message.{due_length}
use Rattle.wire.specs.Cost.{cost_due}
use Rattle.machine.specs.declared.state.Stage.{Stage}
use Rattle.machine.specs.declared.state.Stage.TheVariants.{Idle, Loading, Complete}
use Rattle.machine.specs.declared.state.Device.{Device}
use Rattle.machine.specs.Device.{serial_of, next_of}
use Rattle.machine.specs.Refusals.{senseless}
use Rattle.capi.specs.State.{stage_number, decode}
use Rattle.capi.specs.Call.{LengthOutcome}

-- the device that bytes encode, unless refusal 1 applies to it
unfoldable pub sensible : List ℕ → Option Device
sensible b = elim (decode b) [ None ↦ None | Some d ↦ cond (senseless d) None (Some d) ]

-- a number that follows from the manifest, which means nothing while idle
unfoldable pub unless_idle : Stage → ℕ → ℕ
unless_idle t x = elim t [ Idle ↦ 0 | Loading i ↦ x | Complete ↦ x ]

-- stage, next number, block count, model, serial, image length, block length
unfoldable pub status_of : Device → List ℕ
status_of d =
    let t = d.stage in
    let s = d.manifest in
    stage_number t
    ∷ next_of t
    ∷ unless_idle t (count_of s)
    ∷ d.model
    ∷ serial_of d
    ∷ unless_idle t s.image_len
    ∷ unless_idle t s.block_len
    ∷ []

-- The number that is returned, and the caller's array of numbers; after a refusal that is as before.
pub record StatusOutcome : Type 0 where
  pub answer : ℕ
  pub out : List ℕ

unfoldable pub status : (state out : List ℕ) → StatusOutcome
status state out =
    elim (sensible state) [
      | None ↦ record { answer = refusal_number refusal.State; out = out }
      | Some d ↦ record { answer = 0; out = status_of d }
    ]

-- A number of the block message that is due, or that no block is due.
unfoldable pub due_of : (Manifest → (i : ℕ) → ℕ) → ℕ → Device → LengthOutcome
due_of number before d =
    let none-due : LengthOutcome = record { answer = refusal_number refusal.Stage; written = before } in
    elim d.stage [ Idle ↦ none-due | Loading i ↦ record { answer = 0; written = number d.manifest i } | Complete ↦ none-due ]

unfoldable pub read_due : (Manifest → (i : ℕ) → ℕ) → (state : List ℕ) → (before : ℕ) → LengthOutcome
read_due number state before =
    elim (sensible state) [
      | None ↦ record { answer = refusal_number refusal.State; written = before }
      | Some d ↦ due_of number before d
    ]

-- its length, and what it costs (02, change 7): the total that an accepted one reports
abbrev pub due_length_of : ℕ → Device → LengthOutcome
due_length_of = due_of (λ s i. due_length s.block_len s.image_len i)

abbrev pub block_message_length : (state : List ℕ) → (before : ℕ) → LengthOutcome
block_message_length = read_due (λ s i. due_length s.block_len s.image_len i)

abbrev pub due_cost_of : ℕ → Device → LengthOutcome
due_cost_of = due_of (cost_due digest)

abbrev pub block_message_cost : (state : List ℕ) → (before : ℕ) → LengthOutcome
block_message_cost = read_due (cost_due digest)
