-- The device that has these fields, for functions that are handed them one by one, and its step.
use Rattle.std.specs.Prelude.{◌≡◌, cond, List, ℕ, eqb, length}
use Rattle.std.specs.Prelude.{None}
use Rattle.sha256.specs.Sha256.{digest}
use Rattle.merkle.specs.Limits.{held_bytes}
use Rattle.lms.specs.Lms.{valid}
use Rattle.wire.specs.declared.manifest.Manifest.{Manifest}
use Rattle.wire.specs.declared.refusal.Refusal.TheVariants.{State}
use Rattle.machine.specs.declared.state.Stage.{Stage}
use Rattle.machine.specs.declared.state.Device.{Device}
use Rattle.machine.specs.Answer.{Refused}
use Rattle.machine.specs.Device.{Outcome}
use Rattle.machine.specs.Step.{refusal_of, step}
use Rattle.device.specs.declared.view.View.{View}

abbrev pub device_of : ℕ → List ℕ → Stage → Manifest → List ℕ → Device
device_of model key stage manifest hashes = record { model = model; key = key; stage = stage; manifest = manifest; hashes = hashes }

-- the device that is lent as this view and with these hashes
abbrev pub lent : View → List ℕ → Device
lent v hashes = device_of v.model v.key.now v.stage v.manifest hashes

-- What a message does to the device that is handed in by its fields: the step. One whose hash array has not `held_bytes` bytes (01's flat
-- array, with the limit of 02, change 6) is no device: every message is refused 1, and all stays as it was.
unfoldable pub step_in_place : (budget : ℕ) → Device → (flash m : List ℕ) → Outcome
step_in_place budget d flash m =
    cond (eqb (length d.hashes) held_bytes)
    (step digest valid budget d flash m)
    (record { answer = Refused State; compressions = 0; budget = budget; device = d; flash = flash })

-- no refusal applies to the device that is lent, with some budget
pub record Unrefused (v : View) (hashes flash m : List ℕ) : Type 0 where
  pub budget : ℕ
  pub unrefused : refusal_of digest valid budget (lent v hashes) flash m ≡ None
