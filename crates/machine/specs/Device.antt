-- A device's state (01, 'Slip, messages, state').
use Rattle.std.specs.Prelude.{◌≡◌, List, [], ℕ, pred, length, replicate}
use Rattle.merkle.specs.Limits.{hash_length, held_bytes}
use Rattle.merkle.specs.Held.{held_in}
use Rattle.wire.specs.Geometry.{count_of}
use Rattle.machine.specs.declared.state.Stage.{Stage}
use Rattle.machine.specs.declared.state.Stage.TheVariants.{Idle, Loading, Complete}
use Rattle.machine.specs.declared.state.Device.{Device}
use Rattle.machine.specs.Answer.{Answer}

-- "A fresh drive is idle."
pub record Fresh (d : Device) : Type 0 where
  pub idle : d.stage ≡ Idle
  pub array : length d.hashes ≡ held_bytes

-- a fresh device with this model and key; manifest and array mean nothing while it is idle
unfoldable pub fresh_with : ℕ → List ℕ → Device
fresh_with model key =
    record {
      model = model;
      key = key;
      stage = Idle;
      manifest = record { version = 0; block_len = 0; model = 0; serial = 0; image_len = 0; root = replicate hash_length 0 };
      hashes = replicate held_bytes 0;
    }

-- "The serial is kept once, in the slip, and counts as 0 when idle."
unfoldable pub serial_of : Device → ℕ
serial_of d = elim d.stage [ Idle ↦ 0 | Loading i ↦ d.manifest.serial | Complete ↦ d.manifest.serial ]

-- the next number of a device that is loading
unfoldable pub next_of : Stage → ℕ
next_of t = elim t [ Idle ↦ 0 | Loading i ↦ i | Complete ↦ 0 ]

-- the hashes held, in block order; how many "follows from slip and next number"
unfoldable pub held_by : Device → List (List ℕ)
held_by d = elim d.stage [ Idle ↦ [] | Loading i ↦ held_in (count_of d.manifest) (pred i) d.hashes | Complete ↦ [] ]

-- A device's state D and its flash F (01: area) between two calls; and after one, with its answer and, as 01's form has it, "count and caller's budget as numbers in the
-- result": the SHA-256 compressions that the message is reported to have taken, and the budget that was handed along (02, change 7).
pub record SituationOf (D F : Type 0) : Type 0 where
  pub device : D
  pub flash : F

pub record OutcomeOf (D F : Type 0) : Type 0 where
  pub answer : Answer
  pub compressions : ℕ
  pub budget : ℕ
  pub device : D
  pub flash : F

abbrev pub Situation : Type 0
Situation = SituationOf Device (List ℕ)

abbrev pub Outcome : Type 0
Outcome = OutcomeOf Device (List ℕ)
