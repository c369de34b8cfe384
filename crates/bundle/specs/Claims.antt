-- What is shown of bundle and loader (in proofs/).
use Rattle.std.specs.Prelude.{◌≡◌, true, false, List, [], ◌∷◌, ◌++◌, ℕ, zero, suc, ◌≤◌, ◌<◌, length}
use Rattle.decimal.specs.Decimal.{ascii, line}
use Rattle.sha256.specs.Sha256.{digest}
use Rattle.lms.specs.Lms.{valid}
use Rattle.wire.specs.Size.{wrong_size}
use Rattle.wire.specs.Manifest.{written}
use Rattle.wire.specs.Message.{messages_length, at_start}
use Rattle.sender.specs.Job.{Image, Job, count, manifest_for}
use Rattle.machine.specs.declared.state.Stage.TheVariants.{Complete}
use Rattle.guarantee.specs.Demand3.{Sendable}
use Rattle.bundle.specs.Text.{bundle_line, slip_line, block_line}
use Rattle.bundle.specs.Load.{key_file_length, max_bundle, Printed, device_for, printed_for}
use Rattle.bundle.specs.Bundle.{block_messages, bundle_for}

-- "Given a bundle.bin of four zero bytes and any key.bin of 60 bytes, the whole output is"
abbrev pub Sample : Type 0
Sample = (key flash : List ℕ) → length key ≡ key_file_length → (printed_for key (0 ∷ 0 ∷ 0 ∷ 0 ∷ []) flash).text ≡ ascii "bundle 4\nslip 0 2\nstate idle 0\n"

-- All n block messages together, which carry n - 1 hashes, are as long as `wire` says.
abbrev pub MessagesLength : Type 0
MessagesLength = (x : Image) → wrong_size x.block_len (length x.bytes) ≡ false
    → length (block_messages digest x (count x)) ≡ messages_length x.block_len (length x.bytes)

-- The sender's job suits the device of key.bin, the signature is valid under its key, and program and bundle have room.
pub record Loadable (key flash : List ℕ) (job : Job) (filler signature : List ℕ) : Type 0 where
  pub key_long : length key ≡ key_file_length
  pub sendable : Sendable job
  pub model : job.model ≡ (device_for key).model
  pub serial : 0 < job.serial
  pub room : length job.image.bytes ≤ length flash
  pub signed : valid (device_for key).key (written (manifest_for digest job)) signature ≡ true
  pub fits : length (bundle_for digest job filler signature) ≤ max_bundle

-- lines of `left` accepted block messages, from number i on
unfoldable pub accepted_from : (left i : ℕ) → List ℕ
accepted_from zero i = []
accepted_from (suc left) i = block_line i 0 ++ accepted_from left (suc i)

-- The loader took the job's bundle whole: it printed that each message was accepted and that the device is complete, with the job's manifest and image, and the
-- flash beyond is as before.
pub record Whole (job : Job) (bundle flash : List ℕ) (p : Printed) : Type 0 where
  pub text : p.text ≡ bundle_line (length bundle) ++ slip_line 0 ++ accepted_from (count job.image) 1 ++ line (ascii "state complete ") (count job.image)
  pub stage : p.device.stage ≡ Complete
  pub manifest : p.device.manifest ≡ manifest_for digest job
  pub image : p.flash ≡ at_start job.image.bytes flash

-- The showroom's bundle for an image, with any filler, loads to complete with that image.
abbrev pub LoadsWhole : Type 0
LoadsWhole = (key flash : List ℕ) (job : Job) (filler signature : List ℕ) → Loadable key flash job filler signature
    → (let bundle = bundle_for digest job filler signature in Whole job bundle flash (printed_for key bundle flash))
