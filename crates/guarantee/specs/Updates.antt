-- Updates: a device that has an image takes the sender's update of one block, of either kind. Of the device's own step, from every state, reached by a list or not.
use Rattle.std.specs.Prelude.{◌≡◌, ◌≢◌, Bool, true, List, ℕ, suc, ◌<◌, length}
use Rattle.wire.specs.Manifest.{written}
use Rattle.wire.specs.Message.{at_start}
use Rattle.sender.specs.Job.{Job, count, blocks, manifest_for, update_for, path_for}
use Rattle.machine.specs.declared.state.Stage.TheVariants.{Complete}
use Rattle.machine.specs.declared.state.Device.{Device}
use Rattle.machine.specs.Answer.{Accepted}
use Rattle.machine.specs.Device.{Outcome}
use Rattle.machine.specs.Step.{step}
use Rattle.guarantee.specs.Demand3.{Sendable}

module _ (H : List ℕ → List ℕ) where
  -- The device is complete with the job's manifest, and the flash is the job's image, and behind it what `old` has there: an earlier flash, or this one.
  pub record Installed (job : Job) (old : List ℕ) (d : Device) (flash : List ℕ) : Type 0 where
    pub stage : d.stage ≡ Complete
    pub manifest : d.manifest ≡ manifest_for H job
    pub image : flash ≡ at_start job.image.bytes old

  -- The message was accepted, and the job is then installed.
  pub record Updated (job : Job) (old : List ℕ) (o : Outcome) : Type 0 where
    pub taken : o.answer ≡ Accepted
    pub installed : Installed job old o.device o.flash

module _ (H : List ℕ → List ℕ) (valid : (key message signature : List ℕ) → Bool) where
  -- A device with a's image is offered b's, which the sender can send: as long, in blocks of the same length, and different in block i + 1 at most; for its
  -- model, with a higher serial, and signed.
  pub record UpdateOffered (d : Device) (a b : Job) (i : ℕ) (signature : List ℕ) : Type 0 where
    pub sendable : Sendable b
    pub long : length b.image.bytes ≡ length a.image.bytes
    pub block_long : b.image.block_len ≡ a.image.block_len
    pub within : i < count b.image
    pub others : (j : ℕ) → j < count b.image → j ≢ i → blocks b.image j ≡ blocks a.image j
    pub model : b.model ≡ d.model
    pub newer : a.serial < b.serial
    pub signed : valid d.key (written (manifest_for H b)) signature ≡ true

  -- Such a device takes the sender's message of kind 3, and that of kind 4, with any budget: it then has b's image, and behind that the flash is as it was.
  abbrev pub Updates : Type 0
  Updates =
      (budget : ℕ) (d : Device) (flash old : List ℕ) (a b : Job) (i : ℕ) (signature : List ℕ) → Installed H a old d flash → UpdateOffered d a b i signature
      → Updated H b old (step H valid budget d flash (update_for H b (suc i) signature)) × Updated H b old (step H valid budget d flash (path_for H b (suc i) signature))
