-- Recovery: there is no old program to fall back on, so no list of calls may leave a device that takes no new one. Said of any step of the device, as
-- demand 3 is; it follows from demand 3 (proofs/RecoveryHolds), so it demands nothing further.
use Rattle.std.specs.Prelude.{◌≡◌, Bool, true, false, List, ℕ, zero, suc, ◌≤◌, ◌<◌, length}
use Rattle.wire.specs.declared.kind.Kind.TheVariants.{Program}
use Rattle.wire.specs.declared.refusal.Refusal.TheVariants as refusal
use Rattle.wire.specs.Manifest.{written}
use Rattle.wire.specs.Message.{kind, least_length, manifest_in}
use Rattle.merkle.specs.Cost.{most_cost}
use Rattle.wire.specs.Cost.{cost_due}
use Rattle.sender.specs.Job.{Image, Job, count, manifest_for, program_for, block_for}
use Rattle.machine.specs.declared.state.Stage.TheVariants.{Idle}
use Rattle.machine.specs.declared.state.Device.{Device}
use Rattle.machine.specs.Answer.{Accepted, Refused}
use Rattle.machine.specs.Device.{Fresh, serial_of, Outcome}
use Rattle.machine.specs.Refusals.{senseless}
use Rattle.machine.specs.Step.{step, Call, step_call}
use Rattle.guarantee.specs.Part.{whole, call}
use Rattle.guarantee.specs.Run.{Trace, empty, ◌▷◌, after, answer_to}
use Rattle.guarantee.specs.Demand3.{Sendable, Honest, Loaded}
use Rattle.guarantee.specs.Updates.{Installed}

-- A list of calls, and after it the sender's block messages from 1 to j, each with this budget.
unfoldable pub then_sent : (List ℕ → List ℕ) → Image → (budget : ℕ) → Trace Call → ℕ → Trace Call
then_sent H image budget cs zero = cs
then_sent H image budget cs (suc j) = then_sent H image budget cs j ▷ call budget (block_for H image (suc j))

-- The budget suffices for each block message of the job.
abbrev pub Covers : (List ℕ → List ℕ) → Job → (budget : ℕ) → Type 0
Covers H job budget = (i : ℕ) → 0 < i → i ≤ count job.image → cost_due H (manifest_for H job) i ≤ budget

-- No block message costs more than `most_cost`: as a budget it suffices for every job.
abbrev pub MostCovers : (List ℕ → List ℕ) → Type 0
MostCovers H = (job : Job) → Sendable job → Covers H job most_cost

module _ (H : List ℕ → List ℕ) (valid : (key message signature : List ℕ) → Bool) (step : Device → List ℕ → Call → Outcome) (d : Device) (flash : List ℕ) where
  -- What a device takes after a list: a program that the sender can send, for the device's model, with a serial above the current one (above 0 when idle), room in the
  -- flash, and a signature that is valid under the device's key.
  pub record Offered (cs : Trace Call) (job : Job) (signature : List ℕ) : Type 0 where
    pub sendable : Sendable job
    pub model : job.model ≡ d.model
    pub newer : serial_of (after step d flash cs).device < job.serial
    pub room : length job.image.bytes ≤ length flash
    pub signed : valid d.key (written (manifest_for H job)) signature ≡ true

  -- The sender's messages for such a program load it: the new program is accepted with any budget, and its blocks in order, with budgets that suffice, complete it,
  -- whatever refused messages come between, and with none between too.
  pub record Recovers (cs : Trace Call) (job : Job) (signature : List ℕ) : Type 0 where
    pub taken : (budget : ℕ) → answer_to step d flash cs (call budget (program_for H job signature)) ≡ Accepted
    pub loaded : (budget : ℕ) (list : Trace Call) → Honest H valid (whole H valid) step d flash job cs (call budget (program_for H job signature)) (count job.image) list
        → Loaded H valid (whole H valid) step d flash job cs list
    pub none_between : (first budget : ℕ) → Covers H job budget
        → Loaded H valid (whole H valid) step d flash job cs (then_sent H job.image budget (cs ▷ call first (program_for H job signature)) (count job.image))

-- Recovery, after every list of calls to a fresh device.
abbrev pub Recovery : (H : List ℕ → List ℕ) (valid : (key message signature : List ℕ) → Bool) (step : Device → List ℕ → Call → Outcome) → Type 0
Recovery H valid step =
    (d : Device) → Fresh d → (flash : List ℕ) (cs : Trace Call) (job : Job) (signature : List ℕ) → Offered H valid step d flash cs job signature
    → Recovers H valid step d flash cs job signature

-- Of the device's own step: from every state to which refusal 1 does not apply, reached by a list or not.
abbrev pub RecoveryFrom : (H : List ℕ → List ℕ) (valid : (key message signature : List ℕ) → Bool) → Type 0
RecoveryFrom H valid =
    (d : Device) → senseless d ≡ false → (flash : List ℕ) (job : Job) (signature : List ℕ) → Offered H valid (step_call H valid) d flash empty job signature
    → Recovers H valid (step_call H valid) d flash empty job signature

-- A device that is refused 19 at its last block stays loading (`OneCall.refused`), and its own manifest in a further new program is refused 7, as it is where the
-- device is complete. (6 comes before 7; every manifest that a device took has its model.)
abbrev pub SameAgain : (H : List ℕ → List ℕ) (valid : (key message signature : List ℕ) → Bool) → Type 0
SameAgain H valid =
    (budget : ℕ) (d : Device) → senseless d ≡ false → (d.stage ≡ Idle → ⊥) → d.manifest.model ≡ d.model → (flash m : List ℕ) → kind m ≡ Program → least_length Program ≤ length m
    → manifest_in m ≡ d.manifest → (step H valid budget d flash m).answer ≡ Refused refusal.Serial

-- A higher serial is one way out (`RecoveryFrom`). The other: the state saved right after the new program, put back over any flash with room, and the blocks 1 to n
-- again, with a budget that suffices. Device and flash are then as if the new program had just been taken over this flash, so all that `RecoveryFrom` says counts here
-- too, with refused messages between the blocks.
pub record Restarts (H : List ℕ → List ℕ) (valid : (key message signature : List ℕ) → Bool) (d saved : Device) (now : List ℕ) (job : Job) (signature : List ℕ) : Type 0 where
  pub same : (budget : ℕ) → after (step_call H valid) d now (empty ▷ call budget (program_for H job signature)) ≡ record { device = saved; flash = now }
  pub recovers : Recovers H valid (step_call H valid) d now empty job signature
  pub loads : (budget : ℕ) → Covers H job budget
      → (let end = after (step_call H valid) saved now (then_sent H job.image budget empty (count job.image)) in Installed H job now end.device end.flash)

abbrev pub PutBack : (H : List ℕ → List ℕ) (valid : (key message signature : List ℕ) → Bool) → Type 0
PutBack H valid =
    (d : Device) → senseless d ≡ false → (flash : List ℕ) (job : Job) (signature : List ℕ) → Offered H valid (step_call H valid) d flash empty job signature
    → (budget : ℕ) (now : List ℕ) → length job.image.bytes ≤ length now
    → Restarts H valid d (step H valid budget d flash (program_for H job signature)).device now job signature
