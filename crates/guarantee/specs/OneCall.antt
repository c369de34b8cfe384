-- One call, with nothing assumed (02, change 5: "A program reported complete by either then has its root at that moment, with nothing assumed of the area"). Said of
-- any step of the device, as demand 3 is, but for every state and every flash handed in, reached by a list or not.
use Rattle.std.specs.Prelude.{◌≡◌, ◌⊎◌, Bool, List, ℕ, ◌≤◌, length, Option, Ok, Err}
use Rattle.wire.specs.declared.kind.Kind.TheVariants.{Block, Update, PathUpdate}
use Rattle.wire.specs.declared.manifest.Manifest.{Manifest}
use Rattle.wire.specs.declared.refusal.Refusal.{Refusal}
use Rattle.wire.specs.Geometry.{tree_over}
use Rattle.wire.specs.Message.{kind, manifest_in}
use Rattle.machine.specs.declared.state.Stage.TheVariants.{Complete}
use Rattle.machine.specs.declared.state.Device.{Device}
use Rattle.machine.specs.Answer.{Accepted, Refused}
use Rattle.machine.specs.Device.{Outcome}
use Rattle.machine.specs.Step.{answer_of, total, refusal_of, step}
use Rattle.guarantee.specs.Behind.{goes_by}

-- The flash has the bytes that the manifest needs, and the tree over it has the manifest's root.
pub record Rooted (H : List ℕ → List ℕ) (s : Manifest) (flash : List ℕ) : Type 0 where
  pub room : s.image_len ≤ length flash
  pub root : tree_over H s flash ≡ s.root

-- Message m to device d with this budget, over this flash; `refusal` gives the first refusal that applies, if any.
pub record OneCall (H : List ℕ → List ℕ) (refusal : Device → List ℕ → List ℕ → Option Refusal) (budget : ℕ) (step : Device → List ℕ → List ℕ → Outcome) (d : Device) (flash m : List ℕ)
    : Type 0 where
  -- It is accepted where none of the refusals applies, and otherwise gets the first that does: so 19 and 20 are given where they apply.
  pub answers : (step d flash m).answer ≡ answer_of (refusal d flash m)
  -- An accepted call reports its total, a refused one 0, and both the budget handed in.
  pub reports : ((step d flash m).compressions ≡ elim (step d flash m).answer [ Ok _ ↦ total H (kind m) d flash m | Err r ↦ 0 ]) × ((step d flash m).budget ≡ budget)
  -- A refused call leaves device and flash as they were.
  pub refused : (r : Refusal) → (step d flash m).answer ≡ Refused r → ((step d flash m).device ≡ d) × ((step d flash m).flash ≡ flash)
  -- An accepted one leaves the manifest that it goes by: its own, or else the device's.
  pub manifest : (step d flash m).answer ≡ Accepted → (step d flash m).device.manifest ≡ goes_by d m
  -- "Kind 3 now first works out the tree over the area as handed in": that had the root of the manifest that the device had before the call
  pub before : kind m ≡ Update → (step d flash m).answer ≡ Accepted → Rooted H d.manifest flash
  -- After an accepted update the flash has the new manifest's root; after an accepted block that makes the stage complete, that of the device's manifest.
  pub update : kind m ≡ Update → (step d flash m).answer ≡ Accepted → Rooted H (manifest_in m) (step d flash m).flash
  pub last : kind m ≡ Block → (step d flash m).answer ≡ Accepted → (step d flash m).device.stage ≡ Complete → Rooted H d.manifest (step d flash m).flash
  -- Besides a block and an update only a path update leaves the stage complete.
  pub only : (step d flash m).answer ≡ Accepted → (step d flash m).device.stage ≡ Complete → (kind m ≡ Block) ⊎ ((kind m ≡ Update) ⊎ (kind m ≡ PathUpdate))

abbrev pub EachCall : (H : List ℕ → List ℕ) (valid : (key message signature : List ℕ) → Bool) (step : (budget : ℕ) → Device → List ℕ → List ℕ → Outcome) → Type 0
EachCall H valid step = (budget : ℕ) (d : Device) (flash m : List ℕ) → OneCall H (refusal_of H valid budget) budget (step budget) d flash m

-- Of the device's own step: besides a block no message looks at the budget. With another one the outcome is the same, but for the budget in it.
abbrev pub BudgetUnread : (H : List ℕ → List ℕ) (valid : (key message signature : List ℕ) → Bool) → Type 0
BudgetUnread H valid =
    (a b : ℕ) (d : Device) (flash m : List ℕ) → (kind m ≡ Block → ⊥)
    → (let o = step H valid a d flash m in
    step H valid b d flash m ≡ record { answer = o.answer; compressions = o.compressions; budget = b; device = o.device; flash = o.flash })
