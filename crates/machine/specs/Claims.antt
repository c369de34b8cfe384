-- What is shown of the device's definitions (in proofs/).
use Rattle.std.specs.Prelude.{◌≡◌, ◌≢◌, Bool, true, List, [], ◌∷◌, ℕ, ◌≤◌, ◌<◌, length}
use Rattle.std.specs.Prelude.{None, Some}
use Rattle.octets.specs.Octets.{Bytes}
use Rattle.merkle.specs.Limits.{max_blocks, hash_length}
use Rattle.merkle.specs.Cost.{most_cost}
use Rattle.wire.specs.declared.kind.Kind.TheVariants.{Program, Block, Update, PathUpdate}
use Rattle.wire.specs.declared.refusal.Refusal.{Refusal}
use Rattle.wire.specs.declared.refusal.Refusal.TheVariants.{State, Spent}
use Rattle.wire.specs.Refusal.{refusal_number}
use Rattle.wire.specs.Geometry.{count_of}
use Rattle.wire.specs.Message.{kind, carries}
use Rattle.wire.specs.Cost.{cost_due}
use Rattle.machine.specs.declared.state.Stage.TheVariants.{Idle, Loading}
use Rattle.machine.specs.declared.state.Device.{Device}
use Rattle.machine.specs.Answer.{Accepted, Refused}
use Rattle.machine.specs.Device.{Fresh, fresh_with, serial_of, next_of}
use Rattle.machine.specs.Refusals.{refusals}
use Rattle.machine.specs.Step.{refusal_of, step}
use Rattle.machine.specs.BootCheck.{of_boot, boot_check}

-- A device as `fresh_with` makes it is fresh, with any model and key: the list that demand 3 speaks of starts there.
abbrev pub FreshIs : Type 0
FreshIs = (model : ℕ) (key : List ℕ) → Fresh (fresh_with model key)

-- the refusals of a list, by the document's numbers
unfoldable pub numbers : List (Refusal × Bool) → List ℕ
numbers [] = []
numbers (e ∷ es) = refusal_number e.0 ∷ numbers es

-- "Make that the limit, in slips and in states handed in" (02, change 6): a device that is not idle and whose manifest has more blocks; or, by 01's refusal 1,
-- one whose next number is above its n.
pub data Above (d : Device) : Type 0 where
  blocks : d.stage ≢ Idle → max_blocks < count_of d.manifest → Above d
  next : {i : ℕ} → d.stage ≡ Loading i → count_of d.manifest < i → Above d

module _ (H : List ℕ → List ℕ) (valid : (key message signature : List ℕ) → Bool) (budget : ℕ) (d : Device) (flash m : List ℕ) where
  -- "Order, first that applies: always 1, 2, 3; then kind 1: 4, 5, 6, 7, 8, 9. Kind 2: 10, 8, 11, 12, 14. Kind 3: 10, 4, 5, 6, 7, 13, 8, 11, 12, 9, 14."
  -- Kind 4 (02, change 1): "All of kind 3's checks apply", and 15 "after 9 and before 14". 19 (02, change 5): "for kind 3 between 8 and 11, for the last block
  -- after 14"; for kind 4 none. 20 (02, change 7): "after 12 and before 14".
  pub record Orders : Type 0 where
    pub program : numbers (refusals H valid budget Program d flash m) ≡ 1 ∷ 2 ∷ 3 ∷ 4 ∷ 5 ∷ 6 ∷ 7 ∷ 8 ∷ 9 ∷ []
    pub block : numbers (refusals H valid budget Block d flash m) ≡ 1 ∷ 2 ∷ 3 ∷ 10 ∷ 8 ∷ 11 ∷ 12 ∷ 20 ∷ 14 ∷ 19 ∷ []
    pub update : numbers (refusals H valid budget Update d flash m) ≡ 1 ∷ 2 ∷ 3 ∷ 10 ∷ 4 ∷ 5 ∷ 6 ∷ 7 ∷ 13 ∷ 8 ∷ 19 ∷ 11 ∷ 12 ∷ 9 ∷ 14 ∷ []
    pub path_update : numbers (refusals H valid budget PathUpdate d flash m) ≡ 1 ∷ 2 ∷ 3 ∷ 10 ∷ 4 ∷ 5 ∷ 6 ∷ 7 ∷ 13 ∷ 8 ∷ 11 ∷ 12 ∷ 9 ∷ 15 ∷ 14 ∷ []
    pub boot : numbers (of_boot H d flash) ≡ 1 ∷ 10 ∷ 8 ∷ 19 ∷ []

  -- "The serial is compared as a plain number and has no wrap: after 4,294,967,295 no slip is accepted."
  abbrev pub LastSerial : Type 0
  LastSerial = Bytes m → serial_of d ≡ 4294967295 → carries (kind m) ≡ true → refusal_of H valid budget d flash m ≡ None → ⊥

  -- A device above the limit (`Above`) is refused 1: at every message, a new program too, and at the boot check.
  abbrev pub AboveLimit : Type 0
  AboveLimit = Above d → (refusal_of H valid budget d flash m ≡ Some State) × (boot_check H d flash ≡ Refused State)

-- 02, change 7: what the block message that is due costs by its lengths is known before it comes (`cost_due`). As a budget it is enough, whatever state, flash and message
-- are; and it is what an accepted block reports.
pub record DueKnown (H : List ℕ → List ℕ) (valid : (key message signature : List ℕ) → Bool) (budget : ℕ) (d : Device) (flash m : List ℕ) : Type 0 where
  pub enough : cost_due H d.manifest (next_of d.stage) ≤ budget → refusal_of H valid budget d flash m ≡ Some Spent → ⊥
  pub reports : kind m ≡ Block → (step H valid budget d flash m).answer ≡ Accepted → (step H valid budget d flash m).compressions ≡ cost_due H d.manifest (next_of d.stage)

abbrev pub DueSuffices : Type 0
DueSuffices =
    (H : List ℕ → List ℕ) → ((x : List ℕ) → length (H x) ≡ hash_length) → (valid : (key message signature : List ℕ) → Bool) (budget : ℕ) (d : Device) (flash m : List ℕ)
    → DueKnown H valid budget d flash m

-- "The loader's budgets always suffice": no message is refused 20 that comes with a budget for the costliest block message.
abbrev pub NeverSpent : Type 0
NeverSpent =
    (H : List ℕ → List ℕ) → ((x : List ℕ) → length (H x) ≡ hash_length) → (valid : (key message signature : List ℕ) → Bool) (budget : ℕ) → most_cost ≤ budget
    → (d : Device) (flash m : List ℕ) → refusal_of H valid budget d flash m ≡ Some Spent → ⊥
