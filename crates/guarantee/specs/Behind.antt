-- What stands behind the program (02, change 2: "a drive .. that keeps travel heights straight after its program"). In a list no message writes it:
-- `FirstHalf.beyond`. Here it is said of the device's own step, from every state, reached by a list or not, that it stays as it was and that nothing else depends on it.
use Rattle.std.specs.Prelude.{◌≡◌, Bool, cond, List, ℕ, length, take, drop}
use Rattle.wire.specs.declared.manifest.Manifest.{Manifest}
use Rattle.wire.specs.Message.{kind, carries, manifest_in}
use Rattle.machine.specs.declared.state.Device.{Device}
use Rattle.machine.specs.Device.{Outcome}
use Rattle.machine.specs.Step.{step}

-- The manifest that a message goes by: its own, or else the device's.
unfoldable pub goes_by : Device → List ℕ → Manifest
goes_by d m = cond (carries (kind m)) (manifest_in m) d.manifest

-- The outcomes a over f and b over g: the same answer, report, device and first T bytes of the flash, and behind these each flash as it was.
pub record Alike (T : ℕ) (f g : List ℕ) (a b : Outcome) : Type 0 where
  pub answer : a.answer ≡ b.answer
  pub reported : (a.compressions ≡ b.compressions) × (a.budget ≡ b.budget)
  pub device : a.device ≡ b.device
  pub program : take T a.flash ≡ take T b.flash
  pub behind : (drop T a.flash ≡ drop T f) × (drop T b.flash ≡ drop T g)

-- A message has such outcomes, with any budget, over any two flashes of one length with the same first T bytes.
abbrev pub BehindUnread : (H : List ℕ → List ℕ) (valid : (key message signature : List ℕ) → Bool) → Type 0
BehindUnread H valid =
    (budget : ℕ) (d : Device) (f g m : List ℕ) → length f ≡ length g
    → (let T = (goes_by d m).image_len in take T f ≡ take T g → Alike T f g (step H valid budget d f m) (step H valid budget d g m))
