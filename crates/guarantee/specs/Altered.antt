-- When a flash is found altered (02, change 5), and what the boot check tells.
use Rattle.std.specs.Prelude.{◌≡◌, ◌⊎◌, Bool, true, List, ℕ, ◌≤◌, length}
use Rattle.wire.specs.declared.kind.Kind.TheVariants.{Block, Update, PathUpdate}
use Rattle.wire.specs.declared.refusal.Refusal.TheVariants as refusal
use Rattle.wire.specs.Message.{kind}
use Rattle.machine.specs.declared.state.Stage.TheVariants.{Complete}
use Rattle.machine.specs.declared.state.Device.{Device}
use Rattle.machine.specs.Answer.{Accepted, Refused}
use Rattle.machine.specs.Device.{Fresh, OutcomeOf}
use Rattle.machine.specs.Step.{step}
use Rattle.machine.specs.BootCheck.{boot_check}
use Rattle.guarantee.specs.Part.{Part}
use Rattle.guarantee.specs.Run.{Trace, after, answer_to}
use Rattle.guarantee.specs.Demand3.{Clash, Intact, Misled}

-- What answer 0 of the boot check proves of any state and any flash: the device is complete, and every image of its program's length with the manifest's root is the
-- start of the flash, or there is a collision (`Intact.image`). That the manifest was signed is not shown: the state is taken as it is.
pub record Booted (H : List ℕ → List ℕ) (d : Device) (flash : List ℕ) : Type 0 where
  pub complete : d.stage ≡ Complete
  pub room : d.manifest.image_len ≤ length flash
  pub intact : Intact H d.manifest flash

abbrev pub BootProves : (H : List ℕ → List ℕ) → Type 0
BootProves H = (d : Device) (flash : List ℕ) → boot_check H d flash ≡ Accepted → Booted H d flash

module _ (H : List ℕ → List ℕ) (valid : (key message signature : List ℕ) → Bool) where
  -- The boot check answers 0 right after each call that reports a program complete, an accepted update or last block, whatever budget, state and flash that call was
  -- given.
  abbrev pub BootAfter : Type 0
  BootAfter =
      (budget : ℕ) (d : Device) (flash m : List ℕ)
      → (let o = step H valid budget d flash m in
      o.answer ≡ Accepted → (kind m ≡ Update) ⊎ ((kind m ≡ Block) × (o.device.stage ≡ Complete)) → boot_check H o.device o.flash ≡ Accepted)

  -- A path update keeps the boot check at 0, over any state and flash where it was so before; or the message's path and the tree over the flash collide.
  abbrev pub BootKept : Type 0
  BootKept =
      (budget : ℕ) (d : Device) (flash m : List ℕ) → boot_check H d flash ≡ Accepted → kind m ≡ PathUpdate
      → (let o = step H valid budget d flash m in o.answer ≡ Accepted → (boot_check H o.device o.flash ≡ Accepted) ⊎ Clash H flash m)

module _ (H : List ℕ → List ℕ) (valid : (key message signature : List ℕ) → Bool) {D F C : Type 0} (part : Part D F C) (step : D → F → C → OutcomeOf D F) where
  -- In a list from a fresh device, where nobody else writes: no block is refused 19, so the honest run never meets it; an update is, or the boot check fails, only
  -- where a kind 4 misled the device (`Misled`).
  pub record Untouched (d : D) (flash : F) (cs : Trace C) : Type 0 where
    pub block : (c : C) → part.names c ≡ true → kind (part.message c) ≡ Block → answer_to step d flash cs c ≡ Refused refusal.Altered → ⊥
    pub update : (c : C) → part.names c ≡ true → answer_to step d flash cs c ≡ Refused refusal.Altered → Misled H valid part step d flash cs
    pub boot : (let s = after step d flash cs in
        (part.device s.device).stage ≡ Complete → (boot_check H (part.device s.device) (part.flash s.flash) ≡ Accepted) ⊎ Misled H valid part step d flash cs)

  abbrev pub NobodyElse : Type 0
  NobodyElse = (d : D) → Fresh (part.device d) → (flash : F) (cs : Trace C) → Untouched d flash cs
