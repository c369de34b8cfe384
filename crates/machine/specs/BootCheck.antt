-- The boot check: whether a complete device's program stands in the flash as handed in, whoever wrote that. Firmware asks it; no message does.
use Rattle.std.specs.Prelude.{Bool, List, [], ◌∷◌, ℕ}
use Rattle.wire.specs.declared.refusal.Refusal.{Refusal}
use Rattle.wire.specs.declared.refusal.Refusal.TheVariants as refusal
use Rattle.wire.specs.Refusal.{first_that_applies}
use Rattle.machine.specs.declared.state.Device.{Device}
use Rattle.machine.specs.Answer.{Answer}
use Rattle.machine.specs.Refusals.{senseless, not_complete, too_small, lacks_root}
use Rattle.machine.specs.Step.{answer_of}

module _ (H : List ℕ → List ℕ) (d : Device) (flash : List ℕ) where
  -- 1, 10, 8, 19, as they are of an update (kind 3); 8 is for the current manifest
  unfoldable pub of_boot : List (Refusal × Bool)
  of_boot =
      (refusal.State, senseless d)
      ∷ (refusal.Stage, not_complete d.stage)
      ∷ (refusal.Area, too_small d.manifest flash)
      ∷ (refusal.Altered, lacks_root H d.manifest flash)
      ∷ []

  unfoldable pub boot_check : Answer
  boot_check = answer_of (first_that_applies of_boot)
