-- A device above the limit, or with a next number above its n, makes no sense, and 1 comes first.
use mathlib.Core.Path.{◌≡◌, refl}
use mathlib.Core.Bool.{Bool, true, false}
use mathlib.Core.List.{List}
use Rattle.std.specs.Prelude.{Some}
use Prim.Native.Nat.{ℕ}
use native.Mathlib.Omega.{arith}
use Rattle.wire.specs.declared.refusal.Refusal.TheVariants.{State}
use Rattle.wire.specs.Refusal.{first_that_applies}
use Rattle.wire.specs.Geometry.{count_of}
use Rattle.wire.proofs.SizeLaws.{sized}
use Rattle.machine.specs.declared.state.Device.{Device}
use Rattle.machine.specs.Answer.{Refused}
use Rattle.machine.specs.Refusals.{senseless, always, refusals}
use Rattle.machine.specs.Step.{answer_of, refusal_of}
use Rattle.machine.specs.BootCheck.{of_boot, boot_check}
use Rattle.machine.specs.Claims.{Above, blocks, next, AboveLimit}
use Rattle.machine.proofs.RefusalLaws.{loading}
use Rattle.machine.proofs.SenseLaws.{sound}

module _ (H : List ℕ → List ℕ) (valid : (key message signature : List ℕ) → Bool) (budget : ℕ) (d : Device) (flash m : List ℕ) where
  first : senseless d ≡ true → (refusal_of H valid budget d flash m ≡ Some State) × (boot_check H d flash ≡ Refused State)
  unfolding refusal_of refusals always first_that_applies boot_check of_boot answer_of
  first e = rw e (refl, refl)

  within-limit : senseless d ≡ false → Above d → ⊥
  unfolding count_of
  within-limit e (blocks busy many) = omega (arith, many, (sized _ _ (sound d e busy).1).count)
  within-limit e (next z far) = omega (arith, far, (loading d e z).high)

  pub above-limit : AboveLimit H valid budget d flash m
  above-limit over = first (go (senseless d) refl)
    where
      go : (t : Bool) → senseless d ≡ t → senseless d ≡ true
      go true e = e
      go false e = absurd (within-limit e over)
