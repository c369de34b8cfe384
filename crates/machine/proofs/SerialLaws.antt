-- No manifest comes after the last serial.
use mathlib.Core.Path.{◌≡◌, refl}
use mathlib.Core.Bool.{Bool, false, false≢true}
use mathlib.Core.List.{List}
use Prim.Native.Nat.{ℕ, ◌≤◌, ◌<◌}
use native.Mathlib.Omega.{arith}
use lib.ListN.{length}
use borrow.Author.Tests.{ltb-true, not-false}
use Rattle.wire.specs.declared.kind.Kind.{Kind}
use Rattle.wire.specs.declared.kind.Kind.TheVariants.{Program, Block, Update, PathUpdate, Unknown}
use Rattle.wire.specs.Message.{kind, carries, least_length, manifest_in, least_update, least_path}
use Rattle.wire.proofs.MessageLaws.{manifest-fits}
use Rattle.machine.specs.declared.state.Device.{Device}
use Rattle.machine.specs.Device.{serial_of}
use Rattle.machine.specs.Refusals.{not_newer}
use Rattle.machine.specs.Claims.{LastSerial}
use Rattle.machine.proofs.RefusalLaws.{program-passed, update-passed, path-passed}

module _ (H : List ℕ → List ℕ) (valid : (key message signature : List ℕ) → Bool) (budget : ℕ) (d : Device) (flash m : List ℕ) where
  pub last-serial : LastSerial H valid budget d flash m
  unfolding carries least_update least_path
  last-serial bytes e c a = go (kind m) refl
    where
      last : least_length Program ≤ length m → not_newer d (manifest_in m) ≡ false → ⊥
      last h n =
          unfold not_newer in
          let newer : serial_of d < (manifest_in m).serial = ltb-true _ _ (not-false _ n) in
          omega (arith, (manifest-fits m bytes h).serial)

      go : (k : Kind) → kind m ≡ k → ⊥
      go Program q = let p = program-passed H valid d flash m budget q a in last p.long p.newer
      go Block q = false≢true (rw q at c)
      go Update q = let p = (update-passed H valid d flash m budget q a).successor in last (omega (arith, p.long)) p.newer
      go PathUpdate q = let p = (path-passed H valid d flash m budget q a).successor in last (omega (arith, p.long)) p.newer
      go Unknown q = false≢true (rw q at c)
