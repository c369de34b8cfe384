-- No message writes behind the program: an accepted one leaves the bytes behind that of the manifest which the device then has.
use Rattle.std.proofs.Common.{◌≡◌, refl, sym, subst, Bool, List, ℕ, zero, suc, ◌≤◌, ◌<◌, arith, length, drop}
use Rattle.wire.specs.declared.manifest.Manifest.{Manifest}
use Rattle.wire.specs.Geometry.{count_of, block_length, with_block}
use Rattle.wire.specs.Message.{kind, manifest_in, block_in, update_number, update_block, due_length, least_update}
use Rattle.wire.proofs.GeometryLaws.{with-behind}
use Rattle.wire.proofs.MessageLaws.{length-block, length-update-block}
use Rattle.machine.specs.declared.state.Device.{Device}
use Rattle.machine.specs.Device.{next_of, OutcomeOf, Situation}
use Rattle.machine.specs.Flash.{stored, updated}
use Rattle.machine.specs.Step.{accept_program, accept_block, accept_update, accept}
use Rattle.machine.proofs.RefusalLaws.{BlockPassed, Successor, path-block, Passed, took-program, took-block, took-update, took-path}
use Rattle.guarantee.specs.Part.{Part}
use Rattle.guarantee.specs.Run.{Trace, ◌▷◌}
use Rattle.guarantee.proofs.RunLaws.{Serves, now, more, Does, takes, stays, does}

-- block i, from 1, of k bytes
behind-block : (s : Manifest) (i : ℕ) (flash x : List ℕ) → 0 < i → i ≤ count_of s → s.image_len ≤ length flash → length x ≡ block_length s.block_len s.image_len i
    → drop s.image_len (with_block s.block_len flash i x) ≡ drop s.image_len flash
behind-block s zero flash x low high room long = absurd (omega arith)
behind-block s (suc k) flash x low high room long = with-behind s k flash high room x long

module _ (H : List ℕ → List ℕ) (valid : (key message signature : List ℕ) → Bool) where
  module _ (d : Device) (flash m : List ℕ) where
    abbrev Kept : Situation → Type 0
    Kept s = drop s.device.manifest.image_len s.flash ≡ drop s.device.manifest.image_len flash

    kept_block : BlockPassed H valid d flash m → Kept (accept_block d flash m)
    unfolding accept_block stored due_length
    kept_block p =
        let s : Manifest = d.manifest in
        let i : ℕ = next_of d.stage in
        let size : ℕ = block_length s.block_len s.image_len i in
        behind-block s i flash (block_in size m) p.awaited.low p.awaited.high p.room (length-block size m (omega (arith, p.long)))

    kept-update : {least : ℕ} {signature : List ℕ} → Successor H valid d flash m least signature → least_update (manifest_in m).block_len (manifest_in m).image_len (update_number m) ≤ length m → Kept (accept_update d flash m)
    unfolding accept_update updated least_update
    kept-update p long =
        let s : Manifest = manifest_in m in
        let i : ℕ = update_number m in
        let size : ℕ = block_length s.block_len s.image_len i in
        behind-block s i flash (update_block size m) p.turn.0 p.turn.1 p.room (length-update-block size m long)

    pub kept : Passed H valid d flash m → Kept (accept (kind m) d flash m)
    unfolding accept accept_program
    kept (took-program q p) = rw q refl
    kept (took-block q p) = rw q (kept_block p)
    kept (took-update q p) = rw q (kept-update p.successor p.successor.long)
    kept (took-path q p) = rw q (kept-update p.successor (path-block H valid d flash m p))

module _ (H : List ℕ → List ℕ) (valid : (key message signature : List ℕ) → Bool) {D F C : Type 0} (part : Part D F C) (step : D → F → C → OutcomeOf D F) (d : D) (flash : F)
    (serves : Serves H valid part step) (cs : Trace C) (c : C) where
  abbrev at : Trace C → Situation
  at cs = now H valid part step d flash serves cs

  pub beyond : drop (at (cs ▷ c)).device.manifest.image_len (at (cs ▷ c)).flash ≡ drop (at (cs ▷ c)).device.manifest.image_len (at cs).flash
  beyond = go (does H valid part step d flash serves cs c)
    where
      go : Does H valid part step d flash serves cs c → drop (at (cs ▷ c)).device.manifest.image_len (at (cs ▷ c)).flash ≡ drop (at (cs ▷ c)).device.manifest.image_len (at cs).flash
      go (takes n e) =
          let a = more H valid part step d flash serves cs c n e in
          subst (λ (s : Situation). drop s.device.manifest.image_len s.flash ≡ drop s.device.manifest.image_len (at cs).flash) (sym a.after_is)
          (kept H valid (at cs).device (at cs).flash (part.message c) a.passed)
      go (stays n a) =
          subst (λ (s : Situation). drop s.device.manifest.image_len s.flash ≡ drop s.device.manifest.image_len (at cs).flash) (sym a.after_is) refl
