-- The boot check after a call that reports a program complete, whatever bytes and memory that call was given.
use Rattle.std.proofs.Common.{◌≡◌, refl, sym, ap, ◌∙◌, subst, ◌⊎◌, inl, inr, ⊎_elim, Bool, true, false, cond, List, Option, None, Some, ℕ, ◌^◌, ◌<◌, arith, eqb}
use Rattle.octets.specs.Octets.{Bytes, number, part}
use Rattle.octets.proofs.CopyLaws.{length_part}
use Rattle.octets.proofs.NumberLaws.{part_bytes, part-below}
use Rattle.sha256.specs.Sha256.{digest}
use Rattle.merkle.specs.Limits.{held_bytes}
use Rattle.lms.specs.Lms.{key_length, valid}
use Rattle.wire.specs.declared.kind.Kind.TheVariants.{Block, Update}
use Rattle.wire.specs.Manifest.{manifest_length}
use Rattle.wire.specs.Message.{kind}
use Rattle.wire.proofs.ManifestLaws.{read_fits}
use Rattle.machine.specs.declared.state.Stage.{Stage}
use Rattle.machine.specs.declared.state.Stage.TheVariants.{Idle, Loading, Complete}
use Rattle.machine.specs.declared.state.Device.{Device}
use Rattle.machine.specs.Answer.{Accepted}
use Rattle.machine.specs.Device.{next_of, Outcome}
use Rattle.machine.specs.Readers.{number_of}
use Rattle.machine.specs.Step.{step}
use Rattle.guarantee.proofs.AlteredHolds.{boot-after}
use Rattle.capi.specs.State.{key_at, stage_at, next_at, manifest_at, hashes_at, encode, stage_from, stage_in, device_in, decode}
use Rattle.capi.specs.Call.{CallOutcome, call_outcome, state_after, count_after, receive, boot_check_of}
use Rattle.capi.specs.Claims.{Fits, DecodedFits, PassesAfter}
use Rattle.capi.proofs.RunLaws.{fits-step}
use Rattle.capi.proofs.StateLaws.{right-length, decode-none, decode-some, stage-encode, decode-encode, stage_length}
use Rattle.capi.proofs.CallLaws.{receive-decoded, boot-check-decoded}
use Rattle.capi.proofs.FromCLaws.{zero-accepted}

-- a stage that two numbers give has the second for its next number, or none
next-from : (k n : ℕ) {t : Stage} → stage_from k n ≡ Some t → n < 256 ^ 2 → next_of t < 256 ^ 2
unfolding stage_from next_of
next-from k n {t} e h = go (eqb k 0) (eqb k 1) (eqb k 2) e
  where
    go : (x y z : Bool) → cond x (Some Idle) (cond y (Some (Loading n)) (cond z (Some Complete) None)) ≡ Some t → next_of t < 256 ^ 2
    go true y z e = let s : Idle ≡ t = cc in rw (sym s) (omega arith)
    go false true z e = let s : Loading n ≡ t = cc in rw (sym s) (omega arith)
    go false false true e = let s : Complete ≡ t = cc in rw (sym s) (omega arith)
    go false false false e = absurd (let w : ◌≡◌ {A = ℕ} 0 1 = cc in omega arith)

fits-at : (b : List ℕ) → Bytes b → (t : Stage) → stage_in b ≡ Some t → Fits (device_in b t)
unfolding device_in
fits-at b bytes t e =
    let l = stage_length b e in
    record {
      model = part-below b bytes 0 4 (omega arith);
      key = length_part b key_at key_length (omega arith);
      next = next-from (number (part stage_at 2 b)) (number (part next_at 2 b)) (sym (right-length b l refl refl) ∙ e) (part-below b bytes next_at 2 (omega arith));
      manifest = read_fits (part manifest_at manifest_length b) (length_part b manifest_at manifest_length (omega arith)) (part_bytes b bytes manifest_at manifest_length (omega arith));
      hashes = length_part b hashes_at held_bytes (omega arith);
    }

pub decoded-fits : DecodedFits
unfolding decode
decoded-fits state bytes d e = go (stage_in state) refl
  where
    go : (o : Option Stage) → stage_in state ≡ o → Fits d
    go None s = absurd (let z : None ≡ Some d = sym (decode-none state s) ∙ e in let w : ◌≡◌ {A = ℕ} 0 1 = cc in omega arith)
    go (Some t) s = let z : Some (device_in state t) ≡ Some d = sym (decode-some state s) ∙ e in let w : device_in state t ≡ d = cc in subst Fits w (fits-at state bytes t s)

-- A call that is accepted, on the bytes of a device.
module _ (state flash m : List ℕ) (budget before : ℕ) (message : Bytes m) (d : Device) (f : Fits d) (e : decode state ≡ Some d) where
  abbrev o : Outcome
  o = step digest valid budget d flash m

  took : (receive state flash m budget before).answer ≡ 0 → o.answer ≡ Accepted
  unfolding call_outcome
  took z = (zero-accepted o.answer refl).0 (sym (ap (λ (c : CallOutcome). c.answer) (receive-decoded state e flash m budget before)) ∙ z)

  leaves : o.answer ≡ Accepted → receive state flash m budget before ≡ record { answer = 0; compressions = o.compressions; state = encode o.device; flash = o.flash }
  unfolding call_outcome state_after count_after
  leaves a = receive-decoded state e flash m budget before ∙ rw (a, call_outcome, state_after, count_after)

  complete : o.answer ≡ Accepted → stage_in (receive state flash m budget before).state ≡ Some Complete → o.device.stage ≡ Complete
  complete a s =
      let z : Some o.device.stage ≡ Some Complete = sym (stage-encode o.device (fits-step budget d flash m message f)) ∙ ap (λ (c : CallOutcome). stage_in c.state) (sym (leaves a)) ∙ s in
      cc

  passes : o.answer ≡ Accepted → (kind m ≡ Update) ⊎ ((kind m ≡ Block) × (stage_in (receive state flash m budget before).state ≡ Some Complete))
      → boot_check_of (receive state flash m budget before).state (receive state flash m budget before).flash ≡ 0
  passes a w =
      ap (λ (c : CallOutcome). boot_check_of c.state c.flash) (leaves a)
      ∙ boot-check-decoded (encode o.device) (decode-encode o.device (fits-step budget d flash m message f)) o.flash
      ∙ ap number_of (boot-after digest valid budget d flash m a (⊎_elim (λ k. inl k) (λ k. inr (k.0, complete a k.1)) w))

pub passes-after : PassesAfter
unfolding receive
passes-after state flash m budget before bytes message z w = go (decode state) refl
  where
    go : (x : Option Device) → decode state ≡ x → boot_check_of (receive state flash m budget before).state (receive state flash m budget before).flash ≡ 0
    go None e = absurd (let n : ◌≡◌ {A = ℕ} 1 0 = rw (e, receive) at z in omega arith)
    go (Some d) e = let f = decoded-fits state bytes d e in passes state flash m budget before message d f e (took state flash m budget before message d f e z) w
