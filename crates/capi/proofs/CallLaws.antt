-- The calls from C, from what they call.
use Rattle.std.proofs.Common.{◌≡◌, refl, sym, ap, ◌∙◌, List, Option, None, Some, ℕ, arith, length}
use Rattle.sha256.specs.Sha256.{digest}
use Rattle.merkle.specs.Limits.{held_bytes}
use Rattle.lms.specs.Lms.{valid}
use Rattle.machine.specs.declared.state.Stage.{Stage}
use Rattle.machine.specs.declared.state.Device.{Device}
use Rattle.machine.specs.Answer.{Answer, Accepted, Refused}
use Rattle.wire.specs.declared.refusal.Refusal.{Refusal}
use Rattle.wire.specs.Refusal.{refusal_number}
use Rattle.machine.specs.Device.{Situation, Outcome}
use Rattle.machine.specs.Readers.{number_of}
use Rattle.machine.specs.Step.{outcome, refusal_of, step}
use Rattle.machine.specs.BootCheck.{boot_check}
use Rattle.device.specs.Fields.{step_in_place}
use Rattle.device.proofs.AcceptLaws.{held-step}
use Rattle.capi.specs.State.{encode, stage_in, device_in, decode}
use Rattle.capi.proofs.StateLaws.{decode-none, decode-some, decode-encode}
use Rattle.capi.specs.Call.{state_after, count_after, call_outcome, receive, boot_check_of}
use Rattle.capi.specs.Claims.{IsStep}

keeps : (r : Option Refusal) (budget cost : ℕ) (d : Device) (flash : List ℕ) (then : Situation) {x : Refusal} → (outcome r budget cost d flash then).answer ≡ Refused x
    → (outcome r budget cost d flash then).device ≡ d
unfolding outcome
keeps None budget cost d flash then e = absurd (let z : ◌≡◌ {A = ℕ} 0 1 = cc in omega arith)
keeps (Some y) budget cost d flash then e = refl

-- A message and the boot check, on bytes b that encode a device.
module _ (b : List ℕ) {d : Device} (e : decode b ≡ Some d) (flash : List ℕ) where
  pub receive-decoded : (m : List ℕ) (budget before : ℕ) → receive b flash m budget before ≡ call_outcome (step digest valid budget d flash m) b before
  unfolding receive
  receive-decoded m budget before = rw (e, receive)

  pub boot-check-decoded : boot_check_of b flash ≡ number_of (boot_check digest d flash)
  unfolding boot_check_of
  boot-check-decoded = rw (e, boot_check_of)

-- Bytes b that encode no state.
module _ (b : List ℕ) (e : stage_in b ≡ None) (flash : List ℕ) where
  pub none-boot-check : boot_check_of b flash ≡ 1
  unfolding boot_check_of
  none-boot-check = rw (decode-none b e, boot_check_of)

  pub unknown : (m : List ℕ) (budget before : ℕ) → receive b flash m budget before ≡ record { answer = 1; compressions = before; state = b; flash = flash }
  unfolding receive
  unknown m budget before = rw (decode-none b e, receive)

-- Bytes b that encode a state at stage t, with the device that the code read in them.
module _ (b : List ℕ) {t : Stage} (e : stage_in b ≡ Some t) {d : Device} (de : d ≡ device_in b t) (flash : List ℕ) where
  decoded : decode b ≡ Some d
  decoded = decode-some b e ∙ ap Some (sym de)

  pub checked : {a : Answer} → a ≡ boot_check digest d flash → number_of a ≡ boot_check_of b flash
  checked ae = ap number_of ae ∙ sym (boot-check-decoded b decoded flash)

  -- .. and what it made of the device
  module _ (m : List ℕ) (budget : ℕ) {o : Outcome} (l : length d.hashes ≡ held_bytes) (se : step_in_place budget d flash m ≡ o) where
    stepped : step digest valid budget d flash m ≡ o
    stepped = sym (held-step budget d flash m l) ∙ se

    -- a refusal leaves the device as it was
    pub unchanged : {x : Refusal} → o.answer ≡ Refused x → o.device ≡ d
    unfolding step
    unchanged z =
        sym (ap (λ (y : Outcome). y.device) stepped)
        ∙ keeps (refusal_of digest valid budget d flash m) budget _ d flash _ (ap (λ (y : Outcome). y.answer) stepped ∙ z)

    taken : (before : ℕ) → receive b flash m budget before ≡ call_outcome o b before
    taken before = receive-decoded b decoded flash m budget before ∙ ap (λ (x : Outcome). call_outcome x b before) stepped

    pub refused : {x : Refusal} (before : ℕ) {b' : List ℕ} → o.answer ≡ Refused x → b' ≡ b
        → receive b flash m budget before ≡ record { answer = refusal_number x; compressions = before; state = b'; flash = o.flash }
    unfolding call_outcome state_after count_after
    refused before z eb = taken before ∙ rw (z, eb)

    pub accepted : (before : ℕ) {b' : List ℕ} → o.answer ≡ Accepted → b' ≡ encode o.device
        → receive b flash m budget before ≡ record { answer = 0; compressions = o.compressions; state = b'; flash = o.flash }
    unfolding call_outcome state_after count_after
    accepted before z eb = taken before ∙ rw (z, eb)

pub receive-encode : IsStep
receive-encode d flash m budget before f = receive-decoded (encode d) (decode-encode d f) flash m budget before
