-- From a fresh state and a list of calls to the whole of demand 3; and what the boot check's 0 proves of any bytes and memory.
use Rattle.std.proofs.Common.{Ok, Err, ◌≡◌, refl, sym, ap, ◌∙◌, ◌↔◌, List, Option, None, Some, ℕ, arith}
use Rattle.wire.proofs.RefusalLaws.{above_zero}
use Rattle.sha256.specs.Sha256.{digest}
use Rattle.sha256.proofs.DigestLaws.{length-digest}
use Rattle.lms.specs.Lms.{valid}
use Rattle.machine.specs.declared.state.Device.{Device}
use Rattle.machine.specs.Answer.{Answer, Accepted}
use Rattle.machine.specs.Device.{fresh_with, SituationOf}
use Rattle.machine.specs.Readers.{number_of}
use Rattle.machine.specs.Step.{step_call}
use Rattle.machine.specs.BootCheck.{boot_check}
use Rattle.machine.proofs.FreshLaws.{fresh-is}
use Rattle.guarantee.specs.Run.{after}
use Rattle.guarantee.specs.Altered.{Booted}
use Rattle.guarantee.proofs.AlteredHolds.{boot-proves}
use Rattle.guarantee.proofs.Demand3Holds.{demand3}
use Rattle.guarantee.proofs.RecoveryHolds.{makes-sense}
use Rattle.capi.specs.State.{decode}
use Rattle.capi.specs.Call.{boot_check_of}
use Rattle.capi.specs.Claims.{BootProvesFromC}
use Rattle.capi.specs.FromC.{FromC}
use Rattle.capi.proofs.StateLaws.{decode-encode}
use Rattle.capi.proofs.CallLaws.{boot-check-decoded}
use Rattle.capi.proofs.StatusLaws.{sensible-decoded, status-is, due-is}
use Rattle.capi.proofs.RunLaws.{fresh-fits, runs}

pub zero-accepted : (a : Answer) {n : ℕ} → n ≡ number_of a → (n ≡ 0) ↔ (a ≡ Accepted)
zero-accepted (Ok _) e = (λ z. refl, λ z. e)
zero-accepted (Err r) e = (λ z. absurd (omega (arith, above_zero r)), λ z. cc)

pub boot-proves-from-c : BootProvesFromC
unfolding boot_check_of
boot-proves-from-c state flash z = go (decode state) refl
  where
    go : (o : Option Device) → decode state ≡ o → (d : Device) × (decode state ≡ Some d) × Booted digest d flash
    go None e = absurd (let n : ◌≡◌ {A = ℕ} 1 0 = rw (e, boot_check_of) at z in omega arith)
    go (Some d) e = (d, e, boot-proves digest length-digest d flash ((zero-accepted (boot_check digest d flash) refl).0 (sym (boot-check-decoded state e flash) ∙ z)))

pub from-c : FromC
from-c model key small long flash cs bytes =
    let d = fresh_with model key in
    let r = runs d flash (fresh-fits model key small long) cs bytes in
    let back = ap (λ (x : SituationOf (List ℕ) (List ℕ)). decode x.device) r.memory ∙ decode-encode (after (step_call digest valid) d flash cs).device r.fits in
    let read = sensible-decoded _ back (makes-sense digest valid (step_call digest valid) demand3 d (fresh-is model key) flash cs) in
    record {
      runs = r;
      state = back;
      reads = λ out. status-is _ out read refl;
      due = due-is _ read _;
      cost = due-is _ read _;
      boot = λ lent. boot-check-decoded _ back lent;
      zero = λ c. zero-accepted _ (r.answers c);
      claim = demand3 d (fresh-is model key) flash cs;
    }
