-- Demand 3 holds of the device.
use Rattle.std.proofs.Common.{◌≡◌, Bool, List, ℕ, length}
use Rattle.merkle.specs.Limits.{hash_length}
use Rattle.sha256.specs.Sha256.{digest}
use Rattle.sha256.proofs.DigestLaws.{length-digest}
use Rattle.lms.specs.Lms.{valid}
use Rattle.machine.specs.Device.{OutcomeOf, Fresh}
use Rattle.machine.specs.Step.{step_call}
use Rattle.guarantee.specs.Part.{Part, whole}
use Rattle.guarantee.specs.Run.{Trace}
use Rattle.guarantee.specs.Demand3.{Calls, Claim, Demand3}
use Rattle.guarantee.proofs.RunLaws.{Serves}
use Rattle.guarantee.proofs.FirstHalf.{first-half}
use Rattle.guarantee.proofs.SecondHalf.{Willing, second-half}
use Rattle.guarantee.proofs.DeviceLaws.{serves, willing, calls}

-- of one part of any device
pub claim-for : (H : List ℕ → List ℕ) → ((x : List ℕ) → length (H x) ≡ hash_length) → (verdict : (key message signature : List ℕ) → Bool) {D F C : Type 0} (part : Part D F C)
    (any : D → F → C → OutcomeOf D F) → Serves H verdict part any → (d : D) → Fresh (part.device d) → (flash : F) → Willing H verdict part any d flash
    → (cs : Trace C) → Calls H verdict part any d flash cs → Claim H verdict part any d flash cs
claim-for H hash-long verdict part any serves d fresh flash willing cs calls =
    record { calls = calls; first = first-half H hash-long verdict part any d flash serves fresh cs; second = second-half H hash-long verdict part any d flash serves willing cs }

-- for any hash function of 32 bytes and any verdict on signatures
pub demand3-for : (H : List ℕ → List ℕ) → ((x : List ℕ) → length (H x) ≡ hash_length) → (verdict : (key message signature : List ℕ) → Bool) → Demand3 H verdict (step_call H verdict)
demand3-for H hash-long verdict d fresh flash cs =
    claim-for H hash-long verdict (whole H verdict) (step_call H verdict) (serves H verdict) d fresh flash (willing H verdict d flash) cs (calls H verdict d flash cs)

-- with SHA-256 and the verdict of RFC 8554
pub demand3 : Demand3 digest valid (step_call digest valid)
demand3 = demand3-for digest length-digest valid
