-- The sender's new program is accepted by every device that makes sense and has its model, an older serial, room and the key.
use Rattle.std.proofs.Common.{◌≡◌, refl, ap, Bool, true, false, not, List, None, ℕ, ◌≤◌, ◌<◌, arith, length, lt-ltb, le-ltb, eq-eqb}
use Rattle.merkle.specs.Limits.{hash_length}
use Rattle.wire.specs.declared.kind.Kind.TheVariants.{Program}
use Rattle.wire.specs.Manifest.{written}
use Rattle.wire.specs.Message.{least_length, short, manifest_in}
use Rattle.wire.specs.Claims.{OfProgram}
use Rattle.wire.proofs.MessageLaws.{of-program}
use Rattle.sender.specs.Job.{Job, manifest_for, program_for}
use Rattle.machine.specs.declared.state.Device.{Device}
use Rattle.machine.specs.Device.{serial_of}
use Rattle.machine.specs.Refusals.{wrong_version, senseless, other_model, not_newer, too_small, unsigned}
use Rattle.machine.specs.Step.{refusal_of}
use Rattle.machine.proofs.RefusalLaws.{ProgramDue, program-unrefused}
use Rattle.guarantee.specs.Demand3.{Sendable}
use Rattle.guarantee.proofs.SentLaws.{root-long, manifest-is}

module _ (H : List ℕ → List ℕ) (hash-long : (x : List ℕ) → length (H x) ≡ hash_length) (valid : (key message signature : List ℕ) → Bool)
    (job : Job) (ok : Sendable job) (signature : List ℕ) where
  abbrev m : List ℕ
  m = program_for H job signature

  pub is-program : OfProgram (manifest_for H job) signature m
  unfolding program_for
  is-program = of-program (manifest_for H job) (root-long H hash-long job ok) signature

  module _ (d : Device) (flash : List ℕ) (sense : senseless d ≡ false) (model : job.model ≡ d.model) (newer : serial_of d < job.serial)
      (room : length job.image.bytes ≤ length flash) (signed : valid d.key (written (manifest_for H job)) signature ≡ true) where
    pub program-due : ProgramDue H valid d flash m
    unfolding short wrong_version other_model not_newer too_small unsigned manifest_for
    program-due =
        let p = is-program in
        let e : manifest_in m ≡ manifest_for H job = manifest-is H hash-long job ok m p.manifest in
        record {
          is = p.is;
          sense = sense;
          head = le-ltb (length m) (least_length Program) (omega (arith, p.size));
          version = rw e refl;
          size = rw e ok.size;
          model = rw e (ap not (eq-eqb job.model d.model model));
          serial = rw e (ap not (lt-ltb (serial_of d) job.serial newer));
          area = rw e (le-ltb (length flash) _ room);
          signed = rw (p.manifest, p.signed, signed) refl;
        }

    pub program-accepted : (budget : ℕ) → refusal_of H valid budget d flash m ≡ None
    program-accepted budget = program-unrefused H valid d flash m budget program-due
