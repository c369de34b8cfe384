-- Recovery follows from demand 3, for any step that meets it. For our own step it holds from every state that makes sense, reached or not; and what a device that is
-- not idle answers to its own manifest, and what its state from right after a new program does, put back.
use Rattle.std.proofs.Common.{◌≡◌, refl, sym, ap, ◌∙◌, subst, ◌⊎◌, inl, inr, Bool, true, false, true≢false, List, None, Some, ℕ, zero, suc, ◌≤◌, ◌<◌, arith, length, le-ltb, eq-eqb, Ok, Err}
use Rattle.sha256.specs.Sha256.{digest}
use Rattle.sha256.proofs.DigestLaws.{length-digest}
use Rattle.merkle.specs.Limits.{hash_length}
use Rattle.merkle.proofs.ShapeLaws.{lt-or-le}
use Rattle.lms.specs.Lms as lms
use Rattle.wire.specs.declared.kind.Kind.TheVariants.{Program}
use Rattle.wire.specs.declared.manifest.Manifest.{Manifest}
use Rattle.wire.specs.declared.refusal.Refusal.TheVariants as refusal
use Rattle.wire.specs.Refusal.{first_that_applies}
use Rattle.wire.specs.Geometry.{count_of}
use Rattle.wire.specs.Message.{least_length, short, manifest_in}
use Rattle.wire.proofs.SizeLaws.{Sized}
use Rattle.wire.proofs.CostLaws.{costs-due}
use Rattle.sender.specs.Job.{Image, Job, count, manifest_for, program_for}
use Rattle.machine.specs.declared.state.Stage.{Stage}
use Rattle.machine.specs.declared.state.Stage.TheVariants.{Idle, Loading, Complete}
use Rattle.machine.specs.declared.state.Device.{Device}
use Rattle.machine.specs.Answer.{Answer, Accepted}
use Rattle.machine.specs.Device.{serial_of, OutcomeOf, Situation, Outcome}
use Rattle.machine.specs.Refusals.{wrong_version, senseless, no_kind, other_model, not_newer, not_loading, always, of_manifest, of_program, of_kind, refusals}
use Rattle.machine.specs.Step.{accept_program, accept, answer_of, refusal_of, step, Call, step_call}
use Rattle.machine.proofs.RefusalLaws.{answer-none, Successor, Passed, took-program, took-block, took-update, took-path, passed}
use Rattle.machine.proofs.SenseLaws.{sound, not-complete, sense-idle, sense-loading, sense-complete}
use Rattle.guarantee.specs.Part.{Part, whole, call}
use Rattle.guarantee.specs.Run.{Trace, Messages, empty, ◌▷◌, after, answer_to, accepted, last_program, blocks_since, last_carrier, signature_in, Completed}
use Rattle.guarantee.specs.Demand3.{Calls, Begun, Honest, begin, next, Loaded, Claim, FirstHalf, SecondHalf, Demand3}
use Rattle.guarantee.specs.Claims.{MakesSense}
use Rattle.guarantee.specs.Recovery.{then_sent, Covers, MostCovers, Offered, Recovers, Recovery, RecoveryFrom, SameAgain, PutBack}
use Rattle.guarantee.specs.Updates.{Installed}
use Rattle.guarantee.proofs.InvariantLaws.{with-program, with-block, with-update, with-path}
use Rattle.guarantee.proofs.RunLaws.{slot}
use Rattle.guarantee.proofs.DeviceLaws.{accepted-step, serves, calls, answered, willing}
use Rattle.guarantee.proofs.SecondHalf.{second-half}
use Rattle.guarantee.proofs.Demand3Holds.{demand3}
use Rattle.guarantee.proofs.ProgramLaws.{is-program, program-accepted}

-- What the accepted messages say of a device's manifest and next number.
data Standing (taken : Messages) : Type 0 where
  nothing : last_program taken ≡ None → Standing taken
  loading : (s : Manifest) (m : List ℕ) → last_program taken ≡ Some s → last_carrier taken ≡ Some m → manifest_in m ≡ s → wrong_version (manifest_in m) ≡ false
      → Sized (manifest_in m).block_len (manifest_in m).image_len → blocks_since taken < count_of s → Standing taken
  complete : (s : Manifest) (m : List ℕ) → last_program taken ≡ Some s → last_carrier taken ≡ Some m → wrong_version (manifest_in m) ≡ false
      → Sized (manifest_in m).block_len (manifest_in m).image_len → blocks_since taken ≡ count_of s → Standing taken

-- a stage that the tests of kind 2 let pass
not-idle : (t : Stage) → not_loading t ≡ false → t ≡ Idle → ⊥
unfolding not_loading
not-idle t e q = true≢false (rw q at e)

not_done : (t : Stage) → not_loading t ≡ false → t ≡ Complete → ⊥
unfolding not_loading
not_done t e q = true≢false (rw q at e)

-- One part of any step, of which the first half holds and whose accepted messages passed their tests.
module _ (H : List ℕ → List ℕ) (valid : (key message signature : List ℕ) → Bool) {D F C : Type 0} (part : Part D F C) (any : D → F → C → OutcomeOf D F) (d : D) (flash : F)
    (first : (cs : Trace C) → FirstHalf H valid part any d flash cs)
    (passes : (cs : Trace C) (c : C) → part.names c ≡ true → answer_to any d flash cs c ≡ Accepted
    → (let s = after any d flash cs in Passed H valid (part.device s.device) (part.flash s.flash) (part.message c))) where
  abbrev at : Trace C → Situation
  at cs = slot part (after any d flash cs).device (after any d flash cs).flash

  abbrev taken : Trace C → Messages
  taken cs = accepted any d flash part cs

  sense-of : (cs : Trace C) → Standing (taken cs) → senseless (at cs).device ≡ false
  sense-of cs (nothing e) = sense-idle (at cs).device ((first cs).idle e)
  sense-of cs (loading s m e c i v z h) =
      let k = (first cs).manifest m c in
      sense-loading (at cs).device (rw k v) (rw k z) (blocks_since (taken cs)) ((first cs).loading s e h) (rw (k, i) h)
  sense-of cs (complete s m e c v z h) =
      let k = (first cs).manifest m c in
      sense-complete (at cs).device (rw k v) (rw k z) ((first cs).exactly.1 (record { manifest = s; last = e; all = h }))

  abbrev is-complete : (cs : Trace C) (s : Manifest) → last_program (taken cs) ≡ Some s → blocks_since (taken cs) ≡ count_of s → (at cs).device.stage ≡ Complete
  is-complete cs s e h = (first cs).exactly.1 (record { manifest = s; last = e; all = h })

  after-update : (cs : Trace C) (m : List ℕ) {least : ℕ} {signature : List ℕ} → Successor H valid (at cs).device (at cs).flash m least signature
      → (last_program (taken cs ▷ m) ≡ last_program (taken cs)) × (blocks_since (taken cs ▷ m) ≡ blocks_since (taken cs)) × (last_carrier (taken cs ▷ m) ≡ Some m) × (signature_in m ≡ signature)
      → Standing (taken cs ▷ m)
  after-update cs m p a =
      let c : Completed (taken cs) = (first cs).exactly.0 (not-complete (at cs).device.stage p.complete) in
      complete c.manifest m (a.0 ∙ c.last) a.2 p.version p.size (a.1 ∙ c.all)

  more : (cs : Trace C) (m : List ℕ) → Passed H valid (at cs).device (at cs).flash m → Standing (taken cs) → Standing (taken cs ▷ m)
  more cs m (took-program k p) t =
      let a = with-program (taken cs) m k in
      loading (manifest_in m) m a.0 a.2 refl p.version p.size (rw a.1 (unfold count_of in p.size.first))
  more cs m (took-block k p) (nothing e) = absurd (not-idle (at cs).device.stage p.loading ((first cs).idle e))
  more cs m (took-block k p) (loading s c e f i v z h) = go (lt-or-le (suc (blocks_since (taken cs))) (count_of s))
    where
      a : (last_program (taken cs ▷ m) ≡ last_program (taken cs)) × (blocks_since (taken cs ▷ m) ≡ suc (blocks_since (taken cs))) × (last_carrier (taken cs ▷ m) ≡ last_carrier (taken cs))
      a = with-block (taken cs) m k

      go : (suc (blocks_since (taken cs)) < count_of s) ⊎ (count_of s ≤ suc (blocks_since (taken cs))) → Standing (taken cs ▷ m)
      go (inl l) = loading s c (a.0 ∙ e) (a.2 ∙ f) i v z (rw a.1 l)
      go (inr l) = complete s c (a.0 ∙ e) (a.2 ∙ f) v z (a.1 ∙ omega arith)
  more cs m (took-block k p) (complete s c e f v z h) = absurd (not_done (at cs).device.stage p.loading (is-complete cs s e h))
  more cs m (took-update k p) t = after-update cs m p.successor (with-update (taken cs) m k)
  more cs m (took-path k p) t = after-update cs m p.successor (with-path (taken cs) m k)

  standing : (cs : Trace C) → Standing (taken cs)
  unfolding accepted last_program
  standing empty = nothing refl
  standing (cs ▷ c) = named (part.names c) refl (standing cs)
    where
      go : part.names c ≡ true → (a : Answer) → answer_to any d flash cs c ≡ a → Standing (taken cs) → Standing (taken (cs ▷ c))
      go n (Ok _) e t = rw (n, accepted, e, accepted) (more cs (part.message c) (passes cs c n e) t)
      go n (Err r) e t = rw (n, accepted, e, accepted) t

      named : (t : Bool) → part.names c ≡ t → Standing (taken cs) → Standing (taken (cs ▷ c))
      named true n t = go n (answer_to any d flash cs c) refl t
      named false n t = rw (n, accepted) t

  -- refusal 1 never applies to the part
  pub sense : (cs : Trace C) → senseless (at cs).device ≡ false
  sense cs = sense-of cs (standing cs)

-- Where demand 3 holds refusal 1 never applies.
pub makes-sense : (H : List ℕ → List ℕ) (valid : (key message signature : List ℕ) → Bool) (any : Device → List ℕ → Call → Outcome) → Demand3 H valid any → MakesSense H valid (whole H valid) any
makes-sense H valid any meets d fresh flash =
    sense H valid (whole H valid) any d flash (λ cs. (meets d fresh flash cs).first)
    (λ cs c n e.
    let s = after any d flash cs in
    passed H valid s.device s.flash c.message c.budget (answer-none _ (sym ((meets d fresh flash cs).calls.answers c) ∙ e)))

-- A device that makes sense takes the program that it is offered, and then its blocks.
module _ (H : List ℕ → List ℕ) (hash-long : (x : List ℕ) → length (H x) ≡ hash_length) (valid : (key message signature : List ℕ) → Bool)
    (any : Device → List ℕ → Call → Outcome) (d : Device) (flash : List ℕ) (cs : Trace Call) (job : Job) where
  -- the list with nothing between
  plain : (c : Call) (budget : ℕ) → Covers H job budget → (j : ℕ) → j ≤ count job.image
      → Honest H valid (whole H valid) any d flash job cs c j (then_sent H job.image budget (cs ▷ c) j)
  unfolding then_sent
  plain c budget covers zero h = begin
  plain c budget covers (suc j) h = next h refl refl (covers (suc j) (omega arith) h) (plain c budget covers j (omega arith))

  module _ (signature : List ℕ) where
    recovers : Calls H valid (whole H valid) any d flash cs → length (after any d flash cs).flash ≡ length flash → ((list : Trace Call) → SecondHalf H valid (whole H valid) any d flash list)
        → senseless (after any d flash cs).device ≡ false → Offered H valid any d flash cs job signature → Recovers H valid any d flash cs job signature
    recovers calls long second sense o =
        record {
          taken = accepts;
          loaded = loads;
          none_between = λ b budget covers. loads b _ (plain (call b (program_for H job signature)) budget covers (count job.image) (omega arith));
        }
      where
        at : Situation
        at = after any d flash cs

        accepts : (b : ℕ) → answer_to any d flash cs (call b (program_for H job signature)) ≡ Accepted
        accepts b =
            unfold answer_of in
            (calls.answers (call b (program_for H job signature))
            ∙ ap answer_of
            (program-accepted H hash-long valid job o.sendable signature at.device at.flash sense (o.model ∙ sym calls.model) o.newer (rw long o.room) (rw calls.key o.signed) b))

        begun : (b : ℕ) → Begun H valid (whole H valid) any d flash job cs (call b (program_for H job signature))
        begun b =
            let p = is-program H hash-long valid job o.sendable signature in
            record { sendable = o.sendable; program = p.is; carries = p.manifest; taken = (refl, accepts b) }

        loads : (b : ℕ) (list : Trace Call) → Honest H valid (whole H valid) any d flash job cs (call b (program_for H job signature)) (count job.image) list
            → Loaded H valid (whole H valid) any d flash job cs list
        loads b list h = ((second list).loads job cs (call b (program_for H job signature)) (count job.image) (begun b) h).done refl

-- for any step that meets demand 3, with any hash function of 32 bytes and any verdict
pub recovery-for : (H : List ℕ → List ℕ) → ((x : List ℕ) → length (H x) ≡ hash_length) → (valid : (key message signature : List ℕ) → Bool)
    (any : Device → List ℕ → Call → Outcome) → Demand3 H valid any → Recovery H valid any
recovery-for H hash-long valid any meets d fresh flash cs job signature o =
    let claim : (cs : Trace Call) → Claim H valid (whole H valid) any d flash cs = meets d fresh flash in
    recovers H hash-long valid any d flash cs job signature (claim cs).calls (claim cs).first.one (λ list. (claim list).second)
    (makes-sense H valid any meets d fresh flash cs) o

-- for the device, with SHA-256 and the verdict of RFC 8554
pub recovery : Recovery digest lms.valid (step_call digest lms.valid)
recovery = recovery-for digest length-digest lms.valid (step_call digest lms.valid) demand3

pub recovery-from : (H : List ℕ → List ℕ) → ((x : List ℕ) → length (H x) ≡ hash_length) → (valid : (key message signature : List ℕ) → Bool) → RecoveryFrom H valid
unfolding after
recovery-from H hash-long valid d sense flash job signature =
    recovers H hash-long valid (step_call H valid) d flash empty job signature (calls H valid d flash empty) refl
    (second-half H hash-long valid (whole H valid) (step_call H valid) d flash (serves H valid) (willing H valid d flash)) sense

pub most-covers : (H : List ℕ → List ℕ) → ((x : List ℕ) → length (H x) ≡ hash_length) → MostCovers H
unfolding manifest_for count_of count
most-covers H hash-long job ok i low high = (costs-due H hash-long (manifest_for H job) i ok.size low high).most

-- the serial of a device that is not idle
own-serial : (d : Device) → (d.stage ≡ Idle → ⊥) → serial_of d ≡ d.manifest.serial
unfolding serial_of
own-serial d busy = go d.stage refl
  where
    go : (t : Stage) → d.stage ≡ t → serial_of d ≡ d.manifest.serial
    go Idle z = absurd (busy z)
    go (Loading i) z = rw (z, serial_of)
    go Complete z = rw (z, serial_of)

-- so a further new program with the same manifest is refused 7
pub same-again : (H : List ℕ → List ℕ) (valid : (key message signature : List ℕ) → Bool) → SameAgain H valid
unfolding after answer_to answer_of refusal_of refusals always of_kind of_manifest of_program no_kind short other_model not_newer first_that_applies
same-again H valid budget d e busy model flash m is long same =
    let s = d.manifest in
    let q = sound d e busy in
    let first : refusal_of H valid budget d flash m ≡ Some refusal.Serial =
    rw (is, same, e, le-ltb (length m) (least_length Program) long, q.0, q.1, eq-eqb s.model d.model model, own-serial d busy, le-ltb s.serial s.serial (omega arith)) in
    answered H valid budget d flash m ∙ ap answer_of first

-- a list of blocks after others, as a list from where those lead
from-there : (H : List ℕ → List ℕ) (any : Device → List ℕ → Call → Outcome) (d : Device) (flash : List ℕ) (image : Image) (budget : ℕ) (cs : Trace Call) (j : ℕ)
    → after any d flash (then_sent H image budget cs j) ≡ (let s = after any d flash cs in after any s.device s.flash (then_sent H image budget empty j))
unfolding after then_sent
from-there H any d flash image budget cs zero = refl
from-there H any d flash image budget cs (suc j) = rw (from-there H any d flash image budget cs j)

-- what an offered program does, with any budget: the device then has nothing of the flash
program-does : (H : List ℕ → List ℕ) → ((x : List ℕ) → length (H x) ≡ hash_length) → (valid : (key message signature : List ℕ) → Bool)
    (d : Device) → senseless d ≡ false → (flash : List ℕ) (job : Job) (signature : List ℕ) → Offered H valid (step_call H valid) d flash empty job signature → (budget : ℕ)
    → (let p = program_for H job signature in
    let o = step H valid budget d flash p in
    (o.device ≡ (accept_program d flash p).device) × (o.flash ≡ flash))
unfolding after accept accept_program
program-does H hash-long valid d sense flash job signature o budget =
    rw (
      accepted-step H valid budget d flash _ (program-accepted H hash-long valid job o.sendable signature d flash sense o.model o.newer o.room o.signed budget),
      (is-program H hash-long valid job o.sendable signature).is,
      accept,
    ) (refl, refl)

pub put_back : (H : List ℕ → List ℕ) → ((x : List ℕ) → length (H x) ≡ hash_length) → (valid : (key message signature : List ℕ) → Bool) → PutBack H valid
unfolding after accept_program step_call
put_back H hash-long valid d sense flash job signature o first now room =
    let p = program_for H job signature in
    let n = count job.image in
    let o' : Offered H valid (step_call H valid) d now empty job signature = record { sendable = o.sendable; model = o.model; newer = o.newer; room = room; signed = o.signed } in
    let does = program-does H hash-long valid d sense in
    let was = does flash job signature o first in
    let saved : (b : ℕ) → after (step_call H valid) d now (empty ▷ call b p) ≡ record { device = (step H valid first d flash p).device; flash = now } =
    λ b. let is = does now job signature o' b in rw (is.0, is.1, was.0) in
    let r = recovery-from H hash-long valid d sense now job signature o' in
    record {
      same = saved;
      recovers = r;
      loads = λ budget covers.
          let end = r.none_between 0 budget covers in
          subst (λ (s : Situation). Installed H job now s.device s.flash)
          (from-there H (step_call H valid) d now job.image budget (empty ▷ call 0 p) n
          ∙ ap (λ (s : Situation). after (step_call H valid) s.device s.flash (then_sent H job.image budget empty n)) (saved 0))
          (record { stage = end.stage; manifest = end.manifest; image = end.image });
    }
