-- The bundle that the showroom makes for an image loads to complete.
use mathlib.Core.Path.{◌≡◌, refl, sym, ap, ap₂, ◌∙◌, subst}
use mathlib.Core.Bool.{false}
use mathlib.Core.List.{List, [], ◌++◌, append_assoc, append-nil}
use Rattle.std.specs.Prelude.{None}
use Prim.Native.Nat.{ℕ, zero, suc, ◌+◌, ◌-◌, ◌≤◌, ◌<◌}
use native.Mathlib.Nat.{zero-add, mod-eq_of_lt}
use native.Mathlib.Omega.{arith}
use lib.ListN.{length, take, drop, length-append, length-replicate}
use lib.Seq.{take_at, drop_at}
use borrow.Author.Tests.{le-ltb}
use Rattle.octets.specs.Octets.{bytes, number, part, joined, up_to}
use Rattle.octets.proofs.NumberLaws.{length-bytes, number-bytes}
use Rattle.octets.proofs.CopyLaws.{part-second}
use Rattle.decimal.specs.Decimal.{ascii, line}
use Rattle.sha256.specs.Sha256.{digest}
use Rattle.sha256.proofs.DigestLaws.{length-digest}
use Rattle.merkle.specs.Limits.{held_bytes}
use Rattle.lms.specs.Lms.{valid}
use Rattle.wire.specs.declared.manifest.Manifest.{Manifest}
use Rattle.wire.specs.declared.kind.Kind.{Kind}
use Rattle.wire.specs.declared.kind.Kind.TheVariants.{Program, Block}
use Rattle.wire.specs.Geometry.{count_of}
use Rattle.wire.specs.Message.{kind, due_length}
use Rattle.wire.specs.Claims.{OfProgram}
use Rattle.sender.specs.Job.{Job, count, manifest_for, program_for, block_for}
use Rattle.machine.specs.declared.state.Device.{Device}
use Rattle.machine.specs.Answer.{Accepted}
use Rattle.machine.specs.Device.{Fresh, fresh_with, serial_of, Situation, Outcome}
use Rattle.machine.specs.Step.{accept, total, refusal_of, step}
use Rattle.machine.specs.Readers.{accepted_blocks}
use Rattle.guarantee.specs.Demand3.{Sendable}
use Rattle.machine.proofs.RefusalLaws.{program-passed}
use Rattle.guarantee.proofs.DeviceLaws.{accepted-step}
use Rattle.guarantee.proofs.SentLaws.{block-sent}
use Rattle.guarantee.proofs.HonestLaws.{Here, next-accepted, next_here, first-here, is-complete, flash-is}
use Rattle.machine.proofs.SenseLaws.{sense-idle}
use Rattle.guarantee.proofs.ProgramLaws.{is-program, program-accepted}
use Rattle.guarantee.proofs.RecoveryHolds.{most-covers}
use Rattle.bundle.specs.Text.{bundle_line, slip_line, block_line, state_words, state_line}
use Rattle.bundle.specs.Parts.{trailer_length, trailer_at, distance, nowhere, program_at, program_in, before_program}
use Rattle.bundle.specs.Load.{max_bundle, loader_budget, Printed, ◌before◌, if_accepted, blocks_from, blocks, messages, with_state, device_for, printed_for}
use Rattle.bundle.specs.Bundle.{block_messages, bundle_for}
use Rattle.bundle.specs.Claims.{Loadable, accepted_from, Whole, LoadsWhole}
use Rattle.bundle.proofs.LoadLaws.{all-printed}
use Rattle.bundle.proofs.PackLaws.{messages-suc}

module _ (job : Job) where
  -- the messages after the first j
  messages_after : ℕ → ℕ → List ℕ
  messages_after j zero = []
  messages_after j (suc left) = block_for digest job.image (suc j) ++ messages_after (suc j) left

  messages-after : (left j : ℕ) → block_messages digest job.image (j + left) ≡ block_messages digest job.image j ++ messages_after j left
  unfolding messages_after
  messages-after zero j = let e : j + 0 ≡ j = omega arith in ap (block_messages digest job.image) e ∙ sym (append-nil (block_messages digest job.image j))
  messages-after (suc left) j =
      let e : j + suc left ≡ suc j + left = omega arith in
      ap (block_messages digest job.image) e ∙ messages-after left (suc j) ∙ ap (λ (s : List ℕ). s ++ messages_after (suc j) left) (messages-suc job.image j)
      ∙ append_assoc (block_messages digest job.image j) (block_for digest job.image (suc j)) (messages_after (suc j) left)

-- what comes of an accepted message of this kind
module _ (k : Kind) (d : Device) (flash m : List ℕ) where
  abbrev accepted_as : Outcome
  accepted_as = let t = accept k d flash m in record { answer = Accepted; compressions = total digest k d flash m; budget = loader_budget; device = t.device; flash = t.flash }

  accepted-as : kind m ≡ k → refusal_of digest valid loader_budget d flash m ≡ None → step digest valid loader_budget d flash m ≡ accepted_as
  accepted-as e a = rw e at (accepted-step digest valid loader_budget d flash m a)

module _ (job : Job) (ok : Sendable job) (old : List ℕ) where
  abbrev Reached : ℕ → Situation → Type 0
  Reached j s = Here digest length-digest valid job ok old j s

  -- the loader's loop over the messages after the first j
  record Runs (left j : ℕ) (p : Printed) : Type 0 where
    text : p.text ≡ accepted_from left (suc j)
    here : Reached (count job.image) (record { device = p.device; flash = p.flash })

  one : (left j : ℕ) (s : Situation) (rest : List ℕ) → j < count job.image → Reached j s
      → (let t = accept Block s.device s.flash (block_for digest job.image (suc j)) in
      blocks_from job.image.block_len (length job.image.bytes) (suc left) (suc j) s.device s.flash (block_for digest job.image (suc j) ++ rest)
      ≡ block_line (suc j) 0 before blocks_from job.image.block_len (length job.image.bytes) left (suc (suc j)) t.device t.flash rest)
  unfolding blocks_from if_accepted
  one left j s rest h w =
      let m : List ℕ = block_for digest job.image (suc j) in
      let b = block-sent digest length-digest job ok j h in
      let due : ℕ = due_length job.image.block_len (length job.image.bytes) (suc j) in
      let first : take due (m ++ rest) ≡ m = take_at m rest due b.size in
      let behind : drop due (m ++ rest) ≡ rest = drop_at m rest due b.size in
      let within = most-covers digest length-digest job ok (suc j) (omega arith) (omega arith) in
      let o = accepted-as Block s.device s.flash m b.is (next-accepted digest length-digest valid job ok old j s w loader_budget h within) in
      rw (first, behind, o) refl

  runs : (left j : ℕ) (s : Situation) (filler : List ℕ) → j + left ≡ count job.image → Reached j s
      → Runs left j (blocks_from job.image.block_len (length job.image.bytes) left (suc j) s.device s.flash (messages_after job j left ++ filler))
  unfolding blocks_from accepted_from ◌before◌ messages_after
  runs zero j s filler e w = let z : j ≡ count job.image = omega arith in record { text = refl; here = subst (λ k. Reached k s) z w }
  runs (suc left) j s filler e w =
      let h : j < count job.image = omega arith in
      let m : List ℕ = block_for digest job.image (suc j) in
      let t : Situation = accept Block s.device s.flash m in
      let r = runs left (suc j) t filler (omega arith) (next_here digest length-digest valid job ok old j s w h) in
      let same = ap (blocks_from job.image.block_len (length job.image.bytes) (suc left) (suc j) s.device s.flash) (append_assoc m (messages_after job (suc j) left) filler)
      ∙ one left j s (messages_after job (suc j) left ++ filler) h w in
      subst (Runs (suc left) j) (sym same) (record { text = ap (λ x. block_line (suc j) 0 ++ x) r.text; here = r.here })

-- where the loader finds the kind 1 message, and what stands before it
module _ (front program : List ℕ) where
  abbrev bundle : List ℕ
  bundle = front ++ program ++ bytes trailer_length (length program)

  record ProgramFound : Type 0 where
    somewhere : nowhere bundle ≡ false
    program_is : program_in bundle ≡ program
    front_is : before_program bundle ≡ front

  program-found : length bundle ≤ max_bundle → ProgramFound
  unfolding nowhere trailer_at distance program_at program_in before_program
  program-found h =
      let t : List ℕ = bytes trailer_length (length program) in
      let four : length t ≡ trailer_length = length-bytes trailer_length (length program) in
      let both = length-append front program in
      let all : length bundle ≡ length (front ++ program) + length t = length-append (front ++ program) t in
      let at : length (front ++ program) ≡ length bundle - trailer_length = omega arith in
      let trailer : part (length bundle - trailer_length) trailer_length bundle ≡ t = part-second (front ++ program) t (length bundle - trailer_length) trailer_length at four in
      let far : distance bundle ≡ length program = ap number trailer ∙ number-bytes trailer_length (length program) ∙ mod-eq_of_lt (omega arith) in
      let start : program_at bundle ≡ length front = omega arith in
      let split : bundle ≡ front ++ (program ++ t) = append_assoc front program t in
      record {
        somewhere = rw (le-ltb (length bundle) trailer_length (omega arith), le-ltb (length bundle - trailer_length) (distance bundle) (omega arith)) refl;
        program_is = ap₂ (λ i k. take k (drop i bundle)) start far ∙ ap (λ b. take (length program) (drop (length front) b)) split
            ∙ ap (take (length program)) (drop_at front (program ++ t) (length front) refl) ∙ take_at program t (length program) refl;
        front_is = ap (λ i. take i bundle) start ∙ ap (take (length front)) split ∙ take_at front (program ++ t) (length front) refl;
      }

module _ (key flash : List ℕ) (job : Job) (filler signature : List ℕ) (h : Loadable key flash job filler signature) where
  abbrev ok : Sendable job
  ok = h.sendable

  abbrev d : Device
  d = device_for key

  abbrev program : List ℕ
  program = program_for digest job signature

  abbrev front : List ℕ
  front = block_messages digest job.image (count job.image) ++ filler

  -- the kind 1 message, accepted
  abbrev begun : Situation
  begun = accept Program d flash program

  fresh : Fresh d
  unfolding device_for fresh_with
  fresh = record { idle = refl; array = length-replicate {A = ℕ} held_bytes 0 }

  newer : serial_of d < job.serial
  unfolding device_for fresh_with serial_of
  newer = h.serial

  none-applies : refusal_of digest valid loader_budget d flash program ≡ None
  none-applies = program-accepted digest length-digest valid job ok signature d flash (sense-idle d fresh.idle) h.model newer h.room h.signed loader_budget

  is-sent : OfProgram (manifest_for digest job) signature program
  is-sent = is-program digest length-digest valid job ok signature

  here : Here digest length-digest valid job ok flash 0 begun
  here = first-here digest length-digest valid job ok d flash program is-sent.manifest (program-passed digest valid d flash program loader_budget is-sent.is none-applies)

  ran : Runs job ok flash (count job.image) 0 (blocks begun.device begun.flash front)
  unfolding blocks
  ran = subst (Runs job ok flash (count job.image) 0) (sym (of-manifest ∙ of-messages)) (runs job ok flash (count job.image) 0 begun filler (zero-add (count job.image)) here)
    where
      from : (L T n : ℕ) → List ℕ → Printed
      from L T n b = blocks_from L T n 1 begun.device begun.flash (b ++ filler)

      this : List ℕ → Printed
      this b = from job.image.block_len (length job.image.bytes) (count job.image) b

      of-manifest : blocks begun.device begun.flash front ≡ this (block_messages digest job.image (count job.image))
      of-manifest = unfold count_of manifest_for count in ap (λ (s : Manifest). from s.block_len s.image_len (count_of s) (block_messages digest job.image (count job.image))) here.manifest

      of-messages : this (block_messages digest job.image (count job.image)) ≡ this (messages_after job 0 (count job.image))
      of-messages = unfold block_messages joined up_to in
          ap this (ap (block_messages digest job.image) (sym (zero-add (count job.image))) ∙ messages-after job (count job.image) 0)

  taken : messages d flash (bundle front program) ≡ slip_line 0 before blocks begun.device begun.flash front
  unfolding messages if_accepted
  taken =
      let f = program-found front program (unfold bundle_for in h.fits) in
      let o = accepted-as Program d flash program is-sent.is none-applies in
      rw (f.somewhere, f.program_is, f.front_is, o, messages) refl

  state-is : (p : Printed) → Runs job ok flash (count job.image) 0 p → state_line p.device ≡ line (ascii "state complete ") (count job.image)
  unfolding state_line state_words accepted_blocks
  state-is p r =
      let s : Situation = record { device = p.device; flash = p.flash } in
      let c = is-complete digest length-digest valid job ok flash (count job.image) s r.here refl in
      rw (c, r.here.manifest) (unfold count_of manifest_for count in refl)

  whole : Whole job (bundle_for digest job filler signature) flash (printed_for key (bundle_for digest job filler signature) flash)
  unfolding bundle_for ◌before◌ with_state
  whole =
      let b : List ℕ = bundle front program in
      let p : Printed = blocks begun.device begun.flash front in
      let s : Situation = record { device = p.device; flash = p.flash } in
      let first : List ℕ = bundle_line (length b) in
      let second : List ℕ = slip_line 0 in
      let is : printed_for key b flash ≡ first before with_state (second before p) = all-printed key b flash h.key_long h.fits ∙ ap (λ (q : Printed). first before with_state q) taken in
      let text : first ++ (second ++ p.text ++ state_line p.device) ≡ first ++ second ++ accepted_from (count job.image) 1 ++ line (ascii "state complete ") (count job.image) =
      ap₂ (λ x y. first ++ (second ++ x ++ y)) ran.text (state-is p ran)
      ∙ sym (append_assoc first (second ++ accepted_from (count job.image) 1) (line (ascii "state complete ") (count job.image)))
      ∙ ap (λ x. x ++ line (ascii "state complete ") (count job.image)) (sym (append_assoc first second (accepted_from (count job.image) 1))) in
      subst (Whole job b flash) (sym is)
      (record {
        text = text;
        stage = is-complete digest length-digest valid job ok flash (count job.image) s ran.here refl;
        manifest = ran.here.manifest;
        image = flash-is digest length-digest valid job ok flash (count job.image) s ran.here refl;
      })

pub loads-whole : LoadsWhole
loads-whole = whole
