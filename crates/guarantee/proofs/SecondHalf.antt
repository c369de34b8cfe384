-- Demand 3, second half: the honest run.
use Rattle.std.proofs.Common.{◌≡◌, sym, ap, ap₂, ◌∙◌, subst, ◌⊎◌, inl, inr, ⊎_elim, Bool, true, List, ℕ, suc, ◌≤◌, ◌<◌, arith, length}
use Rattle.merkle.specs.Limits.{hash_length}
use Rattle.wire.specs.declared.kind.Kind.TheVariants.{Block}
use Rattle.wire.specs.Message.{kind}
use Rattle.wire.specs.Cost.{cost_due}
use Rattle.sender.specs.Job.{Job, count, manifest_for, block_for}
use Rattle.machine.specs.Answer.{Accepted}
use Rattle.machine.specs.Device.{OutcomeOf, Situation}
use Rattle.machine.specs.Step.{total, accept}
use Rattle.guarantee.specs.Part.{Part}
use Rattle.guarantee.specs.Run.{Trace, Messages, ◌▷◌, after, answer_to}
use Rattle.guarantee.specs.Demand3.{then_blocks, Begun, Honest, begin, next, other, Loads, SecondHalf}
use Rattle.guarantee.specs.Claims.{Beginning, all, shorter, EachBeginning}
use Rattle.machine.proofs.RefusalLaws.{passed-program, NextDue}
use Rattle.guarantee.proofs.RunLaws.{Serves, now, taken, more, Same, untaken}
use Rattle.guarantee.proofs.SentLaws.{block-sent}
use Rattle.guarantee.proofs.HonestLaws.{Here, first-here, next-due, next-cost, next_here, is-complete, holding, held-few, none_held, flash-is}

module _ (H : List ℕ → List ℕ) (valid : (key message signature : List ℕ) → Bool) {D F C : Type 0} (part : Part D F C) (step : D → F → C → OutcomeOf D F) (d : D) (flash : F) where
  -- All that the honest run needs besides: after every list from here, a call whose block message the part waits for is accepted, if its budget suffices.
  pub record Willing : Type 0 where
    pub takes : (cs : Trace C) (c : C) → part.names c ≡ true
        → (let s = after step d flash cs in
        NextDue H valid (part.device s.device) (part.flash s.flash) (part.message c)
        → total H Block (part.device s.device) (part.flash s.flash) (part.message c) ≤ part.budget c
        → answer_to step d flash cs c ≡ Accepted)

module _ (H : List ℕ → List ℕ) (hash-long : (x : List ℕ) → length (H x) ≡ hash_length) (valid : (key message signature : List ℕ) → Bool) {D F C : Type 0} (part : Part D F C)
    (step : D → F → C → OutcomeOf D F) (d : D) (flash : F) (serves : Serves H valid part step) (willing : Willing H valid part step d flash)
    (job : Job) (before : Trace C) (c : C) (b : Begun H valid part step d flash job before c) where
  abbrev at : Trace C → Situation
  at cs = now H valid part step d flash serves cs

  abbrev list : Trace C → Messages
  list cs = taken H valid part step d flash serves cs

  -- after j blocks: the device loads the job, and since the manifest these blocks were accepted
  record Run (j : ℕ) (cs : Trace C) : Type 0 where
    here : Here H hash-long valid job b.sendable (at before).flash j (at cs)
    all : list cs ≡ then_blocks H job.image (list before ▷ part.message c) j

  unmoved : {j : ℕ} {cs : Trace C} (x : C) → Same H valid part step d flash serves cs x → Run j cs → Run j (cs ▷ x)
  unmoved x a w = record { here = rw a.after_is w.here; all = a.taken_is ∙ w.all }

  -- the next block
  module _ {j : ℕ} {cs : Trace C} (x : C) (h : j < count job.image) (named : part.names x ≡ true) (block : part.message x ≡ block_for H job.image (suc j))
      (enough : cost_due H (manifest_for H job) (suc j) ≤ part.budget x) (w : Run j cs) where
    is_block : kind (part.message x) ≡ Block
    is_block = ap kind block ∙ (block-sent H hash-long job b.sendable j h).is

    is-due : NextDue H valid (at cs).device (at cs).flash (part.message x)
    is-due = subst (NextDue H valid (at cs).device (at cs).flash) (sym block) (next-due H hash-long valid job b.sendable (at before).flash j (at cs) w.here h)

    within : total H Block (at cs).device (at cs).flash (part.message x) ≤ part.budget x
    within = rw (block, next-cost H hash-long valid job b.sendable (at before).flash j (at cs) w.here h) enough

    does-block : accept (kind (part.message x)) (at cs).device (at cs).flash (part.message x) ≡ accept Block (at cs).device (at cs).flash (block_for H job.image (suc j))
    does-block = ap₂ (λ k m. accept k (at cs).device (at cs).flash m) is_block block

    one_block : Run (suc j) (cs ▷ x)
    unfolding then_blocks
    one_block =
        let a = more H valid part step d flash serves cs x named (willing.takes cs x named is-due within) in
        record {
          here = subst (Here H hash-long valid job b.sendable (at before).flash (suc j)) (sym (a.after_is ∙ does-block))
              (next_here H hash-long valid job b.sendable (at before).flash j (at cs) w.here h);
          all = a.taken_is ∙ ap₂ {C = Messages} (λ (l : Messages) m. l ▷ m) w.all block;
        }

  run : {j : ℕ} {cs : Trace C} → Honest H valid part step d flash job before c j cs → Run j cs
  unfolding then_blocks
  run begin =
      let a = more H valid part step d flash serves before c b.taken.0 b.taken.1 in
      record {
        here = rw (a.after_is, b.program) (first-here H hash-long valid job b.sendable (at before).device (at before).flash (part.message c) b.carries
            (passed-program H valid (at before).device (at before).flash (part.message c) b.program a.passed));
        all = a.taken_is;
      }
  run (next {j} {cs} {x} h n e b y) = one_block x h n e b (run y)
  run (other {j} {cs} {x} n y) = unmoved x (untaken H valid part step d flash serves cs x n) (run y)

  pub loads : {j : ℕ} {cs : Trace C} → Honest H valid part step d flash job before c j cs → Loads H valid part step d flash job before c j cs
  loads {j} {cs} x =
      let w = run x in
      let s : Situation = at cs in
      let old : List ℕ = (at before).flash in
      record {
        all = w.all;
        held = holding H hash-long valid job b.sendable old j s w.here;
        few = held-few H hash-long valid job b.sendable old j s w.here;
        done = λ e.
            record {
              stage = is-complete H hash-long valid job b.sendable old j s w.here e;
              manifest = w.here.manifest;
              none_held = none_held H hash-long valid job b.sendable old j s w.here e;
              image = flash-is H hash-long valid job b.sendable old j s w.here e;
            };
      }

module _ (H : List ℕ → List ℕ) (valid : (key message signature : List ℕ) → Bool) {D F C : Type 0} (part : Part D F C) (any : D → F → C → OutcomeOf D F) where
  shortened : (d : D) (flash : F) (job : Job) (before : Trace C) (c : C) {fewer cs : Trace C} {j : ℕ} → Honest H valid part any d flash job before c j cs
      → Beginning fewer cs → Beginning fewer before ⊎ ((i : ℕ) × (i ≤ j) × Honest H valid part any d flash job before c i fewer)
  shortened d flash job before c {j = j} h all = inr (j, omega arith, h)
  shortened d flash job before c begin (shorter b) = inl b
  shortened d flash job before c (next lt n e enough h) (shorter b) = ⊎_elim (λ e. inl e) (λ e. inr (e.0, omega arith, e.2)) (shortened d flash job before c h b)
  shortened d flash job before c (other n h) (shorter b) = shortened d flash job before c h b

  pub each-beginning : EachBeginning H valid part any
  each-beginning d flash job before c j cs fewer h b = shortened d flash job before c h b

pub second-half : (H : List ℕ → List ℕ) → ((x : List ℕ) → length (H x) ≡ hash_length) → (valid : (key message signature : List ℕ) → Bool) {D F C : Type 0} (part : Part D F C)
    (step : D → F → C → OutcomeOf D F) (d : D) (flash : F) → Serves H valid part step → Willing H valid part step d flash → (cs : Trace C) → SecondHalf H valid part step d flash cs
second-half H hash-long valid part step d flash serves willing cs = record { loads = λ job before c j b x. loads H hash-long valid part step d flash serves willing job before c b x }
