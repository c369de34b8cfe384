-- A device that does what its definitions say: its step is the choice by the first refusal that applies.
use Rattle.std.proofs.Common.{◌≡◌, refl, sym, ap, ◌∙◌, Bool, true, false, List, Option, None, Some, ℕ, Ok, Err}
use Rattle.wire.specs.declared.refusal.Refusal.{Refusal}
use Rattle.wire.specs.Refusal.{refusal_number}
use Rattle.wire.specs.Message.{kind}
use Rattle.machine.specs.Answer.{Answer, Accepted, Refused}
use Rattle.machine.specs.Device.{SituationOf, OutcomeOf, Situation}
use Rattle.machine.specs.Readers.{number_of}
use Rattle.machine.specs.Step.{accept, answer_of, outcome}
use Rattle.machine.proofs.RefusalLaws.{answer-none, answer-some}
use Rattle.guarantee.specs.Part.{Part}
use Rattle.guarantee.specs.Run.{Trace, after, answer_to}
use Rattle.guarantee.specs.Demand3.{Calls}
use Rattle.guarantee.proofs.RunLaws.{slot, then, PassedBy, Serves, keeps}

by_number : (r : Option Refusal) → number_of (answer_of r) ≡ elim r [ None ↦ 0 | Some x ↦ refusal_number x ]
unfolding answer_of
by_number None = refl
by_number (Some x) = refl

module _ {D F : Type 0} (budget cost : ℕ) (d : D) (f : F) (t : SituationOf D F) where
  pub outcome-answer : (r : Option Refusal) → (outcome r budget cost d f t).answer ≡ answer_of r
  unfolding outcome answer_of
  outcome-answer None = refl
  outcome-answer (Some x) = refl

  pub outcome-reports : (r : Option Refusal)
      → (let o = outcome r budget cost d f t in (o.compressions ≡ elim o.answer [ Ok _ ↦ cost | Err x ↦ 0 ]) × (o.budget ≡ budget))
  unfolding outcome
  outcome-reports None = (refl, refl)
  outcome-reports (Some x) = (refl, refl)

module _ (H : List ℕ → List ℕ) (valid : (key message signature : List ℕ) → Bool) {D F C : Type 0} (part : Part D F C) (step : D → F → C → OutcomeOf D F)
    (to : D → F → C → SituationOf D F) (chosen : (d : D) (f : F) (c : C) → step d f c ≡ outcome (part.refusal d f c) (part.budget c) (part.total d f c) d f (to d f c)) where
  pub given : (d : D) (f : F) (c : C) → (step d f c).answer ≡ answer_of (part.refusal d f c)
  given d f c = ap (λ o. o.answer) (chosen d f c) ∙ outcome-answer (part.budget c) (part.total d f c) d f (to d f c) (part.refusal d f c)

  reported : (d : D) (f : F) (c : C)
      → ((step d f c).compressions ≡ elim (step d f c).answer [ Ok _ ↦ part.total d f c | Err r ↦ 0 ]) × ((step d f c).budget ≡ part.budget c)
  reported d f c = rw (chosen d f c) (outcome-reports (part.budget c) (part.total d f c) d f (to d f c) (part.refusal d f c))

  pub accepted-none : (d : D) (f : F) (c : C) → (step d f c).answer ≡ Accepted → part.refusal d f c ≡ None
  accepted-none d f c e = answer-none (part.refusal d f c) (sym (given d f c) ∙ e)

  pub none-accepted : (d : D) (f : F) (c : C) → part.refusal d f c ≡ None → (step d f c).answer ≡ Accepted
  unfolding answer_of
  none-accepted d f c e = given d f c ∙ ap answer_of e

  left : OutcomeOf D F → SituationOf D F
  left o = record { device = o.device; flash = o.flash }

  left-accepted : (d : D) (f : F) (c : C) → (step d f c).answer ≡ Accepted → left (step d f c) ≡ to d f c
  unfolding left outcome
  left-accepted d f c e = ap left (chosen d f c) ∙ rw (accepted-none d f c e, outcome)

  left-refused : (d : D) (f : F) (c : C) (r : Refusal) → (step d f c).answer ≡ Refused r → left (step d f c) ≡ record { device = d; flash = f }
  unfolding left outcome
  left-refused d f c r e = ap left (chosen d f c) ∙ rw (answer-some (part.refusal d f c) r (sym (given d f c) ∙ e), outcome)

  -- What a device's definitions owe: an accepted call does to the part it names what it should and leaves the others, and the tests of its kind are among the device's refusals.
  pub record Fitting : Type 0 where
    pub here : (d : D) (f : F) (c : C) → part.names c ≡ true
        → (let t = to d f c in slot part t.device t.flash ≡ accept (kind (part.message c)) (part.device d) (part.flash f) (part.message c))
    pub away : (d : D) (f : F) (c : C) → part.names c ≡ false → (let t = to d f c in slot part t.device t.flash ≡ slot part d f)
    pub passes : (d : D) (f : F) (c : C) → part.names c ≡ true → part.refusal d f c ≡ None → PassedBy H valid part step d f c

  abbrev seen : SituationOf D F → Situation
  seen s = slot part s.device s.flash

  module _ (fits : Fitting) where
    refused-stays : (d : D) (f : F) (c : C) (r : Refusal) → (step d f c).answer ≡ Refused r → then H valid part step d f c ≡ slot part d f
    unfolding left
    refused-stays d f c r e = ap seen (left-refused d f c r e)

    elsewhere : (d : D) (f : F) (c : C) → part.names c ≡ false → then H valid part step d f c ≡ slot part d f
    unfolding left
    elsewhere d f c n = go (step d f c).answer refl
      where
        go : (a : Answer) → (step d f c).answer ≡ a → then H valid part step d f c ≡ slot part d f
        go (Ok _) e = ap seen (left-accepted d f c e) ∙ fits.away d f c n
        go (Err r) e = refused-stays d f c r e

    pub serves : Serves H valid part step
    unfolding left
    serves =
        record {
          elsewhere = elsewhere;
          refused = refused-stays;
          passes = λ d f c n e. fits.passes d f c n (accepted-none d f c e);
          accepts = λ d f c n e. ap seen (left-accepted d f c e) ∙ fits.here d f c n;
        }

    pub calls : (d : D) (flash : F) (cs : Trace C) → Calls H valid part step d flash cs
    unfolding after answer_to left
    calls d flash cs =
        let s = after step d flash cs in
        record {
          answers = λ c. given s.device s.flash c;
          numbers = λ c. ap number_of (given s.device s.flash c) ∙ by_number (part.refusal s.device s.flash c);
          refused = λ c r e. left-refused s.device s.flash c r e;
          reports = λ c n. reported s.device s.flash c;
          leaves = λ c n. let e = elsewhere s.device s.flash c n in (ap (λ (t : Situation). t.device) e, ap (λ (t : Situation). t.flash) e);
          model = (keeps H valid part step d flash serves cs).0;
          key = (keeps H valid part step d flash serves cs).1;
        }
