-- The device's own step, in one call and in lists of calls.
use Rattle.std.proofs.Common.{◌≡◌, refl, sym, ◌∙◌, Bool, true≢false, List, Option, None, Some, ℕ}
use Rattle.wire.specs.declared.refusal.Refusal.{Refusal}
use Rattle.wire.specs.Message.{kind}
use Rattle.machine.specs.declared.state.Device.{Device}
use Rattle.machine.specs.Answer.{Accepted, Refused}
use Rattle.machine.specs.Device.{Situation}
use Rattle.machine.specs.Step.{total, accept, answer_of, outcome, refusal_of, step, Call, step_call}
use Rattle.machine.proofs.RefusalLaws.{passed, answer-none, answer-some}
use Rattle.guarantee.specs.Part.{whole}
use Rattle.guarantee.specs.Run.{Trace, ◌▷◌, after, answer_to}
use Rattle.guarantee.specs.Demand3.{Calls}
use Rattle.guarantee.proofs.RunLaws.{Serves}
use Rattle.guarantee.proofs.ChoiceLaws as choice
use Rattle.guarantee.proofs.HonestLaws.{within-unrefused}
use Rattle.guarantee.proofs.SecondHalf.{Willing}

-- One call.
module _ (H : List ℕ → List ℕ) (valid : (key message signature : List ℕ) → Bool) (budget : ℕ) (d : Device) (f m : List ℕ) where
  -- what an accepted message does
  pub accepted-step : refusal_of H valid budget d f m ≡ None
      → step H valid budget d f m
      ≡ (let s = accept (kind m) d f m in record { answer = Accepted; compressions = total H (kind m) d f m; budget = budget; device = s.device; flash = s.flash })
  unfolding step outcome
  accepted-step e = rw (e, step, outcome)

  pub answered : (step H valid budget d f m).answer ≡ answer_of (refusal_of H valid budget d f m)
  unfolding step
  answered = choice.outcome-answer budget (total H (kind m) d f m) d f (accept (kind m) d f m) (refusal_of H valid budget d f m)

  -- what is accepted no refusal applies to
  pub unrefused : (step H valid budget d f m).answer ≡ Accepted → refusal_of H valid budget d f m ≡ None
  unrefused e = answer-none (refusal_of H valid budget d f m) (sym answered ∙ e)

-- The device's step as the choice by its first refusal, in lists of calls.
module _ (H : List ℕ → List ℕ) (valid : (key message signature : List ℕ) → Bool) where
  does : Device → List ℕ → Call → Situation
  does d f c = accept (kind c.message) d f c.message

  chosen : (d : Device) (f : List ℕ) (c : Call)
      → step_call H valid d f c ≡ outcome (refusal_of H valid c.budget d f c.message) c.budget (total H (kind c.message) d f c.message) d f (does d f c)
  unfolding does step step_call
  chosen d f c = refl

  fits : choice.Fitting H valid (whole H valid) (step_call H valid) does chosen
  unfolding does
  fits = record { here = λ d f c n. refl; away = λ d f c n. absurd (true≢false n); passes = λ d f c n e. passed H valid d f c.message c.budget e }

  pub serves : Serves H valid (whole H valid) (step_call H valid)
  serves = choice.serves H valid (whole H valid) (step_call H valid) does chosen fits

  pub calls : (d : Device) (flash : List ℕ) (cs : Trace Call) → Calls H valid (whole H valid) (step_call H valid) d flash cs
  calls = choice.calls H valid (whole H valid) (step_call H valid) does chosen fits

  pub willing : (d : Device) (flash : List ℕ) → Willing H valid (whole H valid) (step_call H valid) d flash
  unfolding answer_to
  willing d flash =
      record {
        takes = λ cs c n w e.
            let s = after (step_call H valid) d flash cs in
            choice.none-accepted H valid (whole H valid) (step_call H valid) does chosen s.device s.flash c
            (within-unrefused H valid c.budget s.device s.flash c.message w e);
      }

  -- after a list: device and flash, the refusal of one call more, and what that does
  module _ (d : Device) (flash : List ℕ) where
    abbrev pub now : Trace Call → Situation
    now cs = after (step_call H valid) d flash cs

    abbrev pub refusal_at : Trace Call → Call → Option Refusal
    refusal_at cs c = refusal_of H valid c.budget (now cs).device (now cs).flash c.message

    module _ (cs : Trace Call) (c : Call) where
      pub answered-at : answer_to (step_call H valid) d flash cs c ≡ answer_of (refusal_at cs c)
      answered-at = (calls d flash cs).answers c

      pub some_at : (r : Refusal) → answer_to (step_call H valid) d flash cs c ≡ Refused r → refusal_at cs c ≡ Some r
      some_at r e = answer-some (refusal_at cs c) r (sym answered-at ∙ e)

      pub after-accepted : refusal_at cs c ≡ None → now (cs ▷ c) ≡ accept (kind c.message) (now cs).device (now cs).flash c.message
      unfolding after step_call step outcome
      after-accepted e = rw (e, outcome)

      pub after-refused : (r : Refusal) → refusal_at cs c ≡ Some r → now (cs ▷ c) ≡ now cs
      unfolding after step_call step outcome
      after-refused r e = rw (e, outcome)
