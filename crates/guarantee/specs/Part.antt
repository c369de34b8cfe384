-- A part of a device, as it is seen in what the caller keeps and in what it hands over: any state D, any flash F (01: area), any call C. Demand 3 is said of one part,
-- with the calls that name it and its own flash.
use Rattle.std.specs.Prelude.{Bool, true, List, ℕ, Option}
use Rattle.wire.specs.declared.refusal.Refusal.{Refusal}
use Rattle.wire.specs.Message.{kind}
use Rattle.machine.specs.declared.state.Device.{Device}
use Rattle.machine.specs.Step.{total, refusal_of, Call}

pub record Part (D F C : Type 0) : Type 0 where
  -- the part by itself
  pub device : D → Device
  pub flash : F → List ℕ
  -- whether a call names the part, the message that it hands over, and the budget that goes with it
  pub names : C → Bool
  pub message : C → List ℕ
  pub budget : C → ℕ
  -- the first refusal of the device that applies to a call, if any
  pub refusal : D → F → C → Option Refusal
  -- what a call reports if it is accepted
  pub total : D → F → C → ℕ

-- A device with one flash is its own only part; each of its calls is a message with a budget.
abbrev pub whole : (H : List ℕ → List ℕ) (valid : (key message signature : List ℕ) → Bool) → Part Device (List ℕ) Call
whole H valid =
    record {
      device = λ d. d;
      flash = λ f. f;
      names = λ c. true;
      message = λ c. c.message;
      budget = λ c. c.budget;
      refusal = λ d f c. refusal_of H valid c.budget d f c.message;
      total = λ d f c. total H (kind c.message) d f c.message;
    }

-- a message with a budget, as a call of such a device
abbrev pub call : (budget : ℕ) → List ℕ → Call
call budget m = record { message = m; budget = budget }
