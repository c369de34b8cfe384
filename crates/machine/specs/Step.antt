-- What a device answers to a message, and what device and flash are then.
use Rattle.std.specs.Prelude.{Bool, cond, List, ℕ, suc, pred, ltb}
use Rattle.std.specs.Prelude.{Option, None, Some}
use Rattle.merkle.specs.Held.{begun, advanced}
use Rattle.wire.specs.declared.kind.Kind.{Kind}
use Rattle.wire.specs.declared.kind.Kind.TheVariants as kinds
use Rattle.wire.specs.declared.refusal.Refusal.{Refusal}
use Rattle.wire.specs.Refusal.{first_that_applies}
use Rattle.wire.specs.Geometry.{count_of, block_length}
use Rattle.wire.specs.Message.{kind, manifest_in, hashes_after}
use Rattle.wire.specs.Cost.{block_cost}
use Rattle.machine.specs.declared.state.Stage.{Stage}
use Rattle.machine.specs.declared.state.Stage.TheVariants.{Loading, Complete}
use Rattle.machine.specs.declared.state.Device.{Device}
use Rattle.machine.specs.Answer.{Answer, Accepted, Refused}
use Rattle.machine.specs.Device.{next_of, SituationOf, OutcomeOf, Situation, Outcome}
use Rattle.machine.specs.Flash.{stored, updated}
use Rattle.machine.specs.Refusals.{refusals}

-- "Accepting kind 1 makes the stage loading at block 1; the area is not written."
unfoldable pub accept_program : Device → (flash m : List ℕ) → Situation
accept_program d flash m =
    let s = manifest_in m in
    record { device = record { model = d.model; key = d.key; stage = Loading 1; manifest = s; hashes = begun s.root }; flash = flash }

-- "the next number is i + 1. After block n the stage is complete."
unfoldable pub stage_after : ℕ → ℕ → Stage
stage_after n i = cond (ltb i n) (Loading (suc i)) Complete

-- "Accepting kind 2 writes block i to its place and nothing else; the message's labels take the place of that held label, the other held labels stay"
unfoldable pub accept_block : Device → (flash m : List ℕ) → Situation
accept_block d flash m =
    let s = d.manifest in
    let i = next_of d.stage in
    let hashes = hashes_after (block_length s.block_len s.image_len i) m in
    record {
      device =
          record {
            model = d.model;
            key = d.key;
            stage = stage_after (count_of s) i;
            manifest = s;
            hashes = advanced (count_of s) (pred i) d.hashes hashes;
          };
      flash = stored s i flash m;
    }

-- "Accepting kind 3 writes that one block and replaces the slip." So does kind 4.
unfoldable pub accept_update : Device → (flash m : List ℕ) → Situation
accept_update d flash m =
    let s = manifest_in m in
    record { device = record { model = d.model; key = d.key; stage = d.stage; manifest = s; hashes = d.hashes }; flash = updated s flash m }

unfoldable pub accept : Kind → Device → (flash m : List ℕ) → Situation
accept k d flash m =
    elim k [
      | kinds.Program ↦ accept_program d flash m
      | kinds.Block ↦ accept_block d flash m
      | kinds.Update ↦ accept_update d flash m
      | kinds.PathUpdate ↦ accept_update d flash m
      | kinds.Unknown ↦ record { device = d; flash = flash }
    ]

-- "Accepted: the call gave no refusal number": the answer where this refusal, or none, is the first that applies
unfoldable pub answer_of : Option Refusal → Answer
answer_of r = elim r [ None ↦ Accepted | Some x ↦ Refused x ]

-- what an accepted message of this kind reports: "an accepted one reports its total", of kind 2; for the other kinds, which the papers leave free, 0
unfoldable pub total : (List ℕ → List ℕ) → Kind → Device → (flash m : List ℕ) → ℕ
total H k d flash m =
    elim k [
      | kinds.Program ↦ 0
      | kinds.Block ↦ block_cost H d.manifest (next_of d.stage) flash m
      | kinds.Update ↦ 0
      | kinds.PathUpdate ↦ 0
      | kinds.Unknown ↦ 0
    ]

-- accepted where no refusal applies, with what that does and costs; else the refusal alone, a count of 0, and device and flash as before; either way with the budget
-- handed in
unfoldable pub outcome : {D F : Type 0} → Option Refusal → (budget cost : ℕ) → D → F → SituationOf D F → OutcomeOf D F
outcome r budget cost d flash then =
    elim r [
      | None ↦ record { answer = Accepted; compressions = cost; budget = budget; device = then.device; flash = then.flash }
      | Some x ↦ record { answer = Refused x; compressions = 0; budget = budget; device = d; flash = flash }
    ]

module _ (H : List ℕ → List ℕ) (valid : (key message signature : List ℕ) → Bool) (budget : ℕ) where
  -- the first refusal that applies, if any
  unfoldable pub refusal_of : Device → (flash m : List ℕ) → Option Refusal
  refusal_of d flash m = first_that_applies (refusals H valid budget (kind m) d flash m)

  unfoldable pub step : Device → (flash m : List ℕ) → Outcome
  step d flash m = outcome (refusal_of d flash m) budget (total H (kind m) d flash m) d flash (accept (kind m) d flash m)

-- A call: a message, and the budget that goes with it. "A further number that a later change has the caller hand along may have any value."
pub record Call : Type 0 where
  pub message : List ℕ
  pub budget : ℕ

unfoldable pub step_call : (H : List ℕ → List ℕ) (valid : (key message signature : List ℕ) → Bool) → Device → List ℕ → Call → Outcome
step_call H valid d flash c = step H valid c.budget d flash c.message
