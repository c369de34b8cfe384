-- For the code alone: the judgement on a message is the first refusal that applies, if any, else what an accepted message reports.
use Rattle.std.specs.Prelude.{Option, None, Some, Result, Ok, Err, List, ℕ}
use Rattle.sha256.specs.Sha256.{digest}
use Rattle.lms.specs.Lms.{valid}
use Rattle.wire.specs.declared.kind.Kind.{Kind}
use Rattle.wire.specs.declared.refusal.Refusal.{Refusal}
use Rattle.wire.specs.Refusal.{first_that_applies}
use Rattle.machine.specs.declared.state.Device.{Device}
use Rattle.machine.specs.Refusals.{refusals}
use Rattle.machine.specs.Step.{total}

unfoldable pub verdict : Option Refusal → (report : ℕ) → Result ℕ Refusal
verdict r report = elim r [ None ↦ Ok report | Some x ↦ Err x ]

unfoldable pub judged : (budget : ℕ) → Kind → Device → (flash m : List ℕ) → Result ℕ Refusal
judged budget k d flash m = verdict (first_that_applies (refusals digest valid budget k d flash m)) (total digest k d flash m)
