use Rattle.std.proofs.Common.{sym, ◌∙◌, arith}
use Rattle.capi.proofs.StatusLaws.{no-sense, makes-sense, due-refused, none-due, block-due}
use Rattle.capi.proofs.status.due_in.Goals as goal

pub returns-in_default : goal.returns-in_default
returns-in_default c = due-refused _ (no-sense _ (sym c.sensible_in.ensures ∙ c.in_default.is))

pub returns-in_default-stage : goal.returns-in_default-stage
returns-in_default-stage c = none-due _ (makes-sense _ (sym c.sensible_in.ensures ∙ c.in-Some.is)) c.in_default-stage.not-Loading

pub manifest_in-requires : goal.manifest_in-requires
manifest_in-requires c = let l = (makes-sense _ (sym c.sensible_in.ensures ∙ c.in-Some.is)).long in omega arith

pub returns : goal.returns
returns c = block-due _ (rw c.in-Loading.is at (makes-sense _ (sym c.sensible_in.ensures ∙ c.in-Some.is))) c.manifest_in.ensures
