use Rattle.std.proofs.Common.{sym, ◌∙◌, arith}
use Rattle.capi.proofs.StateLaws.{stage_length}
use Rattle.capi.proofs.StatusLaws.{no_stage, tested}
use Rattle.capi.proofs.state.sensible_in.Goals as goal

pub returns-in_err-stage : goal.returns-in_err-stage
returns-in_err-stage c = c.from_residual.ensures ∙ sym (no_stage _ (sym c.stage_in.ensures ∙ c.in_err-stage.was))

pub manifest_in-requires : goal.manifest_in-requires
manifest_in-requires c = let l = stage_length _ (sym c.stage_in.ensures ∙ c.in_ok-stage.was) in omega arith

pub returns-then-senseless : goal.returns-then-senseless
returns-then-senseless c = sym (rw c.if-senseless.true at (tested _ (sym c.stage_in.ensures ∙ c.in_ok-stage.was) c.manifest_in.ensures (c.senseless.ensures _ _ _)))

pub returns : goal.returns
returns c = sym (rw c.if-senseless.false at (tested _ (sym c.stage_in.ensures ∙ c.in_ok-stage.was) c.manifest_in.ensures (c.senseless.ensures _ _ _)))
