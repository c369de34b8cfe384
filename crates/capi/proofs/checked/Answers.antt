use Rattle.std.proofs.Common.{refl, sym, ◌∙◌, arith}
use Rattle.capi.proofs.StateLaws.{device-is, stage_length}
use Rattle.capi.proofs.CallLaws.{none-boot-check, checked}
use Rattle.capi.proofs.checked.Goals as goal

pub returns-in_default : goal.returns-in_default
returns-in_default c = sym (none-boot-check _ (sym c.stage_in.ensures ∙ c.in_default.is) _)

pub whole_manifest_in-requires : goal.whole_manifest_in-requires
whole_manifest_in-requires c = let l = stage_length _ (sym c.stage_in.ensures ∙ c.in-Some.is) in omega arith

pub returns : goal.returns
returns c =
    checked _ (sym c.stage_in.ensures ∙ c.in-Some.is) (device-is _ _ refl refl c.whole_manifest_in.ensures refl) _ (c.boot_check.ensures _ _ _)
