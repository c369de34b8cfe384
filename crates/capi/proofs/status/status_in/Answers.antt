use Rattle.std.proofs.Common.{refl, sym, ap, ◌∙◌, arith}
use Rattle.machine.specs.Refusals.{senseless}
use Rattle.capi.specs.Status.{status_of}
use Rattle.capi.proofs.StateLaws.{device-is}
use Rattle.capi.proofs.StatusLaws.{no-sense, makes-sense, status-refused, status-is}
use Rattle.capi.proofs.status.status_in.Goals as goal

pub returns-in_default : goal.returns-in_default
returns-in_default c out = status-refused _ out (no-sense _ (sym c.sensible_in.ensures ∙ c.in_default.is))

pub u32_at-requires : goal.u32_at-requires
u32_at-requires c = let l = (makes-sense _ (sym c.sensible_in.ensures ∙ c.in-Some.is)).long in omega arith

pub manifest_in-requires : goal.manifest_in-requires
manifest_in-requires c = let l = (makes-sense _ (sym c.sensible_in.ensures ∙ c.in-Some.is)).long in omega arith

pub status_of-requires : goal.status_of-requires
unfolding senseless
status_of-requires c key hashes =
    ap senseless (device-is _ _ c.u32_at.ensures refl c.manifest_in.ensures refl) ∙ (makes-sense _ (sym c.sensible_in.ensures ∙ c.in-Some.is)).sense

pub returns : goal.returns
returns c out =
    let m = makes-sense _ (sym c.sensible_in.ensures ∙ c.in-Some.is) in
    status-is _ out m.device (c.status_of.ensures _ _ ∙ ap status_of (device-is _ _ c.u32_at.ensures refl c.manifest_in.ensures refl))
