use Rattle.std.proofs.Common.{[]}
use Rattle.machine.proofs.RefusalLaws.{loading}
use Rattle.machine.proofs.SenseLaws.{complete-size}
use Rattle.capi.proofs.status.status_of.Goals as goal

pub with_manifest-requires : goal.with_manifest-requires
with_manifest-requires c = (loading _ (c.requires [] []) c.in-Loading.is).size

pub with_manifest-requires-in-Complete : goal.with_manifest-requires-in-Complete
with_manifest-requires-in-Complete c = complete-size _ (c.requires [] []) c.in-Complete.is
