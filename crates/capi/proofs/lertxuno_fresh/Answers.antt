use Rattle.std.proofs.Common.{ap, ◌∙◌}
use Rattle.capi.specs.State.{encode}
use Rattle.capi.proofs.lertxuno_fresh.Goals as goal

pub returns : goal.returns
returns c = c.to_bytes.ensures ∙ ap encode c.fresh.ensures
