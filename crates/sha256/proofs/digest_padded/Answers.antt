use Rattle.std.proofs.Common.{ap, ◌∙◌}
use Rattle.sha256.specs.Sha256.{H0, concatenated}
use Rattle.sha256.proofs.digest_padded.Goals as goal

pub returns : goal.returns
unfolding H0
returns c = c.concatenated.ensures ∙ ap concatenated c.compress.ensures
