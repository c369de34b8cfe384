use Rattle.std.proofs.Common.{refl}
use Rattle.sha256.specs.Sha256.{hash_value, H0}
use Rattle.sha256.proofs.context.Context.new.Goals as goal

pub returns : goal.returns
unfolding hash_value H0
returns c = record { compressed = refl; waiting = refl; counted = refl }
