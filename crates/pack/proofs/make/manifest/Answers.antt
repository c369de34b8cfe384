use Rattle.sender.proofs.SendLaws.{told}
use Rattle.pack.proofs.make.manifest.Goals as goal

pub returns : goal.returns
returns g c = told c.manifest.ensures c.made_of.ensures
