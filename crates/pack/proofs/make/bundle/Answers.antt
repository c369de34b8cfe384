use Rattle.std.proofs.Common.{arith}
use Rattle.sender.proofs.SendLaws.{told}
use Rattle.pack.proofs.MakeLaws.{bundle-fits}
use Rattle.pack.proofs.make.bundle.Goals as goal

pub returns : goal.returns
returns g c =
    record {
      does = told c.pack.ensures c.made_of.ensures;
      prefix_len = rw c.made_of.ensures (bundle-fits _ _ _ _ c.pack.ensures (omega arith));
    }
