use Rattle.std.proofs.Common.{◌∙◌}
use Rattle.octets.proofs.BigEndianLaws.{be_bytes_64}
use Rattle.sha256.proofs.PaddingLaws.{written}
use Rattle.sha256.proofs.padding.padding.Goals as goal

pub returns : goal.returns
returns c =
    rw c.copy.ensures (written c.args.len c.padding_len.result c.padding_len.ensures (c.to_be_bytes.ensures ∙ be_bytes_64 _))
