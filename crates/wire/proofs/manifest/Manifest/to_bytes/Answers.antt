use Rattle.octets.proofs.BigEndianLaws.{be_bytes_16, be_bytes_32}
use Rattle.octets.proofs.JoinedLaws.{copy, none}
use Rattle.wire.proofs.ManifestLaws.{filled}
use mathlib.Core.Path.{◌≡◌, ◌∙◌}
use lib.ListN.{length}
use borrow.Author.Rules.{rules}
use Rattle.wire.proofs.manifest.Manifest.to_bytes.Goals as goal

pub returns : goal.returns
returns c =
    let s = c.args.self.now in
    let root : length s.root ≡ 32 = search rules in
    filled s root (c.to_be_bytes.ensures ∙ be_bytes_16 _) (c.to_be_bytes-2.ensures ∙ be_bytes_16 _) (c.to_be_bytes-3.ensures ∙ be_bytes_32 _)
    (c.to_be_bytes-4.ensures ∙ be_bytes_32 _) (c.to_be_bytes-5.ensures ∙ be_bytes_32 _)
    (copy c.copy.ensures (copy c.copy-2.ensures (copy c.copy-3.ensures (copy c.copy-4.ensures (copy c.copy-5.ensures (copy c.copy-6.ensures none))))))
