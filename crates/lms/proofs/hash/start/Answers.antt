use Rattle.std.proofs.Common.{ℕ, List, ◌++◌, ap₂, ◌∙◌, rules}
use Rattle.octets.proofs.BigEndianLaws.{be_bytes_16, be_bytes_32}
use Rattle.lms.proofs.HashLaws.{filled}
use Rattle.lms.proofs.hash.start.Goals as goal

pub returns : goal.returns
returns c =
    let a = c.args in
    filled 22 16 20 a.id.now c.to_be_bytes.result c.to_be_bytes-2.result (search rules) (search rules) (search rules) c.copy.ensures c.copy-2.ensures c.copy-3.ensures
    ∙ ap₂ (λ (x y : List ℕ). a.id.now ++ x ++ y) (c.to_be_bytes.ensures ∙ be_bytes_32 a.number) (c.to_be_bytes-2.ensures ∙ be_bytes_16 a.mark)
