-- `merkle::tree::pair` meets its contract.
use Rattle.std.proofs.Common.{◌≡◌, ◌+◌, ◌++◌, drop, ◌∙◌, drop-drop, take-add}
use Rattle.octets.specs.Octets.{part}
use Rattle.octets.proofs.CopyLaws.{part-between}
use Rattle.merkle.specs.Limits.{hash_length}
use Rattle.merkle.proofs.tree.pair.Goals as goal

pub returns : goal.returns
returns c =
    let a = c.args in
    let s = a.hashes.now in
    let two : part a.at (hash_length + hash_length) s ≡ part a.at hash_length s ++ part (a.at + hash_length) hash_length s =
    take-add hash_length hash_length (drop a.at s) ∙ rw (drop-drop hash_length a.at s) in
    rw (part-between s a.at (hash_length + hash_length) ∙ two) at c.node_hash.ensures
