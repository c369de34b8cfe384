-- `merkle::blocks::Blocks::root_with` meets its contract.
use Rattle.std.proofs.Common.{◌+◌, drop, replicate, ap, ◌∙◌, zero-mul, arith}
use Rattle.octets.specs.Octets.{part}
use Rattle.sha256.specs.Sha256.{digest}
use Rattle.merkle.specs.Limits.{hash_length, held_bytes}
use Rattle.merkle.specs.Blocks.{cut}
use Rattle.merkle.specs.Hash.{plain}
use Rattle.merkle.proofs.CountLaws.{depth-most}
use Rattle.merkle.proofs.CostLaws.{of-block}
use Rattle.merkle.proofs.TreeLaws.{put-here, cost-with}
use Rattle.merkle.proofs.blocks.Blocks.root_with.Goals as goal

pub put_hash-others-requires : goal.put_hash-others-requires
put_hash-others-requires c = let s = c.args.self in (s.some, omega (arith, depth-most s.count s.few), s.within, s.short)

pub overflow_add-result : goal.overflow_add-result
overflow_add-result c =
    let own = c.block_hash-own.ensures.1 ∙ of-block (plain digest) c.args.block.now in
    omega (arith, c.put_hash-others.ensures.few, c.args.self.few, c.requires.1)

pub returns : goal.returns
returns c =
    let a = c.args in
    let s = a.self in
    let bytes = s.bytes.now in
    let made = c.block_hash-own.ensures in
    let x = c.block_hash-own.new.out in
    let new = ap (part (held_bytes + hash_length) hash_length) c.copy.ensures ∙ put-here (replicate (held_bytes + hash_length + hash_length) 0) x (held_bytes + hash_length) (omega arith) (omega arith) ∙ made.0 in
    let e = c.put_hash-others.ensures.put bytes a.block.now 0 a.at (omega (arith, s.few)) (omega (arith, s.few)) (ap (λ x. drop x bytes) (zero-mul s.len)) (λ h. new) in
    (c.array_at.ensures ∙ e.0, cost-with (plain digest) (cut s.len bytes) a.at a.block.now s.count _ _ c.requires.0 made.1 e.1)
