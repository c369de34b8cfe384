-- `merkle::blocks::Blocks::root` meets its contract: the replaced block would be the one behind the last.
use Rattle.std.proofs.Common.{[], drop, ap, ◌∙◌, zero-mul, arith}
use Rattle.sha256.specs.Sha256.{digest}
use Rattle.merkle.specs.Blocks.{cut}
use Rattle.merkle.specs.Hash.{plain}
use Rattle.merkle.proofs.CountLaws.{depth-most}
use Rattle.merkle.proofs.TreeLaws.{hash-beyond, cost-beyond}
use Rattle.merkle.proofs.blocks.Blocks.root.Goals as goal

pub put_hash-took-requires : goal.put_hash-took-requires
put_hash-took-requires c = let s = c.args.self in (s.some, omega (arith, depth-most s.count s.few), s.within, s.short)

pub returns : goal.returns
returns c =
    let s = c.args.self in
    let bytes = s.bytes.now in
    let H = plain digest in
    let e = c.put_hash-took.ensures.put bytes [] 0 s.count (omega (arith, s.few)) (omega (arith, s.few)) (ap (λ x. drop x bytes) (zero-mul s.len)) (λ h. absurd (omega arith)) in (
      c.array_at.ensures ∙ e.0 ∙ hash-beyond H (cut s.len bytes) s.count [] 0 s.count s.some (omega arith),
      e.1 ∙ cost-beyond H (cut s.len bytes) s.count [] 0 s.count s.some (omega arith),
    )
