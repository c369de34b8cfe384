-- `merkle::blocks::Blocks::halves` meets its contract: the bytes are long enough for the left half too.
use Rattle.std.proofs.Common.{length, arith}
use Rattle.merkle.proofs.TreeLaws.{short_fits}
use Rattle.merkle.proofs.blocks.Blocks.halves.Goals as goal

pub invariant_of-left : goal.invariant_of-left
invariant_of-left c =
    let s = c.args.self in
    let b = c.split-k.ensures.between in
    record { some = b.0; few = omega (arith, s.few); short = s.short; within = short_fits s.len (length s.bytes.now) s.count c.split-k.result (omega arith) s.within }
