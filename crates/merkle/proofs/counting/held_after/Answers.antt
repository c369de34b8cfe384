-- `merkle::counting::held_after` meets its contract: those counted so far and those held after `at` blocks, none at the end, are those held after `before`.
use Rattle.std.proofs.Common.{arith}
use Rattle.merkle.proofs.LowBitLaws.{low-is, low-between, by-low-bit}
use Rattle.merkle.proofs.counting.held_after.Goals as goal

pub loop-at-preserved : goal.loop-at-preserved
loop-at-preserved c =
    let n = c.args.n in
    let at = c.loop-at.at in
    let l = c.low-at.result in
    let b = low-between at l (omega arith) (omega arith) c.low-at.ensures in
    let s = by-low-bit n (omega arith) at l (omega arith) (omega arith) (low-is at l (omega arith) (omega arith) c.low-at.ensures) in
    let sum = c.loop-at.invariant.1 (omega arith) in
    (omega arith, λ h. omega (arith, s.more h), λ h. omega (arith, s.last h))
