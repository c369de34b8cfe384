-- `merkle::counting::count` meets its contract: before the first block by the whole tree, and later by the largest subtree that starts with the next block.
use Rattle.std.proofs.Common.{◌≡◌, sym, ◌∙◌, arith}
use Rattle.merkle.proofs.CountLaws.{held-zero}
use Rattle.merkle.proofs.LowBitLaws.{low-is, carried-depth, carried_later}
use Rattle.merkle.proofs.counting.count.Goals as goal

pub returns-then-before-eq0 : goal.returns-then-before-eq0
returns-then-before-eq0 c =
    let a = c.args in
    let z : a.before ≡ 0 = omega arith in
    rw z (sym (held-zero a.n), c.depth.ensures ∙ sym (carried-depth a.n (omega arith)))

pub returns : goal.returns
returns c =
    let a = c.args in
    let b = low-is a.before c.low.result (omega arith) (omega arith) c.low.ensures in
    (c.held_after.ensures, c.depth-2.ensures ∙ sym (carried_later a.n a.before c.low.result _ (omega arith) (omega arith) b (omega arith)))
