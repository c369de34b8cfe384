-- `merkle::path::descend` meets its contract.
use Rattle.std.proofs.Common.{arith}
use Rattle.merkle.proofs.TurnLaws.{falling-none, falling-fits, falling-left, falling-right, falling-done}
use Rattle.merkle.proofs.path.descend.Goals as goal

pub loop-m-init : goal.loop-m-init
loop-m-init c = falling-none _ _ c.requires

pub overflow_add-depth : goal.overflow_add-depth
overflow_add-depth c = omega (arith, falling-fits c.loop-m.invariant c.requires (omega arith))

pub overflow_mul-turns : goal.overflow_mul-turns
overflow_mul-turns c =
    let left = falling-left c.loop-m.invariant c.split-k.result (omega arith) c.split-k.ensures.value (omega arith) in
    omega (arith, falling-fits left c.requires (omega arith))

pub loop-m-preserved-then-i-k : goal.loop-m-preserved-then-i-k
loop-m-preserved-then-i-k c = falling-left c.loop-m.invariant _ (omega arith) c.split-k.ensures.value (omega arith)

pub overflow_mul-turns-else-i-k : goal.overflow_mul-turns-else-i-k
overflow_mul-turns-else-i-k c =
    let right = falling-right c.loop-m.invariant c.split-k.result (omega arith) c.split-k.ensures.value (omega arith) in
    omega (arith, falling-fits right c.requires (omega arith))

pub overflow_add-turns : goal.overflow_add-turns
overflow_add-turns c =
    let right = falling-right c.loop-m.invariant c.split-k.result (omega arith) c.split-k.ensures.value (omega arith) in
    omega (arith, falling-fits right c.requires (omega arith))

pub loop-m-preserved : goal.loop-m-preserved
loop-m-preserved c = falling-right c.loop-m.invariant _ (omega arith) c.split-k.ensures.value (omega arith)

pub returns : goal.returns
returns c = falling-done c.loop-m.invariant c.requires (omega arith)
