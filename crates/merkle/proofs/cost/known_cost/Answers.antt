-- `merkle::cost::known_cost` meets its contract.
use Rattle.std.proofs.Common.{◌+◌, ◌-◌, ◌≤◌, mul-le-mul_left, arith}
use Rattle.merkle.proofs.MessageCostLaws.{carried-few, early-known, last-known}
use Rattle.merkle.proofs.cost.known_cost.Goals as goal

-- few hashes, and a short block
pub overflow_mul-compared : goal.overflow_mul-compared
overflow_mul-compared c =
    let a = c.args in
    let few = carried-few a.len a.n a.before a.own c.count-counts.result.carried c.compressions-last.result c.requires.2 c.requires.3 c.count-counts.ensures.1 c.compressions-last.ensures in
    omega arith

pub overflow_add-compared : goal.overflow_add-compared
overflow_add-compared c =
    let a = c.args in
    let few = carried-few a.len a.n a.before a.own c.count-counts.result.carried c.compressions-last.result c.requires.2 c.requires.3 c.count-counts.ensures.1 c.compressions-last.ensures in
    omega arith

-- the whole tree, over blocks that are short too
pub overflow_add-result : goal.overflow_add-result
overflow_add-result c =
    let a = c.args in
    let few = carried-few a.len a.n a.before a.own c.count-counts.result.carried c.compressions-last.result c.requires.2 c.requires.3 c.count-counts.ensures.1 c.compressions-last.ensures in
    let short : c.compressions.result + 2 ≤ 19 = omega arith in
    let whole = mul-le-mul_left (a.n - 1) short in
    omega arith

pub returns-then-before-n : goal.returns-then-before-n
returns-then-before-n c =
    let a = c.args in
    last-known a.len a.n a.before a.own _ _ c.requires.2 c.requires.3 c.count-counts.ensures.1 c.compressions-last.ensures _ c.compressions.ensures c.if-before-n.true

pub returns : goal.returns
returns c =
    let a = c.args in
    early-known a.len a.n a.before a.own _ _ c.requires.2 c.requires.3 c.count-counts.ensures.1 c.compressions-last.ensures c.if-before-n.false
