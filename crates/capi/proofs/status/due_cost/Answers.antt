use Rattle.std.proofs.Common.{◌∙◌, arith}
use Rattle.sha256.specs.Sha256.{digest}
use Rattle.sha256.proofs.DigestLaws.{length-digest}
use Rattle.wire.proofs.CostLaws.{costs-due}
use Rattle.capi.proofs.StatusLaws.{asked, cost-is}
use Rattle.capi.proofs.status.due_cost.Goals as goal

pub cost_due-requires : goal.cost_due-requires
cost_due-requires c = asked c.in_ok-manifest.ensures c.known_geometry.ensures c.from.ensures

pub overflow_cast-result : goal.overflow_cast-result
overflow_cast-result c =
    let m = c.in_ok-manifest in
    let d = m.ensures in
    omega (arith, cost-is d c.known_geometry.ensures c.from.ensures c.cost_due.ensures, (costs-due digest length-digest m.manifest m.next d.size d.low d.high).most)

pub returns : goal.returns
returns c before = let d = c.in_ok-manifest.ensures in d.read _ before ∙ rw (cost-is d c.known_geometry.ensures c.from.ensures c.cost_due.ensures)
