use Rattle.wire.specs.Geometry.{count_of}
use Rattle.wire.specs.Cost.{cost_due}
use Rattle.device.proofs.ConditionLaws.{spent-known}
use Rattle.device.proofs.place.Place.spent.Goals as goal

pub returns : goal.returns
unfolding cost_due count_of
returns c =
    let p = c.args.self.now in
    let g = c.geometry.ensures in
    spent-known p.manifest.now p.number c.args.budget _ p.sized p.low p.high (rw (g.0, g.1, c.from.ensures) at c.cost_due.ensures)
