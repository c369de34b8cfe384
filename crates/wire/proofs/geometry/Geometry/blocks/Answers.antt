use Rattle.std.proofs.Common.{◌-◌, ◌*◌, ◌<◌, arith}
use lib.Seq.{length-take-le}
use Rattle.wire.proofs.SizeLaws.{sized}
use Rattle.wire.proofs.geometry.Geometry.blocks.Goals as goal

pub invariant_of-result : goal.invariant_of-result
invariant_of-result c =
    let a = c.args in
    let z = sized _ _ a.self.allowed in
    let n = c.count.ensures in
    let below : (c.count.result - 1) * a.self.block_len < a.self.image_len = rw n z.below in
    record {
      some = omega (arith, z.first, n);
      few = omega (arith, z.count, n);
      short = z.most;
      within = omega (arith, below, length-take-le a.self.image_len a.bytes.now c.requires);
    }
