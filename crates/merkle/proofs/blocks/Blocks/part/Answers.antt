-- `merkle::blocks::Blocks::part` meets its contract: the part starts within the bytes, and these are long enough for it.
use Rattle.std.proofs.Common.{◌*◌, arith}
use Rattle.octets.proofs.CopyLaws.{part-from}
use Rattle.merkle.proofs.TreeLaws.{right-fits}
use Rattle.merkle.proofs.blocks.Blocks.part.Goals as goal

pub invariant_of-result : goal.invariant_of-result
invariant_of-result c =
    let a = c.args in
    let s = a.self in
    record {
      some = c.requires.0;
      few = omega (arith, s.few, c.requires.1);
      short = s.short;
      within = rw (part-from s.bytes.now (a.first * s.len)) (right-fits s.len s.count a.first a.count s.bytes.now c.requires.0 c.requires.1 s.within);
    }
