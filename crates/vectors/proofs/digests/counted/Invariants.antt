use Rattle.std.proofs.Common.{◌≡◌, length}
use Rattle.vectors.proofs.digests.counted.Given as goal

abbrev pub invariant-loop-i : goal.invariant-loop-i
invariant-loop-i l = 120 ≡ length l.bytes
