use Rattle.std.proofs.Common.{◌≡◌}
use Rattle.sha256.specs.Sha256.{hash_value}
use Rattle.sha256.proofs.compress.compress_all.Given as goal

abbrev pub invariant-loop-block : goal.invariant-loop-block
invariant-loop-block l = l.H ≡ hash_value l.initial.H l.block-index l.s
