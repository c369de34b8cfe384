use Rattle.std.proofs.Common.{◌-◌, ◌≤◌}
use Rattle.sha256.proofs.RoundLaws.{Summed}
use Rattle.sha256.proofs.compress.compress.Given as goal

abbrev pub invariant-loop-i : goal.invariant-loop-i
invariant-loop-i l = (l.i ≤ 8) × Summed l.v l.initial.H l.i l.H

abbrev pub decreases-loop-i : goal.decreases-loop-i
decreases-loop-i l = 8 - l.i
