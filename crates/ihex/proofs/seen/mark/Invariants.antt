use mathlib.Core.Path.{◌≡◌}
use lib.ListN.{length}
use Rattle.ihex.proofs.SeenLaws.{Marking}
use Rattle.ihex.proofs.seen.mark.Given as goal

abbrev pub invariant-loop-i : goal.invariant-loop-i
invariant-loop-i l = Marking l.initial.seen l.from l.i l.seen × (length l.seen ≡ length l.initial.seen)
