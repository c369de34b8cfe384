use mathlib.Core.Path.{◌≡◌}
use lib.ListN.{length}
use lib.Seq.{paste}
use Rattle.ihex.specs.Line.{line_of}
use Rattle.ihex.specs.Code.{data_in}
use Rattle.ihex.proofs.write.put.Given as goal

abbrev pub invariant-loop-i : goal.invariant-loop-i
invariant-loop-i l = (length l.out ≡ length l.initial.out) × (l.out ≡ paste l.initial.out l.at (data_in (line_of l.line)) l.i)
