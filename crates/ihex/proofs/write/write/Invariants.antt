use mathlib.Core.List.{List}
use mathlib.Core.Path.{◌≡◌}
use lib.ListN.{length}
use Rattle.ihex.specs.Text.{Byte}
use Rattle.ihex.specs.Read.{judged, names}
use Rattle.ihex.proofs.PlaceLaws.{Writing}
use Rattle.ihex.proofs.write.write.Given as goal

abbrev pub invariant-loop-line : goal.invariant-loop-line
invariant-loop-line l = (bs : List Byte) → judged l.base (length l.initial.out) l.text ≡ names bs → Writing l.base (length l.initial.out) bs l.out l.upper l.line-iterator.rest.now
