use mathlib.Core.Path.{◌≡◌}
use Rattle.lms.specs.Ots.{steps}
use Rattle.lms.proofs.ots.steps.Given as goal

abbrev pub invariant-loop-i : goal.invariant-loop-i
invariant-loop-i l = l.sum ≡ steps l.t.w l.digest l.i
