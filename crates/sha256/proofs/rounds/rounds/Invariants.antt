use Rattle.std.proofs.Common.{◌≡◌, ◌+◌, ◌-◌, ◌*◌, ◌≤◌}
use Rattle.sha256.specs.Sha256.{Variables, rounds}
use Rattle.sha256.proofs.RoundLaws.{vars}
use Rattle.sha256.proofs.rounds.rounds.Given as goal

abbrev pub invariant-loop-j : goal.invariant-loop-j
invariant-loop-j l = (l.j ≤ 8) × ((s : Variables) → vars l.initial.a l.initial.b l.initial.c l.initial.d l.initial.e l.initial.f l.initial.g l.initial.h ≡ rounds l.W (8 * l.i) s → vars l.a l.b l.c l.d l.e l.f l.g l.h ≡ rounds l.W (8 * l.i + l.j) s)

abbrev pub decreases-loop-j : goal.decreases-loop-j
decreases-loop-j l = 8 - l.j

abbrev pub invariant-loop-i : goal.invariant-loop-i
invariant-loop-i l = (l.i ≤ 8) × (vars l.a l.b l.c l.d l.e l.f l.g l.h ≡ rounds l.W (8 * l.i) (vars l.initial.a l.initial.b l.initial.c l.initial.d l.initial.e l.initial.f l.initial.g l.initial.h))

abbrev pub decreases-loop-i : goal.decreases-loop-i
decreases-loop-i l = 8 - l.i
