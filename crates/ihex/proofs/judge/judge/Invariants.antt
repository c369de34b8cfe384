use mathlib.Core.Path.{◌≡◌}
use Rattle.std.specs.Prelude.{Some, length}
use Rattle.ihex.proofs.JudgeLaws.{Judging}
use Rattle.ihex.proofs.judge.judge.Given as goal

abbrev pub invariant-loop-line : goal.invariant-loop-line
invariant-loop-line l = Judging l.text l.base l.len l.seen (Some l.upper) l.number l.line-iterator.rest.now × (l.left ≡ length l.line-iterator.rest.now)
