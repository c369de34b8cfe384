use Rattle.std.proofs.Common.{◌≡◌, ◌+◌, ◌-◌, ◌<◌, ◌≤◌}
use Rattle.merkle.specs.Frontier.{held_count}
use Rattle.merkle.proofs.counting.held_after.Given as goal

abbrev pub invariant-loop-at : goal.invariant-loop-at
invariant-loop-at l = (l.held < l.at) × (l.at < l.n → l.held + held_count l.n l.at ≡ held_count l.n l.before) × (l.n ≤ l.at → l.held ≡ held_count l.n l.before)

abbrev pub decreases-loop-at : goal.decreases-loop-at
decreases-loop-at l = l.n - l.at
