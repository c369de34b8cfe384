use Rattle.std.proofs.Common.{◌≡◌, ℕ, ◌+◌, ◌-◌, ◌*◌, ◌≤◌, List, length, take}
use Rattle.sha256.specs.Sha256.{words}
use Rattle.sha256.proofs.schedule.extended.Given as goal

abbrev pub invariant-loop-j : goal.invariant-loop-j
invariant-loop-j l = (l.j ≤ 8) × (length l.W ≡ 64) × ((b : List ℕ) → take (8 * l.i) l.initial.W ≡ words (8 * l.i) b → take (8 * l.i + l.j) l.W ≡ words (8 * l.i + l.j) b)

abbrev pub decreases-loop-j : goal.decreases-loop-j
decreases-loop-j l = 8 - l.j

abbrev pub invariant-loop-i : goal.invariant-loop-i
invariant-loop-i l = (2 ≤ l.i) × (l.i ≤ 8) × (length l.W ≡ 64) × ((b : List ℕ) → take 16 l.initial.W ≡ words 16 b → take (8 * l.i) l.W ≡ words (8 * l.i) b)

abbrev pub decreases-loop-i : goal.decreases-loop-i
decreases-loop-i l = 8 - l.i
