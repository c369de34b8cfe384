use Rattle.std.proofs.Common.{◌≡◌, List, ℕ, ◌++◌}
use Rattle.sha256.specs.Context.{Absorbed}
use Rattle.bench_exports.proofs.bench_pieces.Given as goal

-- what was fed, and what is left of the message
abbrev pub invariant-loop-part : goal.invariant-loop-part
invariant-loop-part l = (m : List ℕ) × ((l.message ≡ m ++ l.part-iterator.rest.now) × Absorbed l.context m)
