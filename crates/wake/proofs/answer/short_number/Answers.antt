-- `wake::answer::short_number` meets its contract.
use native.Mathlib.Omega.{arith}
use lib.ListN.{length}
use borrow.Author.Tests.{lt-ltb, le-ltb}
use Rattle.wake.specs.Wake.{short_number}
use Rattle.wake.proofs.answer.short_number.Goals as goal

pub returns-then-text-gt9 : goal.returns-then-text-gt9
unfolding short_number
returns-then-text-gt9 c = rw (lt-ltb 9 (length c.args.text.now) (omega arith))

pub returns : goal.returns
unfolding short_number
returns c = rw (le-ltb 9 (length c.args.text.now) (omega arith)) c.parse.ensures
