use borrow.Author.Tests.{lt-ltb, le-ltb}
use Rattle.ihex.specs.Write.{hex_digit}
use Rattle.pack.proofs.hex.hex_digit.Goals as goal

pub returns-then-number-lt10 : goal.returns-then-number-lt10
unfolding hex_digit
returns-then-number-lt10 c = rw (lt-ltb c.args.number 10 c.if-number-lt10.true)

pub returns-else-number-lt10 : goal.returns-else-number-lt10
unfolding hex_digit
returns-else-number-lt10 c = rw (le-ltb c.args.number 10 c.if-number-lt10.false)
