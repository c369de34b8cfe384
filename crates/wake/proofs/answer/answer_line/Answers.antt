-- `wake::answer::answer_line` meets its contract.
use mathlib.Core.Path.{ap, ◌∙◌}
use mathlib.Core.List.{[]}
use native.Mathlib.Omega.{arith}
use borrow.Author.Rules.{rules}
use lib.ListN.{length, replicate}
use Rattle.decimal.specs.Decimal.{line}
use Rattle.decimal.proofs.AppendedLaws.{begins}
use Rattle.wake.proofs.AnswerLaws.{printed-short}
use Rattle.wake.proofs.answer.answer_line.Goals as goal

pub put_line-requires : goal.put_line-requires
put_line-requires c =
    rw (c.unwrap_or-number.ensures ∙ c.answer.ensures) (omega (arith, printed-short c.args.input.now))

pub returns : goal.returns
returns c =
    let short = printed-short c.args.input.now in
    let all = ap (line []) (c.unwrap_or-number.ensures ∙ c.answer.ensures) in
    let fits = ap length all in
    (begins {out = replicate 5 0} (search rules) ∙ all, omega (arith, c.put_line.ensures.put.end))
