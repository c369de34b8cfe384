use Rattle.std.proofs.Common.{◌+◌, length, arith, length-append}
use Rattle.decimal.specs.Decimal.{decimal, line}
use Rattle.decimal.proofs.WritingLaws.{length-line}
use Rattle.decimal.proofs.AppendedLaws.{room, joined}
use Rattle.decimal.proofs.writing.Output.put_line.Goals as goal

pub put-requires : goal.put-requires
put-requires c = omega (arith, c.requires, length-line c.args.words.now c.args.number)

pub put_decimal-requires : goal.put_decimal-requires
put_decimal-requires c = room c.put.ensures.put _ (omega (arith, c.requires, length-line c.args.words.now c.args.number))

pub put-requires-2 : goal.put-requires-2
put-requires-2 c =
    let l = length-line c.args.words.now c.args.number in
    room c.put_decimal.ensures.put _ (omega (arith, c.requires, room c.put.ensures.put (length (decimal c.args.number) + 1) (omega (arith, c.requires))))

pub returns-clause-put : goal.returns-clause-put
unfolding line
returns-clause-put c =
    let l = length-line c.args.words.now c.args.number in
    let k = length-append c.args.words.now (decimal c.args.number) in
    joined (joined c.put.ensures.put c.put_decimal.ensures.put (omega (arith, c.requires))) c.put-2.ensures.put (omega (arith, c.requires))
