use mathlib.Core.List.{[], ◌∷◌}
use Prim.Native.Nat.{◌+◌}
use native.Mathlib.Omega.{arith}
use lib.ListN.{length, length-append}
use Rattle.decimal.specs.Decimal.{decimal, line}
use Rattle.decimal.proofs.AppendedLaws.{room, joined}
use Rattle.bundle.specs.Text.{message_line}
use Rattle.bundle.proofs.TextLaws.{length-message}
use Rattle.bundle.proofs.text.put_message.Goals as goal

pub put-requires : goal.put-requires
put-requires c = omega (arith, c.requires, length-message c.args.words.now c.args.due c.args.answer)

pub put_decimal-requires : goal.put_decimal-requires
put_decimal-requires c = room c.put.ensures.put _ (omega (arith, c.requires, length-message c.args.words.now c.args.due c.args.answer))

pub put_line-requires : goal.put_line-requires
put_line-requires c =
    let l = length-message c.args.words.now c.args.due c.args.answer in
    room c.put_decimal.ensures.put _ (omega (arith, c.requires, room c.put.ensures.put (length (decimal c.args.due) + length (line (32 ∷ []) c.args.answer)) (omega (arith, c.requires))))

pub returns-clause-put : goal.returns-clause-put
unfolding message_line
returns-clause-put c =
    let l = length-message c.args.words.now c.args.due c.args.answer in
    let k = length-append c.args.words.now (decimal c.args.due) in
    joined (joined c.put.ensures.put c.put_decimal.ensures.put (omega (arith, c.requires))) c.put_line.ensures.put (omega (arith, c.requires))
