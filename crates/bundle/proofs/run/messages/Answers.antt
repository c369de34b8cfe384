use mathlib.Core.Path.{◌≡◌, sym, ◌∙◌}
use mathlib.Core.List.{List}
use Rattle.std.specs.Prelude.{Option, Some}
use Prim.Native.Nat.{ℕ}
use native.Mathlib.Omega.{arith}
use lib.Seq.{length-take-le}
use Rattle.decimal.specs.Decimal.{ascii}
use Rattle.decimal.proofs.AppendedLaws.{room}
use Rattle.bundle.proofs.TextLaws.{message-short}
use Rattle.bundle.specs.Steps.{start_of}
use Rattle.bundle.proofs.PartLaws.{Somewhere, nothing, found}
use Rattle.bundle.proofs.MessageLaws.{accepted-size, ran-nowhere, ran-refused, ran_on}
use Rattle.bundle.proofs.RunLaws.{accepted}
use borrow.Author.Rules.{rules}
use Rattle.bundle.proofs.run.messages.Goals as goal

-- the kind 1 message has a place
there : (b : List ℕ) {at : ℕ} {s : Option ℕ} → s ≡ start_of b → s ≡ Some at → Somewhere b at
there b {at} e f = found b at (sym e ∙ f)

pub put_message-requires : goal.put_message-requires
put_message-requires c = omega (arith, c.requires.1, message-short (ascii "slip ") 0 3 (omega arith) (omega arith))

pub returns-in_default-clause-ran : goal.returns-in_default-clause-ran
returns-in_default-clause-ran c = ran-nowhere _ _ _ (nothing _ (sym c.start_of.ensures ∙ c.in_default.is)) c.put_message.ensures.put

pub returns-in_default-clause-short : goal.returns-in_default-clause-short
returns-in_default-clause-short c = omega (arith, c.put_message.ensures.put.end, message-short (ascii "slip ") 0 3 (omega arith) (omega arith))

pub put_message-requires-2 : goal.put_message-requires-2
put_message-requires-2 c = omega (arith, c.requires.1, message-short (ascii "slip ") 0 c.answer_number.result (omega arith) (omega arith))

pub blocks-requires : goal.blocks-requires
blocks-requires c =
    let n = c.answer_number in
    let m = message-short (ascii "slip ") 0 n.result (omega arith) (omega arith) in
    (accepted-size _ _ _ c.requires.0 _ c.receive-outcome.ensures (accepted _ (sym c.is_err.ensures.value ∙ c.if-is_err.false)), room c.put_message-2.ensures.put _ (omega (arith, c.requires.1)))

pub overflow_sub-end : goal.overflow_sub-end
overflow_sub-end c = (there _ c.start_of.ensures c.in-Some.is).long

pub slice_bounds-receive-count : goal.slice_bounds-receive-count
slice_bounds-receive-count c = (there _ c.start_of.ensures c.in-Some.is).below

pub slice_bounds-receive-start : goal.slice_bounds-receive-start
slice_bounds-receive-start c = let z = there _ c.start_of.ensures c.in-Some.is in search rules

pub returns-then-is_err-clause-ran : goal.returns-then-is_err-clause-ran
returns-then-is_err-clause-ran c =
    ran-refused _ _ _ _ (there _ c.start_of.ensures c.in-Some.is) _ c.receive-outcome.ensures _ c.answer_number.ensures c.put_message-2.ensures.put (sym c.is_err.ensures.value ∙ c.if-is_err.true)

pub returns-then-is_err-clause-short : goal.returns-then-is_err-clause-short
returns-then-is_err-clause-short c = omega (arith, c.put_message-2.ensures.put.end, message-short (ascii "slip ") 0 c.answer_number.result (omega arith) (omega arith))

pub slice_bounds-blocks-end : goal.slice_bounds-blocks-end
slice_bounds-blocks-end c = let z = there _ c.start_of.ensures c.in-Some.is in sym (length-take-le _ _ (omega (arith, z.below)))

pub returns-clause-ran : goal.returns-clause-ran
returns-clause-ran c =
    let n = c.answer_number in
    let w = c.put_message-2.ensures.put in
    let r = c.blocks-2.ensures in
    let m = message-short (ascii "slip ") 0 n.result (omega arith) (omega arith) in
    ran_on _ _ _ _ (there _ c.start_of.ensures c.in-Some.is) _ c.receive-outcome.ensures _ n.ensures w (accepted _ (sym c.is_err.ensures.value ∙ c.if-is_err.false)) r.ran
    (omega (arith, c.requires.1, r.ran.appended.end, r.short, w.end))

pub returns-clause-short : goal.returns-clause-short
returns-clause-short c =
    let m = message-short (ascii "slip ") 0 c.answer_number.result (omega arith) (omega arith) in
    omega (arith, m, c.blocks-2.ensures.short, c.put_message-2.ensures.put.end)
