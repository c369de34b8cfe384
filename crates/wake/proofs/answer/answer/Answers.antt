-- `wake::answer::answer` meets its contract.
use Rattle.std.proofs.Common.{sym, arith, length-take-le}
use Rattle.wake.proofs.AnswerLaws.{no_line, after, second_fits, second-within, no_second, wrong-length, wrong-number, answered}
use Rattle.wake.proofs.answer.answer.Goals as goal

pub returns-then-first-input : goal.returns-then-first-input
returns-then-first-input c = no_line _ c.line_len-first.ensures c.if-first-input.true

pub overflow_add-rest : goal.overflow_add-rest
overflow_add-rest c = omega (arith, after _ c.line_len-first.ensures c.if-first-input.false)

pub slice_bounds-rest-count : goal.slice_bounds-rest-count
slice_bounds-rest-count c = after _ c.line_len-first.ensures c.if-first-input.false

pub slice_bounds-rest-start : goal.slice_bounds-rest-start
slice_bounds-rest-start c = after _ c.line_len-first.ensures c.if-first-input.false

pub overflow_add-second : goal.overflow_add-second
overflow_add-second c = omega (arith, second_fits _ c.line_len-first.ensures c.if-first-input.false c.line_len-second.ensures)

pub returns-then-second-rest : goal.returns-then-second-rest
returns-then-second-rest c = no_second _ c.line_len-first.ensures c.if-first-input.false c.line_len-second.ensures c.if-second-rest.true

pub slice_bounds-short_number-end : goal.slice_bounds-short_number-end
slice_bounds-short_number-end c = sym (length-take-le _ _ (omega (arith, after _ c.line_len-first.ensures c.if-first-input.false)))

pub returns-in_err-len : goal.returns-in_err-len
returns-in_err-len c =
    rw c.from_residual.ensures
    (wrong-length _ c.line_len-first.ensures c.if-first-input.false c.line_len-second.ensures c.if-second-rest.false c.in_err-len.ensures)

pub slice_bounds-short_number-end-2 : goal.slice_bounds-short_number-end-2
slice_bounds-short_number-end-2 c =
    sym (length-take-le _ _ (second-within _ c.line_len-first.ensures c.if-first-input.false c.line_len-second.ensures))

pub returns-in_err-budget : goal.returns-in_err-budget
returns-in_err-budget c =
    rw c.from_residual-in_err-budget.ensures
    (wrong-number _ c.line_len-first.ensures c.if-first-input.false c.line_len-second.ensures c.if-second-rest.false c.in_ok-len.ensures c.in_err-budget.ensures)

pub returns : goal.returns
returns c =
    answered _ c.line_len-first.ensures c.if-first-input.false c.line_len-second.ensures c.if-second-rest.false
    c.in_ok-len.ensures c.in_ok-budget.ensures c.most_blocks.ensures
