use mathlib.Core.Path.{◌≡◌, sym, ap, ◌∙◌}
use Rattle.std.specs.Prelude.{None, Some}
use Prim.Native.Nat.{◌+◌}
use native.Mathlib.Omega.{arith}
use Rattle.ihex.proofs.LineLaws.{end-most}
use Rattle.ihex.proofs.RecordLaws.{reads, too_short, no_end, no-colon, no-octet, no-pair, wrong-count, wrong-sum, right}
use Rattle.ihex.proofs.record.record_in.Goals as goal
use Rattle.ihex.proofs.record.record_in.Goals.{then-end-eq0-via-then-end-eq0, then-end-eq0-via-else-end-eq0+then-line-end}

pub overflow_add-end : goal.overflow_add-end
overflow_add-end c = omega (arith, c.end_len-end.ensures, end-most c.args.line.now)

pub returns-then-end-eq0 : goal.returns-then-end-eq0
returns-then-end-eq0 c =
    elim c.then-end-eq0.branch [
      | then-end-eq0-via-then-end-eq0 w ↦ no_end _ (omega (arith, c.end_len-end.ensures))
      | then-end-eq0-via-else-end-eq0+then-line-end w ↦ too_short _ (omega (arith, c.end_len-end.ensures))
    ]

pub returns-then-line-ne58 : goal.returns-then-line-ne58
returns-then-line-ne58 c = no-colon _ c.if-line-ne58.true

pub returns-in_err-count : goal.returns-in_err-count
returns-in_err-count c = c.from_residual.ensures ∙ no-octet _ 0 (omega arith) (sym c.octet.ensures ∙ c.in_err-count.was)

pub returns-then-line-end-2 : goal.returns-then-line-end-2
returns-then-line-end-2 c = wrong-count _ (sym c.in_ok-count.ensures) (λ e. c.if-line-end-2.true (omega (arith, c.end_len-end.ensures)))

pub returns-in_err-sum : goal.returns-in_err-sum
returns-in_err-sum c =
    c.from_residual-in_err-sum.ensures
    ∙ wrong-sum _ (c.from-n.result + 5) (omega (arith, c.if-line-end-2.false, c.end_len-end.ensures)) (λ e. let n : None ≡ Some 0 = c.in_err-sum.ensures ∙ e in cc)

pub returns-then-branch-ne0 : goal.returns-then-branch-ne0
returns-then-branch-ne0 c =
    wrong-sum _ (c.from-n.result + 5) (omega (arith, c.if-line-end-2.false, c.end_len-end.ensures))
    (λ e. c.if-branch-ne0.true (let n : Some c.in_ok-sum.field-0 ≡ Some 0 = c.in_ok-sum.ensures ∙ e in cc))

pub returns-in_err-pair : goal.returns-in_err-pair
returns-in_err-pair c = c.from_residual-in_err-pair.ensures ∙ no-pair _ (sym c.pair.ensures ∙ c.in_err-pair.was)

pub returns-in_err-octet : goal.returns-in_err-octet
returns-in_err-octet c = c.from_residual-in_err-octet.ensures ∙ no-octet _ 3 (omega arith) (sym c.octet-2.ensures ∙ c.in_err-octet.was)

pub returns : goal.returns
returns c =
    let zero : c.in_ok-sum.field-0 ≡ 0 = omega arith in
    let p =
    right _ (c.from-n.result + 5) (omega (arith, c.if-line-end-2.false, c.end_len-end.ensures)) c.if-line-ne58.false (omega (arith, c.end_len-end.ensures)) (sym c.in_ok-count.ensures)
    (omega arith) (sym c.in_ok-sum.ensures ∙ ap Some zero)
    in
    reads p.1 (sym c.in_ok-pair.ensures) (sym c.in_ok-octet.ensures) (sym c.in_ok-count.ensures)
