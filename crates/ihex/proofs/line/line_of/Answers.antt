use mathlib.Core.Path.{sym, ◌∙◌}
use native.Mathlib.Omega.{arith}
use Rattle.ihex.proofs.LineReadLaws.{read_none, finds, read-data, read-end, read-long-end, read_upper, no-upper, read-wrong-upper, read-other, read-long}
use Rattle.ihex.proofs.line.line_of.Goals as goal

pub returns-in_err-record : goal.returns-in_err-record
returns-in_err-record c = c.from_residual.ensures ∙ read_none _ c.record_in.ensures c.in_err-record.was

pub pair-requires : goal.pair-requires
pair-requires c = omega (arith, read-long _ (finds _ c.record_in.ensures c.in_ok-record.was))

pub returns-in_err-pair-in-4-eq2 : goal.returns-in_err-pair-in-4-eq2
returns-in_err-pair-in-4-eq2 c =
    c.from_residual-in_err-pair-in-4-eq2.ensures
    ∙ no-upper _ (finds _ c.record_in.ensures c.in_ok-record.was) c.in-4-eq2.is-0 c.in-4-eq2.is-1 (sym c.pair.ensures ∙ c.in_err-pair-in-4-eq2.was)

pub returns-in-0-default : goal.returns-in-0-default
returns-in-0-default c = read-data _ (finds _ c.record_in.ensures c.in_ok-record.was) c.in-0-default.is-0

pub returns-in-1-eq0 : goal.returns-in-1-eq0
returns-in-1-eq0 c = read-end _ (finds _ c.record_in.ensures c.in_ok-record.was) c.in-1-eq0.is-0 c.in-1-eq0.is-1

pub returns-in_ok-pair-in-4-eq2 : goal.returns-in_ok-pair-in-4-eq2
returns-in_ok-pair-in-4-eq2 c = read_upper _ (finds _ c.record_in.ensures c.in_ok-record.was) c.in-4-eq2.is-0 c.in-4-eq2.is-1 (sym c.pair.ensures ∙ c.in_ok-pair-in-4-eq2.was)

pub returns-in_default : goal.returns-in_default
returns-in_default c = read-long-end _ (finds _ c.record_in.ensures c.in_ok-record.was) (omega arith) (λ e. omega arith)

pub returns-in_default-2 : goal.returns-in_default-2
returns-in_default-2 c = read-wrong-upper _ (finds _ c.record_in.ensures c.in_ok-record.was) (omega arith) (λ e. omega arith)

pub returns-in_default-3 : goal.returns-in_default-3
returns-in_default-3 c = read-other _ (finds _ c.record_in.ensures c.in_ok-record.was) (λ e. omega arith) (λ e. omega arith) (λ e. omega arith)
