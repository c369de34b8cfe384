use Rattle.std.proofs.Common.{rules, ◌≡◌, length}
use native.Mathlib.Omega.{arith}
use Rattle.ihex.proofs.LineLaws.{end_empty, end_none, end-alone, end-crlf, end-lf}
use Rattle.ihex.proofs.record.end_len.Goals as goal

pub returns-in-13 : goal.returns-in-13
returns-in-13 c = end-crlf _ (omega arith) (omega arith) (omega arith)

pub returns-in-10 : goal.returns-in-10
returns-in-10 c = end-alone _ (omega arith) (let one : length c.args.line.now ≡ 1 = omega arith in rw one (search rules))

pub returns-in-10-2 : goal.returns-in-10-2
returns-in-10-2 c = end-lf _ (omega arith) (omega arith) (λ e. omega arith)

pub returns-in_default : goal.returns-in_default
returns-in_default c = end_empty _ (omega arith)

pub returns-in_default-2 : goal.returns-in_default-2
returns-in_default-2 c = end_none _ (omega arith) (λ e. let one : length c.args.line.now ≡ 1 = omega arith in grind (arith, rw one at e))

pub returns-in_default-3 : goal.returns-in_default-3
returns-in_default-3 c = end_none _ (omega arith) (λ e. omega arith)
