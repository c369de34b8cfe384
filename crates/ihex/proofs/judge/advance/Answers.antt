use native.Mathlib.Omega.{arith}
use Rattle.ihex.specs.Line.{line_of}
use Rattle.ihex.proofs.StepLaws.{fits, steps-broken, steps-end, steps-upper, is-broken, is-end, is-upper, is-data, steps-empty, steps-below, steps-above, steps_twice, steps_next}
use Rattle.ihex.proofs.judge.advance.Goals as goal

pub overflow_add-base : goal.overflow_add-base
overflow_add-base c = omega (arith, (fits _ _ c.requires).last)

pub mark-requires : goal.mark-requires
mark-requires c = omega (arith, (fits _ _ c.requires).most)

pub returns-in-None : goal.returns-in-None
returns-in-None c = rw (is-broken (line_of c.args.line.now) c.in-None.ensures) (steps-broken _ _ _)

pub returns-in-Some-End : goal.returns-in-Some-End
returns-in-Some-End c = rw (is-end (line_of c.args.line.now) (rw c.in-Some-End.field-0-is at c.in-Some-End.ensures)) (steps-end _ _ _)

pub returns-in-Some-Upper : goal.returns-in-Some-Upper
returns-in-Some-Upper c = rw (is-upper (line_of c.args.line.now) (rw c.in-Some-Upper.field-0-is at c.in-Some-Upper.ensures)) (steps-upper _ _ _ _)

pub returns-then-count-eq0 : goal.returns-then-count-eq0
returns-then-count-eq0 c =
    let d = is-data (line_of c.args.line.now) (rw c.in-Some-Data.field-0-is at c.in-Some-Data.ensures) in
    rw d.1.0 (steps-empty _ _ _ _ d.0 (fits _ _ c.requires) (omega (arith, d.1.1)))

pub returns-then-first-base : goal.returns-then-first-base
returns-then-first-base c =
    let d = is-data (line_of c.args.line.now) (rw c.in-Some-Data.field-0-is at c.in-Some-Data.ensures) in
    rw d.1.0 (steps-below _ _ _ _ d.0 (fits _ _ c.requires) (omega (arith, d.1.1)) (omega arith) c.if-first-base.true)

pub returns-then-base-len : goal.returns-then-base-len
returns-then-base-len c =
    let d = is-data (line_of c.args.line.now) (rw c.in-Some-Data.field-0-is at c.in-Some-Data.ensures) in
    rw d.1.0 (steps-above _ _ _ _ d.0 (fits _ _ c.requires) (omega (arith, d.1.1)) (omega arith) (omega arith) (omega (arith, d.1.1)))

pub returns-then-mark : goal.returns-then-mark
returns-then-mark c =
    let d = is-data (line_of c.args.line.now) (rw c.in-Some-Data.field-0-is at c.in-Some-Data.ensures) in
    rw d.1.0
    (steps_twice _ _ _ _ d.0 (fits _ _ c.requires) (omega (arith, d.1.1)) (omega arith) (omega arith) (omega (arith, d.1.1)) (rw (d.1.1, ← c.if-mark.true) c.mark.ensures))

pub returns-else-mark : goal.returns-else-mark
returns-else-mark c =
    let d = is-data (line_of c.args.line.now) (rw c.in-Some-Data.field-0-is at c.in-Some-Data.ensures) in
    rw d.1.0
    (steps_next _ _ _ _ d.0 (fits _ _ c.requires) (omega (arith, d.1.1)) (omega arith) (omega arith) (omega (arith, d.1.1)) (rw (d.1.1, ← c.if-mark.false) c.mark.ensures))
