use mathlib.Core.Path.{refl, sym, ◌∙◌}
use native.Mathlib.Omega.{arith}
use native.Mathlib.Numerals.{add-one}
use Rattle.octets.proofs.EqualLaws.{equal-lengths, equal-same, equal-differ, equal-past}
use Rattle.octets.proofs.equal.Goals as goal

pub returns-then-a-b : goal.returns-then-a-b
returns-then-a-b c = sym (equal-lengths _ _ c.if-a-b.true)

pub loop-i-init : goal.loop-i-init
loop-i-init c = (omega arith, omega arith, refl)

pub returns-then-a-i : goal.returns-then-a-i
returns-then-a-i c =
    let l = c.loop-i in
    sym (l.invariant.2 ∙ equal-differ _ _ l.i (omega arith) (omega arith) c.if-a-i.true)

pub loop-i-preserved : goal.loop-i-preserved
loop-i-preserved c =
    let l = c.loop-i in
    (omega arith, l.invariant.1, rw (add-one l.i) (l.invariant.2 ∙ equal-same _ _ l.i (omega arith) (omega arith) c.if-a-i.false))

pub returns : goal.returns
returns c =
    let l = c.loop-i in
    sym (l.invariant.2 ∙ equal-past _ _ l.i (omega arith) (omega arith))
