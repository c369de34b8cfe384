use mathlib.Core.Path.{refl}
use native.Mathlib.Omega.{arith}
use Rattle.std.specs.Prelude.{None}
use Rattle.std.proofs.Common.{rules}
use Rattle.ihex.proofs.LineLaws.{line_cut}
use Rattle.ihex.proofs.JudgeLaws.{judging-start, judging-missing, judging-done, judging-behind, judging-fault, judging-next}
use Rattle.ihex.proofs.judge.judge.Goals as goal

pub loop-line-init : goal.loop-line-init
loop-line-init c = rw (c.into_iter-line-iterator.ensures.into_iter_gives, c.split_inclusive-line-items.ensures.rest, c.none-seen.ensures) (judging-start _ _ _, refl)

pub returns-then-left-eq0 : goal.returns-then-left-eq0
returns-then-left-eq0 c =
    let cut = line_cut _ _ _ _ _ _ c.in-Some.ensures.steps (λ f a r g h. search rules) in
    let j = judging-next c.loop-line.invariant.0 cut c.advance.ensures None (rw c.in-Ok-None.field-0-is at c.in-Ok-None.is) (search rules) in
    judging-done j (omega (arith, cut.parts, c.loop-line.invariant.1, c.if-left-eq0.true)) refl

pub returns-in-Ok-None : goal.returns-in-Ok-None
returns-in-Ok-None c =
    let cut = line_cut _ _ _ _ _ _ c.in-Some.ensures.steps (λ f a r g h. search rules) in
    let j = judging-next c.loop-line.invariant.0 cut c.advance.ensures None (rw c.in-Ok-None.field-0-is at c.in-Ok-None.is) (search rules) in
    judging-behind j (omega (arith, cut.parts, c.loop-line.invariant.1, c.if-left-eq0.false)) refl

pub returns-in-Err : goal.returns-in-Err
returns-in-Err c =
    let cut = line_cut _ _ _ _ _ _ c.in-Some.ensures.steps (λ f a r g h. search rules) in
    judging-fault c.loop-line.invariant.0 cut c.advance.ensures _ c.in-Err.is

pub loop-line-preserved : goal.loop-line-preserved
loop-line-preserved c =
    let cut = line_cut _ _ _ _ _ _ c.in-Some.ensures.steps (λ f a r g h. search rules) in
    (judging-next c.loop-line.invariant.0 cut c.advance.ensures _ (rw c.in-Ok-Some.field-0-is at c.in-Ok-Some.is) (search rules), omega (arith, cut.parts, c.loop-line.invariant.1))

pub returns : goal.returns
returns c = judging-missing c.loop-line.invariant.0 c.in-None.ensures.steps.0 refl
