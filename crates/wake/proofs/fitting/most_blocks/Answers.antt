-- `wake::fitting::most_blocks` meets its contract.
use Rattle.std.proofs.Common.{sym, ◌∙◌, ◌≤◌, ◌<◌, arith}
use Rattle.wire.proofs.SizeLaws.{length-range}
use Rattle.wake.proofs.FitLaws.{above-start, above-next, refused, none-fit, found}
use Rattle.wake.proofs.fitting.most_blocks.Goals as goal

pub returns-then-not-allowed : goal.returns-then-not-allowed
returns-then-not-allowed c = refused _ _ (sym c.allowed.ensures ∙ c.if-not-allowed.true)

pub loop-n-init : goal.loop-n-init
loop-n-init c = above-start _ _

-- blocks of such a length are allowed, and so have at most 1,024 bytes
pub known_cost-requires : goal.known_cost-requires
known_cost-requires c =
    let few = (length-range _ (sym c.allowed.ensures ∙ c.if-not-allowed.false)).1 in
    (few, few, omega arith, c.loop-n.invariant.most)

pub returns-then-known_cost-budget : goal.returns-then-known_cost-budget
returns-then-known_cost-budget c =
    let h : c.known_cost.result ≤ c.args.budget = omega arith in
    found _ _ (sym c.allowed.ensures ∙ c.if-not-allowed.false) c.loop-n.invariant (omega arith) (rw c.known_cost.ensures at h)

pub loop-n-preserved : goal.loop-n-preserved
loop-n-preserved c =
    let h : c.args.budget < c.known_cost.result = omega arith in
    above-next _ _ c.loop-n.invariant (omega arith) (rw c.known_cost.ensures at h)

pub returns : goal.returns
returns c = none-fit _ _ (sym c.allowed.ensures ∙ c.if-not-allowed.false) c.loop-n.invariant (omega arith)
