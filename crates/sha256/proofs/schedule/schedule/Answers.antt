use Rattle.std.proofs.Common.{◌≡◌, refl, arith, length-set, rules}
use Rattle.sha256.specs.Sha256.{words, M}
use Rattle.sha256.proofs.ScheduleLaws.{word-of-block}
use Rattle.sha256.proofs.schedule.schedule.Goals as goal

pub loop-t-init : goal.loop-t-init
unfolding words
loop-t-init c = (search rules, search rules, refl)

pub loop-t-preserved : goal.loop-t-preserved
unfolding M
loop-t-preserved c =
    let l = c.loop-t in
    (search rules, simp length-set l.invariant.1, word-of-block _ _ _ l.invariant.2 (omega arith) (omega arith) _ c.u32_at.ensures)

pub returns : goal.returns
returns c =
    let l = c.loop-t in
    let e : l.t ≡ 16 = omega arith in
    c.extended.ensures _ (rw e at l.invariant.2)
