use Rattle.std.proofs.Common.{◌≡◌, ◌+◌, ◌*◌, get_or, sym, refl, add-zero, add_assoc, arith, rules}
use Rattle.sha256.specs.Sha256.{K, rounds, initialize}
use Rattle.sha256.proofs.RoundLaws.{round-made, round-more}
use Rattle.sha256.proofs.rounds.rounds.Goals as goal

pub loop-i-init : goal.loop-i-init
unfolding rounds
loop-i-init c = (search rules, refl)

pub loop-j-init : goal.loop-j-init
loop-j-init c = (search rules, λ s e. rw (add-zero (8 * c.loop-i.i)) e)

pub loop-j-preserved : goal.loop-j-preserved
unfolding K
loop-j-preserved c =
    let l = c.loop-j in
    let i = c.loop-i.i in
    let t = 8 * i + l.j in
    let W = c.args.W in (
      search rules,
      λ s x.
          rw (sym (add_assoc (8 * i) l.j 1))
          (round-more W s t
          (round-made l.d l.h (get_or K t 0) (get_or W t 0) c.BSIG1.ensures c.add.ensures c.Ch.ensures c.add-in-loop-j.ensures
          c.add-in-loop-j-2.ensures c.add-T1.ensures c.BSIG0.ensures c.Maj.ensures c.add-T2.ensures c.add-e.ensures c.add-a.ensures)
          (l.invariant.1 s x)),
    )

pub loop-i-preserved : goal.loop-i-preserved
loop-i-preserved c =
    let l = c.loop-j in
    let k = c.loop-i in
    let n : 8 * k.i + l.j ≡ 8 * (k.i + 1) = omega arith in
    (search rules, rw n at (l.invariant.1 _ k.invariant.1))

pub returns : goal.returns
unfolding initialize
returns c =
    let l = c.loop-i in
    let n : l.i ≡ 8 = omega arith in
    rw n at l.invariant.1
