use Rattle.std.proofs.Common.{◌≡◌, ◌+◌, ◌-◌, ◌*◌, get_or, sym, add-zero, add_assoc, arith, length-set, rules}
use Rattle.sha256.specs.Sha256.{σ0, σ1}
use Rattle.sha256.proofs.ScheduleLaws.{word-of-words, schedule-all}
use Rattle.sha256.proofs.WordLaws.{sum-four}
use Rattle.sha256.proofs.schedule.extended.Goals as goal

pub loop-j-init : goal.loop-j-init
loop-j-init c = (search rules, search rules, λ b e. rw (add-zero (8 * c.loop-i.i)) e)

pub loop-j-preserved : goal.loop-j-preserved
loop-j-preserved c =
    let l = c.loop-j in
    let t = 8 * c.loop-i.i + l.j in
    let sum = sum-four (σ1 (get_or l.W (t - 2) 0)) (get_or l.W (t - 7) 0) (σ0 (get_or l.W (t - 15) 0)) (get_or l.W (t - 16) 0) in (
      search rules,
      simp length-set l.invariant.1,
      λ b e. rw (sym (add_assoc (8 * c.loop-i.i) l.j 1)) (word-of-words b _ t (l.invariant.2 b e) (omega arith) (omega arith) _ (cc sum)),
    )

pub loop-i-preserved : goal.loop-i-preserved
loop-i-preserved c =
    let l = c.loop-j in
    let k = c.loop-i in
    let n : 8 * k.i + l.j ≡ 8 * (k.i + 1) = omega arith in
    (search rules, search rules, l.invariant.1, λ b e. rw n at (l.invariant.2 b (k.invariant.3 b e)))

pub returns : goal.returns
returns c = let l = c.loop-i in λ b e. schedule-all b _ (8 * l.i) (l.invariant.3 b e) (omega arith) (omega arith) l.invariant.2
