use native.Mathlib.Omega.{arith}
use mathlib.Core.Path.{◌≡◌, refl}
use Prim.Native.Nat.{◌-◌}
use borrow.Author.Rules.{rules}
use Rattle.lms.specs.Ots.{chain}
use Rattle.octets.proofs.BufferLaws.{begun, more}
use Rattle.octets.proofs.CopyLaws.{paste-later}
use Rattle.lms.proofs.ChainLaws.{block-turn}
use Rattle.lms.proofs.ots.chain.Goals as goal

pub loop-j-init : goal.loop-j-init
unfolding chain
loop-j-init c =
    let e : c.args.a - c.args.a ≡ 0 = omega arith in (
      rw (← c.start-s.ensures) (more (begun refl) refl c.start-s.result (search rules) c.copy.ensures),
      paste-later _ c.start-s.result 0 55 (omega arith) (omega arith) c.copy.ensures,
      rw e refl,
    )

pub loop-j-preserved : goal.loop-j-preserved
loop-j-preserved c =
    let a = c.args in
    let l = c.loop-j in
    block-turn a.leaf.now.id a.leaf.now.q a.i a.a a.y.now l.j l.tmp (search rules) l.invariant.0 l.invariant.1 (search rules) c.copy-in-loop-j.ensures l.auto.j (omega arith)
    l.invariant.2 c.digest_padded-tmp.ensures
