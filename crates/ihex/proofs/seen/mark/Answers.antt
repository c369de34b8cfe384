use mathlib.Core.Path.{refl, ap, ◌∙◌}
use Prim.Native.Nat.{◌/◌}
use native.Mathlib.Omega.{arith}
use lib.Bits.{bit_and}
use lib.ListN.{length-set, get_or}
use Rattle.ihex.proofs.SeenLaws.{one_bit, marking-start, marking-found, marking-next, marked-one, marked_all}
use Rattle.ihex.proofs.seen.mark.Goals as goal

pub loop-i-init : goal.loop-i-init
loop-i-init c = (marking-start _ _, refl)

pub returns-then-byte-bit-ne0 : goal.returns-then-byte-bit-ne0
returns-then-byte-bit-ne0 c = let l = c.loop-i in marked-one l.invariant.0 _ (omega arith) (marking-found l.invariant.0 (λ e. c.if-byte-bit-ne0.true (ap (bit_and (get_or l.seen (l.i / 8) 0)) (one_bit l.i) ∙ e)))

pub loop-i-preserved : goal.loop-i-preserved
loop-i-preserved c = let l = c.loop-i in (rw (one_bit l.i) (marking-next l.invariant.0 (rw (one_bit l.i) at c.if-byte-bit-ne0.false) (omega arith)), simp length-set l.invariant.1)

pub returns : goal.returns
returns c = marked_all c.loop-i.invariant.0 _ (omega arith)
