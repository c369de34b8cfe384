use Rattle.std.proofs.Common.{append-nil, ◌≡◌, ◌-◌, ◌*◌, [], ◌++◌, length, get_or, arith}
use Rattle.octets.specs.Octets.{part, joined, up_to}
use Rattle.octets.proofs.CopyLaws.{length_part}
use Rattle.lms.specs.Notation.{u16str, u32str, D_PBLC}
use Rattle.lms.specs.Ots.{zs}
use Rattle.lms.proofs.ChunkLaws.{chunk}
use Rattle.lms.proofs.ChainLaws.{z-found, zs-suc}
use Rattle.lms.proofs.ots.candidate.Goals as goal

pub loop-i-init : goal.loop-i-init
unfolding zs joined up_to
loop-i-init c = rw append-nil (rw (← c.start.ensures) (c.update-context.ensures _ c.new.ensures))

pub loop-i-preserved : goal.loop-i-preserved
loop-i-preserved c =
    let l = c.loop-i in
    let a = c.args in
    let S = c.checked-digits.result in
    let y = part 36 (32 * a.t.p) a.signature.now in
    let e : length a.signature.now - 36 ≡ 32 * a.t.p = omega arith in
    let yi : get_or c.as_chunks.result.0.now l.i [] ≡ part (32 * l.i) 32 y = chunk 32 _ l.i _ (rw e at c.as_chunks.ensures.front) (omega (arith, length_part a.signature.now 36 (32 * a.t.p))) in
    let f = z-found a.leaf.now.id a.leaf.now.q a.t.w S y l.i c.coef-a.result c.largest-top.result c.coef-a.ensures c.largest-top.ensures yi c.chain-z.ensures in
    let g = zs-suc (a.leaf.now.id ++ u32str a.leaf.now.q ++ u16str D_PBLC) a.leaf.now.id a.leaf.now.q a.t.w S y l.i in
    rw (← g, ← f) (c.update-context-in-loop-i.ensures _ l.invariant)
