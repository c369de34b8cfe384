use Rattle.std.proofs.Common.{◌≡◌, ◌*◌, ◌/◌, length, drop, refl, ap, ◌∙◌, arith}
use Rattle.sha256.specs.Sha256.{hash_value}
use Rattle.sha256.proofs.HashLaws.{hash-more}
use Rattle.sha256.proofs.compress.compress_all.Goals as goal

pub loop-block-init : goal.loop-block-init
unfolding hash_value
loop-block-init c = refl

pub loop-block-preserved : goal.loop-block-preserved
loop-block-preserved c =
    let l = c.loop-block in
    hash-more c.args.H.now c.args.s.now l.block-index (omega arith) c.as_chunks.ensures.front l.invariant c.compress.ensures

pub returns : goal.returns
returns c =
    let l = c.loop-block in
    let s = c.args.s.now in
    let e : l.block-index ≡ length s / 64 = omega arith in
    let k : length s / 64 * 64 ≡ 64 * (length s / 64) = omega arith in
    (rw e at l.invariant, c.as_chunks.ensures.back ∙ ap (λ n. drop n s) k)
