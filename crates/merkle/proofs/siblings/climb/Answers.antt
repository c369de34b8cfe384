-- `merkle::siblings::climb` meets its contract.
use Rattle.std.proofs.Common.{◌≡◌, ◌%◌, ◌/◌, eqb, length, ap, ◌∙◌, arith}
use Rattle.sha256.specs.Sha256.{digest}
use Rattle.sha256.proofs.DigestLaws.{length-digest}
use Rattle.merkle.specs.Limits.{hash_length}
use Rattle.merkle.specs.Hash.{plain}
use Rattle.merkle.proofs.CostLaws.{of-block, of-beside}
use Rattle.merkle.proofs.TurnLaws.{even_is, length-chunk, rising_none, rising-more, rising-done}
use Rattle.merkle.proofs.siblings.climb.Goals as goal

pub loop-sibling-init : goal.loop-sibling-init
loop-sibling-init c =
    let a = c.args in
    let H = plain digest in (
      ap length c.block_hash-took.ensures.0 ∙ length-digest _,
      omega (arith, c.block_hash-took.ensures.1, of-block H a.block.now),
      λ ws e l. rw (c.block_hash-took.ensures.0, c.block_hash-took.ensures.1) (rising_none H ws a.siblings.now _ _ _ _ c.as_chunks.ensures.front e l),
    )

-- a node takes two
pub overflow_add-took : goal.overflow_add-took
overflow_add-took c =
    let s = c.args.siblings.now in
    let long = length-chunk (length s / hash_length) c.loop-sibling.sibling-index s _ (omega (arith, c.as_chunks.ensures.front_len)) (omega arith) in
    let two : c.rise-took.result ≡ 2 = c.rise-took.ensures.1 ∙ of-beside (plain digest) c.loop-sibling.x _ _ c.loop-sibling.invariant.0 (rw c.as_chunks.ensures.front long) in
    omega (arith, c.as_chunks.ensures.front_len)

pub loop-sibling-preserved : goal.loop-sibling-preserved
loop-sibling-preserved c =
    let H = plain digest in
    let s = c.args.siblings.now in
    let right = eqb (c.loop-sibling.left % 2) 0 in
    let long = length-chunk (length s / hash_length) c.loop-sibling.sibling-index s _ (omega (arith, c.as_chunks.ensures.front_len)) (omega arith) in
    let two : c.rise-took.result ≡ 2 = c.rise-took.ensures.1 ∙ of-beside (plain digest) c.loop-sibling.x _ _ c.loop-sibling.invariant.0 (rw c.as_chunks.ensures.front long) in (
      ap length c.rise-took.ensures.0 ∙ length-digest _,
      omega arith,
      λ ws e l. rising-more H (c.loop-sibling.invariant.2 ws e l) c.loop-sibling-test.true right (even_is c.loop-sibling.left) _ _ _ c.rise-took.ensures.0 c.rise-took.ensures.1,
    )

pub returns : goal.returns
returns c ws e l = rising-done (c.loop-sibling.invariant.2 ws e l) (omega arith)
