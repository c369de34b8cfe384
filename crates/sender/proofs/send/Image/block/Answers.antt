use Rattle.std.proofs.Common.{◌≡◌, ℕ, [], length, refl, sym, ap, ◌+◌, ◌-◌, ◌*◌, ◌∙◌, arith, add-one, length-take, length-drop}
use Rattle.sha256.specs.Sha256.{digest}
use Rattle.sha256.proofs.DigestLaws.{length-digest}
use Rattle.merkle.specs.Limits.{hash_length}
use Rattle.merkle.specs.Blocks.{cut}
use Rattle.merkle.specs.Hash.{plain}
use Rattle.merkle.specs.Frontier.{carried_count}
use Rattle.merkle.specs.Held.{sent}
use Rattle.merkle.proofs.FitsLaws.{length-sent}
use Rattle.wire.specs.Message.{block_message}
use Rattle.wire.proofs.MessageLaws.{block_size, block-whole}
use Rattle.wire.proofs.PutLaws.{Put, put-start, put-part-more}
use Rattle.sender.specs.Job.{blocks}
use Rattle.sender.specs.Given.{image_of}
use Rattle.sender.specs.Send.{send_block}
use Rattle.sender.proofs.BlockLaws.{in-range, fits-number, counted, own, due-parts, block-long}
use Rattle.sender.proofs.JobLaws.{block_is}
use Rattle.sender.proofs.SendLaws.{refused-at, area-refused-at, all-written-at}
use Rattle.sender.proofs.send.Image.block.Goals as goal

pub returns-in_err-geometry : goal.returns-in_err-geometry
unfolding send_block
returns-in_err-geometry c = refused-at _ _ _ _ _ c.from_residual.ensures.1 c.in_err-geometry.ensures

pub due_len-due-requires : goal.due_len-due-requires
due_len-due-requires c = let k = c.in_ok-geometry.ensures in in-range k.0 _ k.1

pub returns-then-out-due : goal.returns-then-out-due
unfolding send_block
returns-then-out-due c = let k = c.in_ok-geometry.ensures in area-refused-at _ _ _ k.0 _ k.1 (omega (arith, block-long k.0 _ k.1 _ c.due_len-due.ensures))

pub block-block-requires : goal.block-block-requires
block-block-requires c = let k = c.in_ok-geometry.ensures in let r = in-range k.0 _ k.1 in (omega (arith, r.0), omega (arith, r.0, r.1), omega (arith, k.0.image_len))

pub overflow_cast-number : goal.overflow_cast-number
overflow_cast-number c = let k = c.in_ok-geometry.ensures in omega (arith, fits-number k.0 _ k.1)

pub put_block-from-requires : goal.put_block-from-requires
put_block-from-requires c = let k = c.in_ok-geometry.ensures in omega (arith, due-parts k.0 _ k.1 c.block-block.ensures _ _ refl c.due_len-due.ensures, c.if-out-due.false)

pub slice_bounds-write_siblings-count : goal.slice_bounds-write_siblings-count
slice_bounds-write_siblings-count c =
    let k = c.in_ok-geometry.ensures in
    let p = c.put_block-from in
    omega (arith, due-parts k.0 _ k.1 c.block-block.ensures _ _ refl c.due_len-due.ensures, c.if-out-due.false, p.ensures.0, p.auto.out)

pub slice_bounds-write_siblings-start : goal.slice_bounds-write_siblings-start
slice_bounds-write_siblings-start c =
    let k = c.in_ok-geometry.ensures in
    let p = c.put_block-from in
    omega (arith, due-parts k.0 _ k.1 c.block-block.ensures _ _ refl c.due_len-due.ensures, c.if-out-due.false, p.ensures.0, p.auto.out)

pub overflow_sub-i : goal.overflow_sub-i
overflow_sub-i c = let k = c.in_ok-geometry.ensures in omega (arith, (in-range k.0 _ k.1).0)

pub write_siblings-requires : goal.write_siblings-requires
write_siblings-requires c =
    let k = c.in_ok-geometry.ensures in
    let p = c.put_block-from in
    let r = in-range k.0 _ k.1 in
    let whole = due-parts k.0 _ k.1 c.block-block.ensures _ _ c.blocks-blocks.ensures.2 c.due_len-due.ensures in
    (omega (arith, r.0, r.1, c.blocks-blocks.ensures.2, counted k.0), simp (length-take, length-drop) (omega (arith, whole, c.if-out-due.false, p.ensures.0, p.auto.out)))

pub returns : goal.returns
unfolding send_block blocks
returns c =
    let a = c.args in
    let k = c.in_ok-geometry.ensures in
    let x = image_of a.self.now in
    let bs = c.blocks-blocks.result in
    let b = c.block-block in
    let p = c.put_block-from in
    let hs = sent (plain digest) bs.count (cut bs.len bs.bytes.now) (a.number - 1) in
    let h : hash_length * carried_count bs.count (a.number - 1 + 1) ≡ length hs =
    ap (λ (y : ℕ). hash_length * carried_count bs.count y) (add-one (a.number - 1)) ∙ sym (length-sent (plain digest) length-digest bs.count (cut bs.len bs.bytes.now) (a.number - 1)) in
    let whole = due-parts k.0 _ k.1 b.ensures _ _ c.blocks-blocks.ensures.2 c.due_len-due.ensures in
    let room = c.if-out-due.false in
    let head : Put a.out.now p.new.out (block_message a.number b.result.now []) p.result =
    put-start p.result (block_size a.number b.result.now [] ∙ omega (arith, p.ensures.0)) p.ensures.1 in
    all-written-at _ _ _ k.0 _ k.1
    (put-part-more head hs _ c.due_len-due.result (omega (arith, h, whole, p.ensures.0)) room (rw h at c.write_siblings.ensures))
    (block-whole a.number b.result.now hs ∙ block_is x bs.count a.number b.result.now hs c.blocks-blocks.ensures.2 (own k.0 _ k.1 b.ensures) (rw (c.blocks-blocks.ensures.0, c.blocks-blocks.ensures.1) refl)) room
