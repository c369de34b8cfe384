use Rattle.std.proofs.Common.{◌≡◌, ◌+◌, ◌-◌, sym, arith}
use Rattle.wire.proofs.SizeLaws.{sized}
use Rattle.wire.proofs.PutLaws.{length-put, put_all}
use Rattle.sender.specs.Job.{count}
use Rattle.sender.specs.Given.{image_of}
use Rattle.sender.proofs.BlockLaws.{size, counted, blocks-fit}
use Rattle.bundle.proofs.PackLaws.{no-messages, block-behind}
use Rattle.bundle.proofs.packing.put_blocks.Goals as goal

pub overflow_cast-n : goal.overflow_cast-n
overflow_cast-n c = let g = c.args.geometry in omega (arith, (sized _ _ g.allowed).count, c.count-n.ensures)

pub loop-number-init : goal.loop-number-init
loop-number-init c = (no-messages _ _, omega arith)

pub slice_bounds-block-count : goal.slice_bounds-block-count
slice_bounds-block-count c = let l = c.loop-number in omega (arith, length-put l.invariant.0 l.invariant.1)

pub slice_bounds-block-start : goal.slice_bounds-block-start
slice_bounds-block-start c = let l = c.loop-number in omega (arith, length-put l.invariant.0 l.invariant.1)

pub shape_of-out : goal.shape_of-out
shape_of-out c = let l = c.loop-number in length-put l.invariant.0 l.invariant.1

pub returns : goal.returns
returns c =
    let l = c.loop-number in
    let e : l.number - 1 ≡ count (image_of c.args.image.now) = omega (arith, c.count-n.ensures, counted c.requires.lengths, (blocks-fit c.requires.lengths _ c.count-n.ensures).0) in
    let b = rw e at l.invariant.0 in
    (sym b.size, put_all b)

pub overflow_add-at : goal.overflow_add-at
overflow_add-at c =
    let l = c.loop-number in
    let more = block-behind _ (size c.requires.lengths) c.sent_len-at.ensures l.number (omega arith) l.invariant.0 (omega (arith, c.count-n.ensures, counted c.requires.lengths)) c.requires.room c.block.ensures in
    omega (arith, more.0)

-- one message more
pub loop-number-preserved : goal.loop-number-preserved
loop-number-preserved c =
    let l = c.loop-number in
    let more = block-behind _ (size c.requires.lengths) c.sent_len-at.ensures l.number (omega arith) l.invariant.0 (omega (arith, c.count-n.ensures, counted c.requires.lengths)) c.requires.room c.block.ensures in
    let e : l.number + 1 - 1 ≡ l.number = omega arith in
    rw e (more.1, more.0)

pub overflow_step-number : goal.overflow_step-number
overflow_step-number c = let z = blocks-fit c.requires.lengths _ c.count-n.ensures in omega (arith, z.1)

-- behind the last message
pub returns-2 : goal.returns-2
returns-2 c =
    let l = c.loop-number in
    let more = block-behind _ (size c.requires.lengths) c.sent_len-at.ensures l.number (omega arith) l.invariant.0 (omega (arith, c.count-n.ensures, counted c.requires.lengths)) c.requires.room c.block.ensures in
    let e : l.number ≡ count (image_of c.args.image.now) = omega (arith, c.count-n.ensures, counted c.requires.lengths) in
    let b = rw e at more.1 in
    (sym b.size, put_all b)
