use Rattle.std.proofs.Common.{length, sym, ◌∙◌, ◌+◌, ◌-◌, ◌≤◌, refl, arith, length-take, length-drop, ltb-true, ltb-false}
use Rattle.sha256.specs.Sha256.{digest}
use Rattle.sha256.proofs.DigestLaws.{length-digest}
use Rattle.merkle.specs.Blocks.{cut}
use Rattle.merkle.specs.Hash.{plain}
use Rattle.merkle.specs.Path.{sent_path}
use Rattle.merkle.proofs.PathWritingLaws.{length-sent-path}
use Rattle.wire.proofs.PutLaws.{put-more, put-part-more}
use Rattle.sender.specs.Job.{blocks}
use Rattle.sender.specs.Given.{job_of}
use Rattle.sender.specs.Send.{send_path}
use Rattle.sender.proofs.BlockLaws.{in-range, fits-number, counted, own, path-parts, path-long}
use Rattle.sender.proofs.JobLaws.{path-is}
use Rattle.sender.proofs.SendLaws.{refused-at, area-refused-at, all-written-at, head}
use Rattle.sender.proofs.send.Job.path_update.Goals as goal

pub returns-in_err-geometry : goal.returns-in_err-geometry
unfolding send_path
returns-in_err-geometry c = refused-at _ _ _ _ _ c.from_residual.ensures.1 c.in_err-geometry.ensures

pub least_path-least-requires : goal.least_path-least-requires
least_path-least-requires c = let k = c.in_ok-geometry.ensures in in-range k.0 _ k.1

pub returns-then-too_short : goal.returns-then-too_short
unfolding send_path
returns-then-too_short c =
    let a = c.args in
    let k = c.in_ok-geometry.ensures in
    let e = ltb-true (length a.out.now) _ (sym c.too_short.ensures ∙ c.if-too_short.true) in
    area-refused-at _ _ _ k.0 _ k.1 (omega (arith, e, path-long (job_of a.self.now) k.0 _ k.1 a.signature.now _ c.least_path-least.ensures))

pub block-new-requires : goal.block-new-requires
block-new-requires c = let k = c.in_ok-geometry.ensures in let r = in-range k.0 _ k.1 in (omega (arith, r.0), omega (arith, r.0, r.1), omega (arith, k.0.image_len))

pub overflow_cast-number : goal.overflow_cast-number
overflow_cast-number c = let k = c.in_ok-geometry.ensures in omega (arith, fits-number k.0 _ k.1)

pub put_successor-from-requires : goal.put_successor-from-requires
put_successor-from-requires c =
    let k = c.in_ok-geometry.ensures in
    omega (arith, ltb-false _ _ (sym c.too_short.ensures ∙ c.if-too_short.false), path-parts k.0 _ k.1 c.block-new.ensures _ _ refl c.least_path-least.ensures)

pub slice_bounds-write_path-count : goal.slice_bounds-write_path-count
slice_bounds-write_path-count c =
    let k = c.in_ok-geometry.ensures in
    let p = c.put_successor-from in
    let whole = path-parts k.0 _ k.1 c.block-new.ensures _ _ refl c.least_path-least.ensures in
    omega (arith, ltb-false _ _ (sym c.too_short.ensures ∙ c.if-too_short.false), whole, p.ensures.0, p.auto.out)

pub slice_bounds-write_path-start : goal.slice_bounds-write_path-start
slice_bounds-write_path-start c =
    let k = c.in_ok-geometry.ensures in
    let p = c.put_successor-from in
    let whole = path-parts k.0 _ k.1 c.block-new.ensures _ _ refl c.least_path-least.ensures in
    omega (arith, ltb-false _ _ (sym c.too_short.ensures ∙ c.if-too_short.false), whole, p.ensures.0, p.auto.out)

pub overflow_sub-i : goal.overflow_sub-i
overflow_sub-i c = let k = c.in_ok-geometry.ensures in omega (arith, (in-range k.0 _ k.1).0)

pub write_path-requires : goal.write_path-requires
write_path-requires c =
    let k = c.in_ok-geometry.ensures in
    let p = c.put_successor-from in
    let r = in-range k.0 _ k.1 in
    let whole = path-parts k.0 _ k.1 c.block-new.ensures _ _ c.blocks-blocks.ensures.2 c.least_path-least.ensures in
    let room = ltb-false _ _ (sym c.too_short.ensures ∙ c.if-too_short.false) in
    (omega (arith, r.0, r.1, c.blocks-blocks.ensures.2, counted k.0), simp (length-take, length-drop) (omega (arith, room, whole, p.ensures.0, p.auto.out)))

pub returns : goal.returns
unfolding send_path blocks
returns c =
    let a = c.args in
    let j = job_of a.self.now in
    let k = c.in_ok-geometry.ensures in
    let bs = c.blocks-blocks.result in
    let b = c.block-new in
    let p = c.put_successor-from in
    let hs = sent_path (plain digest) bs.count (cut bs.len bs.bytes.now) (a.number - 1) in
    let h = sym (length-sent-path (plain digest) length-digest bs.count (cut bs.len bs.bytes.now) (a.number - 1)) in
    let whole = path-parts k.0 _ k.1 b.ensures _ _ c.blocks-blocks.ensures.2 c.least_path-least.ensures in
    let room : c.least_path-least.result + length a.signature.now ≤ length a.out.now = ltb-false _ _ (sym c.too_short.ensures ∙ c.if-too_short.false) in
    let begun = head j 4 a.number b.result.now a.out.now c.to_manifest-manifest.ensures p.ensures.0 p.ensures.1 in
    let joined = put-part-more begun hs _ c.least_path-least.result (omega (arith, h, whole, p.ensures.0)) (omega (arith, room)) (rw h at c.write_path.ensures) in
    all-written-at _ _ _ k.0 _ k.1 (put-more joined a.signature.now _ room refl c.copy.ensures)
    (path-is j a.number b.result.now a.signature.now (own k.0 _ k.1 b.ensures) bs.count hs c.blocks-blocks.ensures.2 (rw (c.blocks-blocks.ensures.0, c.blocks-blocks.ensures.1) refl)) room
