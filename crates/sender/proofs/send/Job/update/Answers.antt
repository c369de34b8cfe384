use Rattle.std.proofs.Common.{length, sym, ◌∙◌, ◌+◌, ◌≤◌, refl, arith, ltb-true, ltb-false}
use Rattle.wire.specs.Message.{least_update}
use Rattle.wire.proofs.PutLaws.{put-more}
use Rattle.sender.specs.Given.{job_of}
use Rattle.sender.specs.Send.{send_update}
use Rattle.sender.proofs.BlockLaws.{in-range, fits-number, own, one, update-long}
use Rattle.sender.proofs.JobLaws.{update-is}
use Rattle.sender.proofs.SendLaws.{refused-at, area-refused-at, all-written-at, head}
use Rattle.sender.proofs.send.Job.update.Goals as goal

pub returns-in_err-geometry : goal.returns-in_err-geometry
unfolding send_update
returns-in_err-geometry c = refused-at _ _ _ _ _ c.from_residual.ensures.1 c.in_err-geometry.ensures

pub least_update-least-requires : goal.least_update-least-requires
least_update-least-requires c = let k = c.in_ok-geometry.ensures in in-range k.0 _ k.1

pub returns-then-too_short : goal.returns-then-too_short
unfolding send_update
returns-then-too_short c =
    let a = c.args in
    let k = c.in_ok-geometry.ensures in
    let e = ltb-true (length a.out.now) _ (sym c.too_short.ensures ∙ c.if-too_short.true) in
    area-refused-at _ _ _ k.0 _ k.1 (omega (arith, e, update-long (job_of a.self.now) k.0 _ k.1 a.signature.now _ c.least_update-least.ensures))

pub block-new-requires : goal.block-new-requires
block-new-requires c = let k = c.in_ok-geometry.ensures in let r = in-range k.0 _ k.1 in (omega (arith, r.0), omega (arith, r.0, r.1), omega (arith, k.0.image_len))

pub overflow_cast-number : goal.overflow_cast-number
overflow_cast-number c = let k = c.in_ok-geometry.ensures in omega (arith, fits-number k.0 _ k.1)

pub put_successor-from-requires : goal.put_successor-from-requires
unfolding least_update
put_successor-from-requires c =
    let k = c.in_ok-geometry.ensures in
    omega (arith, ltb-false _ _ (sym c.too_short.ensures ∙ c.if-too_short.false), one k.0 _ k.1 c.block-new.ensures, c.least_update-least.ensures)

pub copy-requires : goal.copy-requires
unfolding least_update
copy-requires c =
    let k = c.in_ok-geometry.ensures in
    let p = c.put_successor-from in
    omega (arith, ltb-false _ _ (sym c.too_short.ensures ∙ c.if-too_short.false), one k.0 _ k.1 c.block-new.ensures, c.least_update-least.ensures, p.ensures.0, p.auto.out)

pub returns : goal.returns
unfolding send_update least_update
returns c =
    let a = c.args in
    let j = job_of a.self.now in
    let k = c.in_ok-geometry.ensures in
    let b = c.block-new in
    let p = c.put_successor-from in
    let e = ltb-false _ _ (sym c.too_short.ensures ∙ c.if-too_short.false) in
    let room : p.result + length a.signature.now ≤ length a.out.now = omega (arith, e, one k.0 _ k.1 b.ensures, c.least_update-least.ensures, p.ensures.0) in
    all-written-at _ _ _ k.0 _ k.1
    (put-more (head j 3 a.number b.result.now a.out.now c.to_manifest-manifest.ensures p.ensures.0 p.ensures.1) a.signature.now _ room refl c.copy.ensures)
    (update-is j a.number b.result.now a.signature.now (own k.0 _ k.1 b.ensures)) room
