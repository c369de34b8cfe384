use Rattle.std.proofs.Common.{◌≡◌, [], length, ◌+◌, ◌≤◌, sym, ◌∙◌, arith, ltb-true}
use Rattle.octets.proofs.BigEndianLaws.{be_bytes_32}
use Rattle.sha256.specs.Sha256.{digest}
use Rattle.sender.specs.Given.{job_of}
use Rattle.sender.proofs.BlockLaws.{size}
use Rattle.sender.proofs.SendLaws.{refused, area-refused, all-written}
use Rattle.wire.proofs.PutLaws.{length-put}
use Rattle.bundle.specs.Parts.{trailer_length}
use Rattle.bundle.specs.Bundle.{bundle_for, send_bundle}
use Rattle.bundle.proofs.PackLaws.{room-for, begun, length-bundle, program-behind, trailer-behind}
use Rattle.bundle.proofs.packing.pack.Goals as goal

pub returns-in_err-geometry : goal.returns-in_err-geometry
unfolding send_bundle
returns-in_err-geometry c = refused _ _ _ _ c.from_residual.ensures.1 c.in_err-geometry.ensures

pub returns-then-too_short : goal.returns-then-too_short
unfolding send_bundle
returns-then-too_short c =
    let a = c.args in
    let j = job_of a.job.now in
    let e = ltb-true (length a.out.now) _ (sym c.too_short.ensures ∙ c.if-too_short.true) in
    area-refused _ _ _ c.in_ok-geometry.ensures (omega (arith, length-bundle j a.signature.now c.in_ok-geometry.ensures _ c.unsigned_len-least.ensures))

pub put_blocks-at-requires : goal.put_blocks-at-requires
put_blocks-at-requires c =
    let a = c.args in
    let j = job_of a.job.now in
    let k = c.in_ok-geometry.ensures in
    record { lengths = k; room = room-for j a.signature.now k a.out.now c.unsigned_len-least.ensures c.too_short.ensures c.if-too_short.false }

pub slice_bounds-program-count : goal.slice_bounds-program-count
slice_bounds-program-count c =
    let a = c.args in
    let j = job_of a.job.now in
    let b = begun j a.signature.now c.in_ok-geometry.ensures a.out.now c.unsigned_len-least.ensures c.too_short.ensures c.if-too_short.false c.put_blocks-at.ensures in
    omega (arith, b.room, length-put b.put (omega (arith, b.room)))

pub slice_bounds-program-start : goal.slice_bounds-program-start
slice_bounds-program-start c =
    let a = c.args in
    let j = job_of a.job.now in
    let b = begun j a.signature.now c.in_ok-geometry.ensures a.out.now c.unsigned_len-least.ensures c.too_short.ensures c.if-too_short.false c.put_blocks-at.ensures in
    omega (arith, b.room, length-put b.put (omega (arith, b.room)))

-- and the kind 1 message behind them
pub overflow_add-end : goal.overflow_add-end
overflow_add-end c =
    let a = c.args in
    let j = job_of a.job.now in
    let b = begun j a.signature.now c.in_ok-geometry.ensures a.out.now c.unsigned_len-least.ensures c.too_short.ensures c.if-too_short.false c.put_blocks-at.ensures in
    let p = program-behind _ (size c.in_ok-geometry.ensures) c.sent_len-distance.ensures b.put j.model j.serial a.signature.now (omega (arith, b.room)) c.program.ensures in
    omega (arith, b.room, p.0)

pub copy-requires : goal.copy-requires
copy-requires c =
    let a = c.args in
    let j = job_of a.job.now in
    let b = begun j a.signature.now c.in_ok-geometry.ensures a.out.now c.unsigned_len-least.ensures c.too_short.ensures c.if-too_short.false c.put_blocks-at.ensures in
    let p = program-behind _ (size c.in_ok-geometry.ensures) c.sent_len-distance.ensures b.put j.model j.serial a.signature.now (omega (arith, b.room)) c.program.ensures in
    omega (arith, b.room, p.0, length-put p.1 (omega (arith, b.room, p.0)))

pub overflow_add-result : goal.overflow_add-result
overflow_add-result c =
    let a = c.args in
    let j = job_of a.job.now in
    let b = begun j a.signature.now c.in_ok-geometry.ensures a.out.now c.unsigned_len-least.ensures c.too_short.ensures c.if-too_short.false c.put_blocks-at.ensures in
    let p = program-behind _ (size c.in_ok-geometry.ensures) c.sent_len-distance.ensures b.put j.model j.serial a.signature.now (omega (arith, b.room)) c.program.ensures in
    omega (arith, b.room, p.0)

pub returns : goal.returns
unfolding send_bundle
returns c =
    let a = c.args in
    let j = job_of a.job.now in
    let k = c.in_ok-geometry.ensures in
    let b = begun j a.signature.now c.in_ok-geometry.ensures a.out.now c.unsigned_len-least.ensures c.too_short.ensures c.if-too_short.false c.put_blocks-at.ensures in
    let p = program-behind _ (size c.in_ok-geometry.ensures) c.sent_len-distance.ensures b.put j.model j.serial a.signature.now (omega (arith, b.room)) c.program.ensures in
    let end = c.put_blocks-at.result + c.sent_len-distance.result in
    let fits : end + trailer_length ≤ length a.out.now = omega (arith, b.room, p.0) in
    let l : length (bundle_for digest j [] a.signature.now) ≡ end + trailer_length = length-bundle j a.signature.now k _ c.unsigned_len-least.ensures ∙ omega (arith, b.length_is, p.0) in
    all-written _ _ _ k (end + trailer_length) _ l fits (trailer-behind j a.signature.now k p.1 p.0 (c.to_be_bytes.ensures ∙ be_bytes_32 _) fits c.copy.ensures)
