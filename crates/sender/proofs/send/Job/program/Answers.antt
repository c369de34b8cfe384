use Rattle.std.proofs.Common.{◌+◌, ◌≤◌, length, sym, ◌∙◌, arith, ltb-true, ltb-false}
use Rattle.wire.specs.declared.kind.Kind.TheVariants.{Program}
use Rattle.wire.specs.Message.{least_length}
use Rattle.sender.specs.Job.{program_for}
use Rattle.sender.specs.Given.{job_of}
use Rattle.sender.specs.Send.{send_program}
use Rattle.sender.proofs.JobLaws.{length-program}
use Rattle.sender.proofs.SendLaws.{refused, area-refused, all-written}
use Rattle.sender.proofs.send.Job.program.Goals as goal

pub returns-in_err-geometry : goal.returns-in_err-geometry
unfolding send_program
returns-in_err-geometry c = refused _ _ _ _ c.from_residual.ensures.1 c.in_err-geometry.ensures

pub returns-then-too_short : goal.returns-then-too_short
unfolding send_program
returns-then-too_short c =
    let a = c.args in
    let e = ltb-true (length a.out.now) _ (sym c.too_short.ensures ∙ c.if-too_short.true) in
    area-refused _ _ _ c.in_ok-geometry.ensures (omega (arith, length-program (job_of a.self.now) a.signature.now, c.least_len-least.ensures))

pub returns : goal.returns
unfolding send_program program_for
returns c =
    let a = c.args in
    let j = job_of a.self.now in
    let least = c.least_len-least in
    let e = ltb-false (length a.out.now) _ (sym c.too_short.ensures ∙ c.if-too_short.false) in
    let room : least_length Program + length a.signature.now ≤ length a.out.now = omega (arith, least.ensures) in
    all-written _ _ _ c.in_ok-geometry.ensures (least.result + length a.signature.now) _
    (length-program j a.signature.now ∙ omega (arith, least.ensures)) (omega (arith, room, least.ensures)) (rw c.to_manifest.ensures at c.put_program.ensures)
