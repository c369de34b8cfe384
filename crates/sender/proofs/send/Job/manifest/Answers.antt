use Rattle.std.proofs.Common.{arith}
use Rattle.wire.specs.Manifest.{manifest_length}
use Rattle.sender.specs.Given.{job_of}
use Rattle.sender.specs.Send.{send_manifest}
use Rattle.sender.proofs.JobLaws.{length-manifest}
use Rattle.sender.proofs.SendLaws.{refused, area-refused, all-written}
use Rattle.sender.proofs.send.Job.manifest.Goals as goal

pub returns-in_err-geometry : goal.returns-in_err-geometry
unfolding send_manifest
returns-in_err-geometry c = refused _ _ _ _ c.from_residual.ensures.1 c.in_err-geometry.ensures

pub returns-then-out-lt-MANIFEST_LEN : goal.returns-then-out-lt-MANIFEST_LEN
unfolding send_manifest
returns-then-out-lt-MANIFEST_LEN c = area-refused _ _ _ c.in_ok-geometry.ensures (omega (arith, length-manifest (job_of c.args.self.now)))

pub returns : goal.returns
unfolding send_manifest
returns c =
    all-written _ _ _ c.in_ok-geometry.ensures manifest_length _ (length-manifest (job_of c.args.self.now)) (omega arith) (rw c.to_manifest.ensures at c.put_manifest.ensures)
