-- What the code's structs stand for: the sender's contracts speak of these.
use Rattle.std.specs.Prelude.{◌≡◌, length}
use Rattle.wire.specs.declared.geometry.Geometry.{Geometry}
use Rattle.sender.specs.declared.send.Image as image
use Rattle.sender.specs.declared.send.Job as given
use Rattle.sender.specs.Job.{Image, Job, in_blocks, job}

abbrev pub image_of : image.Image → Image
image_of x = in_blocks x.bytes.now x.block_len

abbrev pub job_of : given.Job → Job
job_of j = job (image_of j.image) j.model j.serial

-- g has the lengths of an image and its blocks
pub record LengthsOf (x : Image) (g : Geometry) : Type 0 where
  pub block_len : g.block_len ≡ x.block_len
  pub image_len : g.image_len ≡ length x.bytes
