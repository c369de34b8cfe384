-- What a device reads in the messages that the sender writes for a job.
use Rattle.std.proofs.Common.{◌≡◌, ap, ◌∙◌, List, ℕ, suc, ◌*◌, ◌≤◌, ◌<◌, mul-le-mul_right, arith, length}
use Rattle.merkle.specs.Limits.{max_blocks, hash_length}
use Rattle.merkle.specs.Blocks.{block_count}
use Rattle.merkle.specs.Shape.{shape}
use Rattle.merkle.specs.Held.{sent}
use Rattle.merkle.specs.Hash.{plain}
use Rattle.merkle.proofs.HashLaws.{length-hash}
use Rattle.merkle.proofs.FitsLaws.{length-sent}
use Rattle.wire.specs.declared.kind.Kind.TheVariants.{Block}
use Rattle.wire.specs.Manifest.{read, written, Fits}
use Rattle.wire.specs.Geometry.{block_length}
use Rattle.wire.specs.Message.{kind, manifest_bytes, manifest_in, number_in, block_in, hashes_after, due_length}
use Rattle.wire.proofs.SizeLaws.{Sized, sized}
use Rattle.wire.proofs.ManifestLaws.{read-written}
use Rattle.wire.proofs.GeometryLaws.{length_cut}
use Rattle.wire.proofs.MessageLaws.{of-block}
use Rattle.sender.specs.Job.{Job, count, blocks, root_of, manifest_for, block_for}
use Rattle.guarantee.specs.Demand3.{Sendable}

module _ (H : List ℕ → List ℕ) (hash-long : (x : List ℕ) → length (H x) ≡ hash_length) (job : Job) (ok : Sendable job) where
  job-sized : Sized job.image.block_len (length job.image.bytes)
  job-sized = sized job.image.block_len (length job.image.bytes) ok.size

  pub count-some : 0 < count job.image
  unfolding count
  count-some = job-sized.first

  pub count_most : count job.image ≤ max_blocks
  unfolding count
  count_most = job-sized.count

  pub job-enough : length job.image.bytes ≤ count job.image * job.image.block_len
  unfolding count
  job-enough = job-sized.above

  pub block-length : (j : ℕ) → length (blocks job.image j) ≡ block_length job.image.block_len (length job.image.bytes) (suc j)
  unfolding blocks
  block-length j = length_cut job.image.block_len job.image.bytes j

  pub root-long : length (manifest_for H job).root ≡ hash_length
  unfolding manifest_for root_of
  root-long = length-hash (plain H) hash-long (blocks job.image) 0 (shape (count job.image))

  manifest-fits : Fits (manifest_for H job)
  unfolding manifest_for
  manifest-fits =
      let z = job-sized in
      let m : block_count job.image.block_len (length job.image.bytes) * job.image.block_len ≤ max_blocks * job.image.block_len = mul-le-mul_right job.image.block_len z.count in
      record { version = omega arith; block_len = omega arith; model = ok.model; serial = ok.serial; image_len = omega arith; root = root-long }

  -- a message with exactly the job's manifest
  pub manifest-is : (m : List ℕ) → manifest_bytes m ≡ written (manifest_for H job) → manifest_in m ≡ manifest_for H job
  unfolding manifest_in
  manifest-is m e = ap read e ∙ read-written (manifest_for H job) manifest-fits

  -- the sender's message of block j + 1
  pub record Sent (j : ℕ) (m : List ℕ) : Type 0 where
    pub is : kind m ≡ Block
    pub number : number_in m ≡ suc j
    pub block : block_in (block_length job.image.block_len (length job.image.bytes) (suc j)) m ≡ blocks job.image j
    pub after : hashes_after (block_length job.image.block_len (length job.image.bytes) (suc j)) m ≡ sent (plain H) (count job.image) (blocks job.image) j
    pub size : length m ≡ due_length job.image.block_len (length job.image.bytes) (suc j)

  pub block-sent : (j : ℕ) → j < count job.image → Sent j (block_for H job.image (suc j))
  unfolding block_for due_length count
  block-sent j h =
      let most = count_most in
      let long = block-length j in
      let r = of-block (suc j) (blocks job.image j) (sent (plain H) (count job.image) (blocks job.image) j) (omega arith) in
      record {
        is = r.is;
        number = r.number;
        block = rw long at r.blocks;
        after = rw long at r.after;
        size = r.size ∙ omega (arith, length-sent (plain H) hash-long (count job.image) (blocks job.image) j);
      }
