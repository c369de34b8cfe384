-- The lengths of what the sender writes: manifest and messages are as long as the papers say.
use mathlib.Core.Path.{◌≡◌, ap, ◌∙◌}
use mathlib.Core.List.{List, ◌++◌}
use Prim.Native.Nat.{ℕ, suc, pred, ◌+◌, ◌-◌, ◌<◌}
use native.Mathlib.Omega.{arith}
use lib.ListN.{length}
use Rattle.sha256.specs.Sha256.{digest}
use Rattle.sha256.proofs.DigestLaws.{length-digest}
use Rattle.merkle.specs.Limits.{hash_length}
use Rattle.merkle.specs.Blocks.{block_count}
use Rattle.merkle.specs.Shape.{shape}
use Rattle.merkle.specs.Hash.{plain}
use Rattle.merkle.specs.Frontier.{carried_count}
use Rattle.merkle.specs.Path.{sent_path}
use Rattle.merkle.specs.Held.{sent}
use Rattle.merkle.proofs.HashLaws.{length-hash}
use Rattle.merkle.proofs.FitsLaws.{length-sent}
use Rattle.merkle.proofs.PathWritingLaws.{length-sent-path}
use Rattle.wire.specs.declared.kind.Kind.TheVariants.{Program}
use Rattle.wire.specs.Manifest.{manifest_length, written}
use Rattle.wire.specs.Geometry.{block_length}
use Rattle.wire.specs.Message.{least_length, due_length, least_update, least_path, successor_head, block_message}
use Rattle.wire.proofs.SizeLaws.{inside}
use Rattle.wire.proofs.ManifestLaws.{length-written}
use Rattle.wire.proofs.GeometryLaws.{length_cut}
use Rattle.wire.proofs.MessageLaws.{program-size, block_size, update-size, path-size, update-whole, path-whole}
use Rattle.sender.specs.Job.{Image, Job, count, blocks, root_of, manifest_for, program_for, block_for, update_for, path_for}
use Rattle.sender.specs.Claims.{AllLengths}

-- an image, and block i of it
module _ (x : Image) (i : ℕ) (low : 0 < i) where
  pub length-one : length (blocks x (pred i)) ≡ block_length x.block_len (length x.bytes) i
  unfolding blocks
  length-one =
      let e : suc (pred i) ≡ i = omega arith in
      length_cut x.block_len x.bytes (pred i) ∙ ap (block_length x.block_len (length x.bytes)) e

  pub length-block : length (block_for digest x i) ≡ due_length x.block_len (length x.bytes) i
  unfolding block_for due_length count
  length-block =
      let n = block_count x.block_len (length x.bytes) in
      let e : suc (pred i) ≡ i = omega arith in
      block_size i (blocks x (pred i)) (sent (plain digest) n (blocks x) (pred i))
      ∙ omega (arith, length-one, length-sent (plain digest) length-digest n (blocks x) (pred i), ap (carried_count n) e)

module _ (j : Job) where
  pub length-root : length (manifest_for digest j).root ≡ hash_length
  unfolding manifest_for root_of
  length-root = length-hash (plain digest) length-digest (blocks j.image) 0 (shape (count j.image))

  pub length-manifest : length (written (manifest_for digest j)) ≡ manifest_length
  length-manifest = length-written (manifest_for digest j) length-root

  pub length-program : (signature : List ℕ) → length (program_for digest j signature) ≡ least_length Program + length signature
  unfolding program_for
  length-program signature = program-size (manifest_for digest j) length-root signature

  module _ (i : ℕ) (low : 0 < i) where
    pub length-update : (signature : List ℕ) → length (update_for digest j i signature) ≡ least_update j.image.block_len (length j.image.bytes) i + length signature
    unfolding update_for least_update
    length-update signature =
        update-size (manifest_for digest j) length-root signature i (blocks j.image (pred i)) ∙ omega (arith, length-one j.image i low)

    pub length-path : (signature : List ℕ) → length (path_for digest j i signature) ≡ least_path j.image.block_len (length j.image.bytes) i + length signature
    unfolding path_for least_path least_update count
    length-path signature =
        let x = j.image in
        path-size (manifest_for digest j) length-root signature i (blocks x (pred i)) (sent_path (plain digest) (count x) (blocks x) (pred i))
        ∙ omega (arith, length-one x i low, length-sent-path (plain digest) length-digest (count x) (blocks x) (pred i))

pub lengths : AllLengths
lengths j =
    let x = j.image in
    record {
      manifest = length-manifest j;
      program = length-program j;
      block = λ z i o. length-block x i (inside (count x) i o).0;
      update = λ z i o. length-update j i (inside (count x) i o).0;
      path = λ z i o. length-path j i (inside (count x) i o).0;
    }

-- a block's message, from the parts that the code writes
pub block_is : (x : Image) (n i : ℕ) (block hashes : List ℕ) → n ≡ count x → block ≡ blocks x (pred i)
    → hashes ≡ sent (plain digest) n (blocks x) (i - 1) → block_message i block hashes ≡ block_for digest x i
unfolding block_for
block_is x n i block hashes e f g = let p : pred i ≡ i - 1 = omega arith in cc

-- the updates, from the parts that the code writes: head, block, siblings, signature
module _ (j : Job) (i : ℕ) (block signature : List ℕ) (e : block ≡ blocks j.image (pred i)) where
  pub update-is : successor_head 3 (manifest_for digest j) i block ++ signature ≡ update_for digest j i signature
  unfolding update_for
  update-is = update-whole (manifest_for digest j) i block signature ∙ cc

  pub path-is : (n : ℕ) (siblings : List ℕ) → n ≡ count j.image → siblings ≡ sent_path (plain digest) n (blocks j.image) (i - 1)
      → (successor_head 4 (manifest_for digest j) i block ++ siblings) ++ signature ≡ path_for digest j i signature
  unfolding path_for
  path-is n siblings en es = let p : pred i ≡ i - 1 = omega arith in path-whole (manifest_for digest j) i block siblings signature ∙ cc
