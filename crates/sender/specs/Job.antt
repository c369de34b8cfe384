-- What the sender is given, and the manifest and messages for it (01, 'Slip, messages, state').
use Rattle.std.specs.Prelude.{List, ℕ, pred, length}
use Rattle.merkle.specs.Blocks.{block_count, cut}
use Rattle.merkle.specs.Hash.{plain, root_over}
use Rattle.merkle.specs.Path.{sent_path}
use Rattle.merkle.specs.Held.{sent}
use Rattle.wire.specs.declared.manifest.Manifest.{Manifest}
use Rattle.wire.specs.Message.{program_message, block_message, update_message, path_message}

-- an image and its L: all that a block message is made of
pub record Image : Type 0 where
  pub bytes : List ℕ
  pub block_len : ℕ

abbrev pub in_blocks : List ℕ → ℕ → Image
in_blocks bytes L = record { bytes = bytes; block_len = L }

-- image, L, model and serial
pub record Job : Type 0 where
  pub image : Image
  pub model : ℕ
  pub serial : ℕ

abbrev pub job : Image → ℕ → ℕ → Job
job image model serial = record { image = image; model = model; serial = serial }

-- an image's block count n
unfoldable pub count : Image → ℕ
count x = block_count x.block_len (length x.bytes)

-- an image's blocks, by the number of blocks before; the last one ends with the image
unfoldable pub blocks : Image → ℕ → List ℕ
blocks x = cut x.block_len x.bytes

-- H is SHA-256; the tree's laws hold for any hash function
module _ (H : List ℕ → List ℕ) where
  -- the root of the tree over an image's blocks
  unfoldable pub root_of : Image → List ℕ
  root_of x = root_over (plain H) (blocks x) (count x)

  unfoldable pub manifest_for : Job → Manifest
  manifest_for j =
      let x = j.image in
      record { version = 1; block_len = x.block_len; model = j.model; serial = j.serial; image_len = length x.bytes; root = root_of x }

  unfoldable pub program_for : Job → List ℕ → List ℕ
  program_for j signature = program_message (manifest_for j) signature

  -- block message i, from 1
  unfoldable pub block_for : Image → ℕ → List ℕ
  block_for x i = block_message i (blocks x (pred i)) (sent (plain H) (count x) (blocks x) (pred i))

  -- the update, kind 3, to this image of block i, from 1
  unfoldable pub update_for : Job → ℕ → List ℕ → List ℕ
  update_for j i signature = update_message (manifest_for j) i (blocks j.image (pred i)) signature

  -- the path update, kind 4, to this image of block i, from 1
  unfoldable pub path_for : Job → ℕ → List ℕ → List ℕ
  path_for j i signature = let x = j.image in path_message (manifest_for j) i (blocks x (pred i)) (sent_path (plain H) (count x) (blocks x) (pred i)) signature
