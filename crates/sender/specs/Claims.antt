-- What is shown of the definitions (in proofs/): manifest and messages are as long as the papers say.
use Rattle.std.specs.Prelude.{◌≡◌, false, List, ℕ, ◌+◌, length}
use Rattle.sha256.specs.Sha256.{digest}
use Rattle.wire.specs.declared.kind.Kind.TheVariants.{Program}
use Rattle.wire.specs.Size.{wrong_size, outside}
use Rattle.wire.specs.Manifest.{manifest_length, written}
use Rattle.wire.specs.Message.{least_length, due_length, least_update, least_path}
use Rattle.sender.specs.Job.{Job, count, manifest_for, program_for, block_for, update_for, path_for}

pub record Lengths (j : Job) : Type 0 where
  pub manifest : length (written (manifest_for digest j)) ≡ manifest_length
  pub program : (signature : List ℕ) → length (program_for digest j signature) ≡ least_length Program + length signature
  -- messages with a number, where neither the image is refused 5 nor the number 11
  pub block : wrong_size j.image.block_len (length j.image.bytes) ≡ false → (i : ℕ) → outside (count j.image) i ≡ false
      → length (block_for digest j.image i) ≡ due_length j.image.block_len (length j.image.bytes) i
  pub update : wrong_size j.image.block_len (length j.image.bytes) ≡ false → (i : ℕ) → outside (count j.image) i ≡ false → (signature : List ℕ)
      → length (update_for digest j i signature) ≡ least_update j.image.block_len (length j.image.bytes) i + length signature
  pub path : wrong_size j.image.block_len (length j.image.bytes) ≡ false → (i : ℕ) → outside (count j.image) i ≡ false → (signature : List ℕ)
      → length (path_for digest j i signature) ≡ least_path j.image.block_len (length j.image.bytes) i + length signature

abbrev pub AllLengths : Type 0
AllLengths = (j : Job) → Lengths j
