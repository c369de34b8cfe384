-- A bundle as the showroom makes it (01, 'Bundle and loader').
use Rattle.std.specs.Prelude.{List, [], ◌++◌, ℕ, suc, length}
use Rattle.octets.specs.Octets.{bytes, joined, up_to}
use Rattle.sha256.specs.Sha256.{digest}
use Rattle.sender.specs.Job.{Image, Job, count, program_for, block_for}
use Rattle.sender.specs.Send.{SendOutcome, unnumbered}
use Rattle.bundle.specs.Parts.{trailer_length}

module _ (H : List ℕ → List ℕ) where
  -- the sender's block messages from 1 to j, one behind the other
  unfoldable pub block_messages : Image → ℕ → List ℕ
  block_messages image j = joined (up_to j (λ i. block_for H image (suc i)))

  -- "the n block messages, any filler, the kind 1 message, and a 4-byte trailer: the distance back from the trailer's first byte to the kind 1 message's first
  -- byte"
  unfoldable pub bundle_for : Job → (filler signature : List ℕ) → List ℕ
  bundle_for job filler signature =
      let program = program_for H job signature in
      block_messages job.image (count job.image) ++ filler ++ program ++ bytes trailer_length (length program)

-- What `pack` answers, and what it leaves in the caller's buffer: a bundle without filler. It refuses 5 and 8, as the sender does.
unfoldable pub send_bundle : Job → (signature buffer : List ℕ) → SendOutcome
send_bundle job signature buffer = unnumbered job.image (bundle_for digest job [] signature) buffer
