-- Cases worked out by hand: document 01's, with the limit of change 6 of 02, and one for change 2.
use Rattle.std.specs.Prelude.{◌≡◌, ◌≢◌, true, false, List, [], ◌∷◌, ◌++◌, ℕ, zero, suc, length, drop}
use Rattle.sha256.specs.Sha256.{digest}
use Rattle.merkle.specs.Blocks.{block_count}
use Rattle.merkle.specs.Hash.{plain, root_over}
use Rattle.merkle.specs.Frontier.{carried_count, held_count}
use Rattle.wire.specs.Size.{wrong_size}
use Rattle.wire.specs.Geometry.{block_length}
use Rattle.wire.specs.Message.{due_length, least_update, least_path}
use Rattle.sender.specs.Job.{Image, in_blocks, job, block_for}
use Rattle.sender.specs.Send.{sent_number, send_manifest, send_program, send_block, send_update, send_path}

-- "For n = 3 this is source document 000's figure 2": blocks 1 and 2 under one node, block 3 beside it.
abbrev pub Figure2 : Type 0
Figure2 = (H : List ℕ → List ℕ) (f : ℕ → List ℕ) → root_over (plain H) f 3 ≡ H (H (H (f 0) ++ H (f 1)) ++ H (f 2))

-- f at first, first + 1, .. : as many values as asked for
unfoldable pub values : ℕ → ℕ → (ℕ → ℕ) → List ℕ
values zero first f = []
values (suc many) first f = f first ∷ values many (suc first) f

-- The number of the sender's answer, whatever it is asked to make of the image and whatever the buffer, is one of these.
pub record Answers (these : ℕ → Type 0) (x : Image) : Type 0 where
  pub manifest : (model serial : ℕ) (out : List ℕ) → these (sent_number (send_manifest (job x model serial) out).answer)
  pub program : (model serial : ℕ) (signature out : List ℕ) → these (sent_number (send_program (job x model serial) signature out).answer)
  pub block : (i : ℕ) (out : List ℕ) → these (sent_number (send_block x i out).answer)
  pub update : (model serial i : ℕ) (signature out : List ℕ) → these (sent_number (send_update (job x model serial) i signature out).answer)
  pub path : (model serial i : ℕ) (signature out : List ℕ) → these (sent_number (send_path (job x model serial) i signature out).answer)

-- "Counts worked out by hand. Marked * for proof": messages are counted from 1, held hashes after 0, 1, .. blocks; eight blocks of 256 bytes are 2,048 bytes.
-- 02, change 6: "T = 393,216 with L = 256 passes and 393,217 is refused 5": the rows with `wrong_size` are of the test of refusal 5, which device and sender share;
-- the two behind them are of the sender's answers, for every image of these lengths.
abbrev pub Starred : Type 0
Starred =
    (values 1 1 (carried_count 1) ≡ 0 ∷ [])
    × (values 3 1 (carried_count 3) ≡ 2 ∷ 0 ∷ 0 ∷ [])
    × (values 5 1 (carried_count 5) ≡ 3 ∷ 0 ∷ 1 ∷ 0 ∷ 0 ∷ [])
    × (values 7 1 (carried_count 7) ≡ 3 ∷ 0 ∷ 1 ∷ 0 ∷ 2 ∷ 0 ∷ 0 ∷ [])
    × (values 8 1 (carried_count 8) ≡ 3 ∷ 0 ∷ 1 ∷ 0 ∷ 2 ∷ 0 ∷ 1 ∷ 0 ∷ [])
    × (values 9 0 (held_count 8) ≡ 1 ∷ 3 ∷ 2 ∷ 2 ∷ 1 ∷ 2 ∷ 1 ∷ 1 ∷ 0 ∷ [])
    × (values 4 0 (held_count 3) ≡ 1 ∷ 2 ∷ 1 ∷ 0 ∷ [])
    × (block_count 256 256 ≡ 1)
    × (block_count 256 257 ≡ 2)
    × (wrong_size 256 393216 ≡ false)
    × (wrong_size 256 393217 ≡ true)
    × ((image : List ℕ) → length image ≡ 393216 → Answers (λ number. number ≢ 5) (in_blocks image 256))
    × ((image : List ℕ) → length image ≡ 393217 → Answers (λ number. number ≡ 5) (in_blocks image 256))
    × (block_count 256 2048 ≡ 8)
    × (due_length 256 2048 1 ≡ 355)
    × (due_length 256 2048 2 ≡ 259)

-- 02, change 2, with T inside a block, T = 257 and L = 256: the blocks have 256 bytes and 1, message 1 has 3 + 256 + 32 and message 2 has 3 + 1; an update of block 2
-- has at least 51 + 1, and by a path 32 more. Of every such image message 2 carries the last byte.
abbrev pub LastByte : Type 0
LastByte =
    (values 2 1 (block_length 256 257) ≡ 256 ∷ 1 ∷ [])
    × (values 2 1 (due_length 256 257) ≡ 291 ∷ 4 ∷ [])
    × (least_update 256 257 2 ≡ 52)
    × (least_path 256 257 2 ≡ 84)
    × ((image : List ℕ) → length image ≡ 257 → block_for digest (in_blocks image 256) 2 ≡ 2 ∷ 0 ∷ 2 ∷ drop 256 image)
