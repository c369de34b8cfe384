-- What the sender answers, and what it leaves in the caller's buffer. It refuses 5, 11, 8 in this order.
use Rattle.std.specs.Prelude.{◌≡◌, Bool, None, Some, Result, Ok, Err, List, [], ◌∷◌, ℕ, ltb, length}
use Rattle.sha256.specs.Sha256.{digest}
use Rattle.wire.specs.declared.refusal.Refusal.{Refusal}
use Rattle.wire.specs.declared.refusal.Refusal.TheVariants.{Size, Turn, Area}
use Rattle.wire.specs.Refusal.{refusal_number, first_that_applies}
use Rattle.wire.specs.Size.{wrong_size, outside}
use Rattle.wire.specs.Manifest.{written}
use Rattle.wire.specs.Message.{at_start}
use Rattle.sender.specs.Job.{Image, Job, count, manifest_for, program_for, block_for, update_for, path_for}

-- the sender's answer: how many bytes were written, or the refusal
abbrev pub Sent : Type 0
Sent = Result ℕ Refusal

abbrev pub Written : ℕ → Sent
Written k = Ok k

abbrev pub Refused : Refusal → Sent
Refused r = Err r

pub record SendOutcome : Type 0 where
  pub answer : Sent
  pub buffer : List ℕ

-- how many bytes an answer says were written
abbrev pub length_of : Sent → ℕ
length_of (Ok k) = k
length_of (Err r) = 0

-- the number of an answer: 0, or 01's number of the refusal
abbrev pub sent_number : Sent → ℕ
sent_number (Ok k) = 0
sent_number (Err r) = refusal_number r

-- A function does what s says: it returns the answer of s, in the form that its caller gets, and it leaves the buffer of s.
pub record Does {A : Type 0} (form : Sent → A) (s : SendOutcome) (answer : A) (buffer : List ℕ) : Type 0 where
  pub answered : answer ≡ form s.answer
  pub left : buffer ≡ s.buffer

-- the form of our own crates: the answer itself
abbrev pub as_is : Sent → Sent
as_is answer = answer

-- the bytes are written to the start of the buffer, and nothing else is; after a refusal nothing is written
unfoldable pub send : List (Refusal × Bool) → (bytes buffer : List ℕ) → SendOutcome
send refusals bytes buffer =
    elim (first_that_applies refusals) [
      | None ↦ record { answer = Written (length bytes); buffer = at_start bytes buffer }
      | Some r ↦ record { answer = Refused r; buffer = buffer }
    ]

unfoldable pub too_short : (bytes buffer : List ℕ) → Bool
too_short bytes buffer = ltb (length buffer) (length bytes)

-- manifest and message of kind 1 have no number
unfoldable pub unnumbered : Image → (bytes buffer : List ℕ) → SendOutcome
unnumbered x bytes buffer = send ((Size, wrong_size x.block_len (length x.bytes)) ∷ (Area, too_short bytes buffer) ∷ []) bytes buffer

unfoldable pub numbered : Image → ℕ → (bytes buffer : List ℕ) → SendOutcome
numbered x i bytes buffer =
    send ((Size, wrong_size x.block_len (length x.bytes)) ∷ (Turn, outside (count x) i) ∷ (Area, too_short bytes buffer) ∷ []) bytes buffer

-- the bare manifest, for signing, and a message of each kind
unfoldable pub send_manifest : Job → List ℕ → SendOutcome
send_manifest j buffer = unnumbered j.image (written (manifest_for digest j)) buffer

unfoldable pub send_program : Job → (signature buffer : List ℕ) → SendOutcome
send_program j signature buffer = unnumbered j.image (program_for digest j signature) buffer

unfoldable pub send_block : Image → ℕ → List ℕ → SendOutcome
send_block x i buffer = numbered x i (block_for digest x i) buffer

unfoldable pub send_update : Job → ℕ → (signature buffer : List ℕ) → SendOutcome
send_update j i signature buffer = numbered j.image i (update_for digest j i signature) buffer

unfoldable pub send_path : Job → ℕ → (signature buffer : List ℕ) → SendOutcome
send_path j i signature buffer = numbered j.image i (path_for digest j i signature) buffer
