-- The kind of a message, and the parts of a message that was written.
use mathlib.Core.Path.{◌≡◌, refl, sym, ap, ◌∙◌}
use mathlib.Core.Bool.{false}
use mathlib.Core.List.{List, [], ◌∷◌, ◌++◌, map, append_assoc, append-nil}
use Prim.Native.Nat.{ℕ, ◌+◌, ◌-◌, ◌*◌, ◌^◌, ◌≤◌, ◌<◌}
use native.Mathlib.Omega.{arith}
use lib.ListN.{length, take, drop, length-drop}
use lib.Seq.{take_all}
use Rattle.octets.specs.Octets.{Bytes, bytes, part, joined}
use Rattle.octets.proofs.CopyLaws.{length_part, part-between, part-from}
use Rattle.octets.proofs.JoinedLaws.{total, joined_length, stands}
use Rattle.octets.proofs.NumberLaws.{length-bytes, part_bytes, number-back}
use Rattle.merkle.specs.Limits.{max_blocks, hash_length}
use Rattle.merkle.specs.Blocks.{block_count}
use Rattle.merkle.specs.Frontier.{carried_count}
use Rattle.wire.specs.declared.kind.Kind.TheVariants.{Program, Block, Update}
use Rattle.wire.specs.declared.manifest.Manifest.{Manifest}
use Rattle.wire.specs.Manifest.{manifest_length, written, read, Fits}
use Rattle.wire.specs.Size.{wrong_size}
use Rattle.wire.specs.Geometry.{block_length}
use Rattle.wire.specs.Message.{kind, kind_length, number_length, least_length, program_message, block_message, update_message, manifest_bytes, manifest_in, program_signature, number_in, block_in, hashes_after, update_number, update_block, update_signature, successor_head, path_message, path_in, path_signature, due_length, messages_length}
use Rattle.wire.specs.Claims.{OfProgram, ProgramBack, OfBlock, BlockBack, OfUpdate, UpdateBack, OfPath, PathBack}
use Rattle.wire.proofs.SizeLaws.{sized}
use Rattle.wire.proofs.ManifestLaws.{length-written, read_fits}

-- the parts of a message that is long enough for them
pub length-manifest : (m : List ℕ) → least_length Program ≤ length m → length (manifest_bytes m) ≡ manifest_length
unfolding manifest_bytes
length-manifest m h = length_part m kind_length manifest_length h

pub length-root : (m : List ℕ) → least_length Program ≤ length m → length (manifest_in m).root ≡ hash_length
unfolding manifest_in read
length-root m h = length_part (manifest_bytes m) 16 hash_length (omega (arith, length-manifest m h))

-- a manifest that is read from bytes has fields that fit theirs
pub manifest-fits : (m : List ℕ) → Bytes m → least_length Program ≤ length m → Fits (manifest_in m)
unfolding manifest_in manifest_bytes
manifest-fits m bytes h = read_fits (manifest_bytes m) (length-manifest m h) (part_bytes m bytes kind_length manifest_length h)

-- a range of a message and all behind an index, as the code slices them, and a manifest's bytes
pub ruleset parts = (part-between, part-from, length-manifest)

module _ (k : ℕ) (m : List ℕ) where
  pub length-block : least_length Block + k ≤ length m → length (block_in k m) ≡ k
  unfolding block_in
  length-block h = length_part m (least_length Block) k h

  pub length-hashes : length (hashes_after k m) ≡ length m - (least_length Block + k)
  unfolding hashes_after
  length-hashes = length-drop (least_length Block + k) m

  pub length-path-in : (d : ℕ) → least_length Update + k + hash_length * d ≤ length m → length (path_in k d m) ≡ hash_length * d
  unfolding path_in
  length-path-in d h = length_part m (least_length Update + k) (hash_length * d) h

  pub length-update-block : least_length Update + k ≤ length m → length (update_block k m) ≡ k
  unfolding update_block
  length-update-block h = length_part m (least_length Update) k h

-- what a message ends with: the k bytes from index at on
ends : (m : List ℕ) {x : List ℕ} (at k : ℕ) → length m ≡ at + k → part at k m ≡ x → drop at m ≡ x
ends m at k l e = sym (take_all k (drop at m) (rw (length-drop at m) (omega arith))) ∙ e

-- the parts of a message that was written, each in its place
module _ (s : Manifest) (root : length s.root ≡ hash_length) (signature : List ℕ) where
  abbrev program_parts : List (List ℕ)
  program_parts = (1 ∷ []) ∷ written s ∷ signature ∷ []

  abbrev program_lengths : List ℕ
  program_lengths = kind_length ∷ manifest_length ∷ length signature ∷ []

  program-long : map length program_parts ≡ program_lengths
  program-long = rw (length-written s root)

  pub program-size : length (program_message s signature) ≡ least_length Program + length signature
  unfolding program_message
  program-size = joined_length program_lengths program_parts program-long ∙ omega arith

  pub of-program : OfProgram s signature (program_message s signature)
  unfolding kind joined program_message manifest_bytes program_signature
  of-program =
      let at = stands program_lengths program_parts program-long in
      record {
        is = refl;
        manifest = at 1;
        signed = ends (program_message s signature) (least_length Program) (length signature) program-size (at 2);
        size = program-size;
      }

  module _ (i : ℕ) (block : List ℕ) where
    abbrev update_parts : List (List ℕ)
    update_parts = (3 ∷ []) ∷ written s ∷ bytes number_length i ∷ block ∷ signature ∷ []

    abbrev update_lengths : List ℕ
    update_lengths = kind_length ∷ manifest_length ∷ number_length ∷ length block ∷ length signature ∷ []

    update-long : map length update_parts ≡ update_lengths
    update-long = rw (length-written s root, length-bytes number_length i)

    pub update-size : length (update_message s i block signature) ≡ least_length Update + length block + length signature
    unfolding update_message
    update-size = joined_length update_lengths update_parts update-long ∙ omega arith

    pub of-update : i < 256 ^ number_length → OfUpdate s i block signature (update_message s i block signature)
    unfolding kind joined update_message manifest_bytes update_number update_block update_signature
    of-update few =
        let at = stands update_lengths update_parts update-long in
        let end : total (take 4 update_lengths) ≡ least_length Update + length block = omega arith in
        record {
          is = refl;
          manifest = at 1;
          number = number-back number_length i (at 2) few;
          blocks = at 3;
          signed = ends (update_message s i block signature) (least_length Update + length block) (length signature) update-size (rw end at (at 4));
          size = update-size;
        }

    -- kind 4, with the siblings between block and signature
    module _ (siblings : List ℕ) where
      abbrev path_parts : List (List ℕ)
      path_parts = (4 ∷ []) ∷ written s ∷ bytes number_length i ∷ block ∷ siblings ∷ signature ∷ []

      abbrev path_lengths : List ℕ
      path_lengths = kind_length ∷ manifest_length ∷ number_length ∷ length block ∷ length siblings ∷ length signature ∷ []

      path-long : map length path_parts ≡ path_lengths
      path-long = rw (length-written s root, length-bytes number_length i)

      pub path-size : length (path_message s i block siblings signature) ≡ least_length Update + length block + length siblings + length signature
      unfolding path_message
      path-size = joined_length path_lengths path_parts path-long ∙ omega arith

      pub of-path : (d : ℕ) → length siblings ≡ hash_length * d → i < 256 ^ number_length → OfPath s i block siblings signature d (path_message s i block siblings signature)
      unfolding kind joined path_message manifest_bytes update_number update_block path_in path_signature
      of-path d e few =
          let at = stands path_lengths path_parts path-long in
          let end : total (take 4 path_lengths) ≡ least_length Update + length block = omega arith in
          let last : total (take 5 path_lengths) ≡ least_length Update + length block + hash_length * d = omega arith in
          record {
            is = refl;
            manifest = at 1;
            number = number-back number_length i (at 2) few;
            blocks = at 3;
            path = rw (← e) (rw end at (at 4));
            signed = ends (path_message s i block siblings signature) (least_length Update + length block + hash_length * d) (length signature) (path-size ∙ omega arith) (rw last at (at 5));
            size = path-size ∙ omega arith;
          }

pub successor-size : (k : ℕ) (s : Manifest) → length s.root ≡ hash_length → (i : ℕ) (block : List ℕ) → length (successor_head k s i block) ≡ least_length Update + length block
unfolding successor_head
successor-size k s root i block =
    joined_length (kind_length ∷ manifest_length ∷ number_length ∷ length block ∷ []) ((k ∷ []) ∷ written s ∷ bytes number_length i ∷ block ∷ []) (rw (length-written s root, length-bytes number_length i)) ∙ omega arith

module _ (i : ℕ) (block hashes : List ℕ) where
  abbrev block_parts : List (List ℕ)
  block_parts = (2 ∷ []) ∷ bytes number_length i ∷ block ∷ hashes ∷ []

  abbrev block_lengths : List ℕ
  block_lengths = kind_length ∷ number_length ∷ length block ∷ length hashes ∷ []

  block_long : map length block_parts ≡ block_lengths
  block_long = rw (length-bytes number_length i)

  pub block_size : length (block_message i block hashes) ≡ least_length Block + length block + length hashes
  unfolding block_message
  block_size = joined_length block_lengths block_parts block_long ∙ omega arith

  pub of-block : i < 256 ^ number_length → OfBlock i block hashes (block_message i block hashes)
  unfolding kind joined block_message number_in block_in hashes_after
  of-block few =
      let at = stands block_lengths block_parts block_long in
      let end : total (take 3 block_lengths) ≡ least_length Block + length block = omega arith in
      record {
        is = refl;
        number = number-back number_length i (at 1) few;
        blocks = at 2;
        after = ends (block_message i block hashes) (least_length Block + length block) (length hashes) block_size (rw end at (at 3));
        size = block_size;
      }

-- the due length, from the count of the hashes as the code finds it
pub due-length : (L T i c : ℕ) → 0 < i → c ≡ carried_count (block_count L T) (i - 1 + 1) → least_length Block + block_length L T i + hash_length * c ≡ due_length L T i
unfolding due_length
due-length L T i c pos e =
    let z : i - 1 + 1 ≡ i = omega arith in
    ap (λ (x : ℕ). least_length Block + block_length L T i + hash_length * x) (e ∙ ap (carried_count (block_count L T)) z)

-- a block message of its due length: the block, and room for its hashes alone
pub record Due (L T i : ℕ) (m : List ℕ) : Type 0 where
  pub long : least_length Block + block_length L T i ≤ length m
  pub rest : length (hashes_after (block_length L T i) m) ≡ hash_length * carried_count (block_count L T) i

pub due : (L T i : ℕ) (m : List ℕ) → length m ≡ due_length L T i → Due L T i m
unfolding due_length
due L T i m e = record { long = omega arith; rest = length-hashes (block_length L T i) m ∙ omega arith }

-- all block messages together are not too many bytes for a number of the code
pub messages-few : (L T : ℕ) → wrong_size L T ≡ false → messages_length L T ≤ max_blocks * (least_length Block + 1024 + hash_length)
unfolding messages_length
messages-few L T e = let z = sized L T e in omega (arith, z.total, z.count)

-- messages as they are written, part behind part
pub program-parts : (s : Manifest) (signature : List ℕ) → (1 ∷ []) ++ written s ++ signature ≡ program_message s signature
unfolding joined program_message
program-parts s signature = simp (append_assoc, append-nil)

pub block-parts : (i : ℕ) (block : List ℕ) → (2 ∷ []) ++ bytes number_length i ++ block ≡ block_message i block []
unfolding joined block_message
block-parts i block = simp (append_assoc, append-nil)

pub successor-parts : (k : ℕ) (s : Manifest) (i : ℕ) (block : List ℕ) → (k ∷ []) ++ written s ++ bytes number_length i ++ block ≡ successor_head k s i block
unfolding joined successor_head
successor-parts k s i block = simp (append_assoc, append-nil)

-- an update up to its block, and with what follows
pub update-whole : (s : Manifest) (i : ℕ) (block signature : List ℕ) → successor_head 3 s i block ++ signature ≡ update_message s i block signature
unfolding joined successor_head update_message
update-whole s i block signature = simp (append_assoc, append-nil)

pub path-whole : (s : Manifest) (i : ℕ) (block siblings signature : List ℕ) → (successor_head 4 s i block ++ siblings) ++ signature ≡ path_message s i block siblings signature
unfolding joined successor_head path_message
path-whole s i block siblings signature = simp (append_assoc, append-nil)

-- a block message up to its hashes, and with them
pub block-whole : (i : ℕ) (block hashes : List ℕ) → block_message i block [] ++ hashes ≡ block_message i block hashes
unfolding joined block_message
block-whole i block hashes = simp (append_assoc, append-nil)

-- what a reader is told of the four
pub program-back : ProgramBack
program-back = of-program

pub block_back : BlockBack
block_back = of-block

pub update-back : UpdateBack
update-back s root signature i block = of-update s root signature i block

pub path-back : PathBack
path-back s root signature i block siblings d e = of-path s root signature i block siblings d e
