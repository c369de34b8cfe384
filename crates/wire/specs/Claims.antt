-- What is shown of the definitions (in proofs/).
use Rattle.std.specs.Prelude.{◌≡◌, false, List, ℕ, ◌+◌, ◌-◌, ◌*◌, ◌^◌, ◌≤◌, ◌<◌, length}
use Rattle.octets.specs.Octets.{Bytes}
use Rattle.merkle.specs.Limits.{hash_length}
use Rattle.merkle.specs.Blocks.{block_count}
use Rattle.merkle.specs.Cost.{most_cost}
use Rattle.wire.specs.declared.kind.Kind.TheVariants.{Program, Block, Update, PathUpdate}
use Rattle.wire.specs.declared.manifest.Manifest.{Manifest}
use Rattle.wire.specs.Manifest.{manifest_length, written, read, Fits}
use Rattle.wire.specs.Size.{wrong_size}
use Rattle.wire.specs.Geometry.{count_of, block_length}
use Rattle.wire.specs.Message.{kind, number_length, program_message, block_message, update_message, least_length, manifest_bytes, program_signature, number_in, block_in, hashes_after, update_number, update_block, update_signature, path_message, path_in, path_signature, due_length}
use Rattle.wire.specs.Cost.{block_cost, cost_due}

-- 02, change 2: "the last block travels with the bytes it has". An image of T bytes has n blocks: each but the last has L bytes, and the
-- last the T - (n - 1) × L that are left, 1 to L.
pub record EachLength (L T : ℕ) : Type 0 where
  pub earlier : (i : ℕ) → 0 < i → i < block_count L T → block_length L T i ≡ L
  pub last : block_length L T (block_count L T) ≡ T - (block_count L T - 1) * L
  pub range : (0 < block_length L T (block_count L T)) × (block_length L T (block_count L T) ≤ L)

abbrev pub BlockLengths : Type 0
BlockLengths = (L T : ℕ) → 0 < L → 0 < T → EachLength L T

-- A manifest's bytes give back the manifest, and the manifest read from bytes gives back the bytes.
abbrev pub ManifestBack : Type 0
ManifestBack = (s : Manifest) → Fits s → read (written s) ≡ s

abbrev pub BytesBack : Type 0
BytesBack = (b : List ℕ) → length b ≡ manifest_length → Bytes b → written (read b) ≡ b

-- "Slip, 48 bytes"
abbrev pub ManifestLong : Type 0
ManifestLong = (s : Manifest) → length s.root ≡ hash_length → length (written s) ≡ manifest_length

-- "Kind 1, new program: kind, slip, signature": the parts of a written message, read back
pub record OfProgram (s : Manifest) (signature m : List ℕ) : Type 0 where
  pub is : kind m ≡ Program
  pub manifest : manifest_bytes m ≡ written s
  pub signed : program_signature m ≡ signature
  pub size : length m ≡ least_length Program + length signature

abbrev pub ProgramBack : Type 0
ProgramBack = (s : Manifest) → length s.root ≡ hash_length → (signature : List ℕ) → OfProgram s signature (program_message s signature)

-- "Kind 2, block: kind, number i .., block, c(i) labels"
pub record OfBlock (i : ℕ) (block hashes m : List ℕ) : Type 0 where
  pub is : kind m ≡ Block
  pub number : number_in m ≡ i
  pub blocks : block_in (length block) m ≡ block
  pub after : hashes_after (length block) m ≡ hashes
  pub size : length m ≡ least_length Block + length block + length hashes

abbrev pub BlockBack : Type 0
BlockBack = (i : ℕ) (block hashes : List ℕ) → i < 256 ^ number_length → OfBlock i block hashes (block_message i block hashes)

-- "Kind 3, update: kind, new slip, number .., new block, signature"
pub record OfUpdate (s : Manifest) (i : ℕ) (block signature m : List ℕ) : Type 0 where
  pub is : kind m ≡ Update
  pub manifest : manifest_bytes m ≡ written s
  pub number : update_number m ≡ i
  pub blocks : update_block (length block) m ≡ block
  pub signed : update_signature (length block) m ≡ signature
  pub size : length m ≡ least_length Update + length block + length signature

abbrev pub UpdateBack : Type 0
UpdateBack =
    (s : Manifest) → length s.root ≡ hash_length → (signature : List ℕ) (i : ℕ) (block : List ℕ) → i < 256 ^ number_length
    → OfUpdate s i block signature (update_message s i block signature)

-- Kind 4 (02, change 1): "kind, new slip, number, new block, the siblings from that block's leaf to the root (lowest first), signature"; d siblings
pub record OfPath (s : Manifest) (i : ℕ) (block siblings signature : List ℕ) (d : ℕ) (m : List ℕ) : Type 0 where
  pub is : kind m ≡ PathUpdate
  pub manifest : manifest_bytes m ≡ written s
  pub number : update_number m ≡ i
  pub blocks : update_block (length block) m ≡ block
  pub path : path_in (length block) d m ≡ siblings
  pub signed : path_signature (length block) d m ≡ signature
  pub size : length m ≡ least_length PathUpdate + length block + hash_length * d + length signature

abbrev pub PathBack : Type 0
PathBack =
    (s : Manifest) → length s.root ≡ hash_length → (signature : List ℕ) (i : ℕ) (block siblings : List ℕ) (d : ℕ) → length siblings ≡ hash_length * d → i < 256 ^ number_length
    → OfPath s i block siblings signature d (path_message s i block siblings signature)

-- 02, change 7: what a block message costs is known before anything is hashed: `block_cost` is `cost_due`, whatever flash and message hold, where the flash has the
-- image's bytes and the message its due length; and no block message costs more than 29,199, the last of 1,536 whole blocks of 1,024 bytes.
pub record CostDue (H : List ℕ → List ℕ) (s : Manifest) (i : ℕ) : Type 0 where
  pub known : (flash m : List ℕ) → s.image_len ≤ length flash → length m ≡ due_length s.block_len s.image_len i → block_cost H s i flash m ≡ cost_due H s i
  pub most : cost_due H s i ≤ most_cost

abbrev pub CostsDue : Type 0
CostsDue =
    (H : List ℕ → List ℕ) → ((x : List ℕ) → length (H x) ≡ hash_length) → (s : Manifest) (i : ℕ) → wrong_size s.block_len s.image_len ≡ false → 0 < i
    → i ≤ count_of s → CostDue H s i

-- 02, change 8: "For downloads of two or more blocks, show that message 1 costs most of all block messages before the last", for every L and T, and whatever flash and
-- messages hold.
abbrev pub FirstCostsMost : Type 0
FirstCostsMost =
    (H : List ℕ → List ℕ) → ((x : List ℕ) → length (H x) ≡ hash_length) → (s : Manifest) (i : ℕ) → 0 < i → i < count_of s → (flash m first_flash first : List ℕ)
    → length m ≡ due_length s.block_len s.image_len i → length first ≡ due_length s.block_len s.image_len 1
    → block_cost H s i flash m ≤ block_cost H s 1 first_flash first
