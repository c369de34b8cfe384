-- The messages (01, 'Slip, messages, state'): what each kind consists of, where each part of a received one stands, and how long a message must be.
use Rattle.std.specs.Prelude.{Bool, true, false, cond, List, [], ◌∷◌, ◌++◌, ℕ, pred, ◌+◌, ◌-◌, ◌*◌, eqb, ltb, length, drop}
use Rattle.octets.specs.Octets.{bytes, number, part, joined}
use Rattle.merkle.specs.Limits.{hash_length}
use Rattle.merkle.specs.Blocks.{block_count}
use Rattle.merkle.specs.Frontier.{carried_count}
use Rattle.merkle.specs.Path.{leaf_depth}
use Rattle.wire.specs.declared.kind.Kind.{Kind}
use Rattle.wire.specs.declared.kind.Kind.TheVariants.{Program, Block, Update, PathUpdate, Unknown}
use Rattle.wire.specs.declared.manifest.Manifest.{Manifest}
use Rattle.wire.specs.Manifest.{manifest_length, read, written}
use Rattle.wire.specs.Geometry.{block_length}

-- "The first byte of a message is its kind."
unfoldable pub kind : List ℕ → Kind
kind [] = Unknown
kind (k ∷ m) = cond (eqb k 1) Program (cond (eqb k 2) Block (cond (eqb k 3) Update (cond (eqb k 4) PathUpdate Unknown)))

-- whether messages of a kind carry a manifest
unfoldable pub carries : Kind → Bool
carries k = elim k [ Program ↦ true | Block ↦ false | Update ↦ true | PathUpdate ↦ true | Unknown ↦ false ]

-- "number i (2 bytes ..)"
abbrev pub kind_length : ℕ
kind_length = 1

abbrev pub number_length : ℕ
number_length = 2

-- kind 1: kind, manifest, signature over its bytes
unfoldable pub program_message : Manifest → List ℕ → List ℕ
program_message s signature = joined ((1 ∷ []) ∷ written s ∷ signature ∷ [])

-- kind 2: kind, number i, block, c(i) hashes
unfoldable pub block_message : ℕ → List ℕ → List ℕ → List ℕ
block_message i block hashes = joined ((2 ∷ []) ∷ bytes number_length i ∷ block ∷ hashes ∷ [])

-- kinds 3 and 4 begin alike: kind k, new manifest, number, new block
unfoldable pub successor_head : (k : ℕ) → Manifest → (i : ℕ) → List ℕ → List ℕ
successor_head k s i block = joined ((k ∷ []) ∷ written s ∷ bytes number_length i ∷ block ∷ [])

-- kind 3: kind, new manifest, number, new block, signature over the new manifest
unfoldable pub update_message : Manifest → ℕ → List ℕ → List ℕ → List ℕ
update_message s i block signature = joined ((3 ∷ []) ∷ written s ∷ bytes number_length i ∷ block ∷ signature ∷ [])

-- kind 4: kind, new manifest, number, new block, the siblings from that block's leaf to the root, signature over the new manifest
unfoldable pub path_message : Manifest → ℕ → (block siblings signature : List ℕ) → List ℕ
path_message s i block siblings signature = joined ((4 ∷ []) ∷ written s ∷ bytes number_length i ∷ block ∷ siblings ∷ signature ∷ [])

-- The parts before the signature of kind 1, and before the block of kinds 2, 3 and 4: 49, 3, 51 and 51 bytes. A message has at least these; with fewer it is refused 3.
abbrev pub least_length : Kind → ℕ
least_length Program = kind_length + manifest_length
least_length Block = kind_length + number_length
least_length Update = kind_length + manifest_length + number_length
least_length PathUpdate = kind_length + manifest_length + number_length
least_length Unknown = 0

unfoldable pub short : Kind → List ℕ → Bool
short k m = ltb (length m) (least_length k)

-- Kinds 1, 3 and 4: the manifest's bytes, and the manifest that they stand for.
unfoldable pub manifest_bytes : List ℕ → List ℕ
manifest_bytes m = part kind_length manifest_length m

unfoldable pub manifest_in : List ℕ → Manifest
manifest_in m = read (manifest_bytes m)

-- Kind 1: what follows the manifest is the signature.
unfoldable pub program_signature : List ℕ → List ℕ
program_signature m = drop (least_length Program) m

-- Kind 2: the number; after it a block of k bytes, and the rest is hashes.
unfoldable pub number_in : List ℕ → ℕ
number_in m = number (part kind_length number_length m)

unfoldable pub block_in : ℕ → List ℕ → List ℕ
block_in k m = part (least_length Block) k m

unfoldable pub hashes_after : ℕ → List ℕ → List ℕ
hashes_after k m = drop (least_length Block + k) m

-- Kinds 3 and 4: the number, and a block of k bytes. In kind 3 the rest is the signature.
unfoldable pub update_number : List ℕ → ℕ
update_number m = number (part (kind_length + manifest_length) number_length m)

unfoldable pub update_block : ℕ → List ℕ → List ℕ
update_block k m = part (least_length Update) k m

unfoldable pub update_signature : ℕ → List ℕ → List ℕ
update_signature k m = drop (least_length Update + k) m

-- Kind 4: behind the block come d siblings, and the rest is the signature.
unfoldable pub path_in : (k d : ℕ) → List ℕ → List ℕ
path_in k d m = part (least_length Update + k) (hash_length * d) m

unfoldable pub path_signature : (k d : ℕ) → List ℕ → List ℕ
path_signature k d m = drop (least_length Update + k + hash_length * d) m

-- Refusal 12. Kind 2: message i has exactly 3 bytes, its block's and 32 × c(i); with L = 256 and n = 8, message 1 has 355.
unfoldable pub due_length : (L T i : ℕ) → ℕ
due_length L T i = least_length Block + block_length L T i + hash_length * carried_count (block_count L T) i

-- All n block messages of an image together: each has its head, and among them they carry the image and n - 1 hashes.
unfoldable pub messages_length : (L T : ℕ) → ℕ
messages_length L T = let n = block_count L T in least_length Block * n + T + hash_length * (n - 1)

-- Kind 3: an update of block i has at least 51 bytes and its block's.
unfoldable pub least_update : (L T i : ℕ) → ℕ
least_update L T i = least_length Update + block_length L T i

-- Kind 4: a path update of block i has at least the bytes of an update, and 32 for each node above the block's leaf.
unfoldable pub least_path : (L T i : ℕ) → ℕ
least_path L T i = least_update L T i + hash_length * leaf_depth (block_count L T) (pred i)

-- A buffer, or the flash, after bytes were written to its start: what stands behind them stays.
abbrev pub at_start : (bytes buffer : List ℕ) → List ℕ
at_start bytes buffer = bytes ++ drop (length bytes) buffer
