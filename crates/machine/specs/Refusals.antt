-- When each refusal is given, and their order for each kind of message (01, 'The drive's refusals').
use Rattle.std.specs.Prelude.{Bool, true, false, not, ◌||◌, ◌&&◌, List, [], ◌∷◌, ◌++◌, ℕ, pred, eqb, ltb, length, get_or}
use Rattle.octets.specs.Octets.{equal}
use Rattle.merkle.specs.Shape.{shape}
use Rattle.merkle.specs.Hash.{plain, climb}
use Rattle.merkle.specs.Path.{leaf_depth, path_hash}
use Rattle.merkle.specs.Frontier.{carried_count}
use Rattle.merkle.specs.Held.{hashes_in}
use Rattle.wire.specs.declared.kind.Kind.{Kind}
use Rattle.wire.specs.declared.kind.Kind.TheVariants as kinds
use Rattle.wire.specs.declared.manifest.Manifest.{Manifest}
use Rattle.wire.specs.declared.refusal.Refusal.{Refusal}
use Rattle.wire.specs.declared.refusal.Refusal.TheVariants as refusal
use Rattle.wire.specs.Size.{wrong_size, outside}
use Rattle.wire.specs.Geometry.{count_of, block_length, blocks_of, tree_over}
use Rattle.wire.specs.Cost.{block_cost}
use Rattle.wire.specs.Message.{short, manifest_bytes, manifest_in, program_signature, number_in, block_in, hashes_after, update_number, update_block, update_signature, path_in, path_signature, due_length, least_update, least_path}
use Rattle.machine.specs.declared.state.Stage.{Stage}
use Rattle.machine.specs.declared.state.Stage.TheVariants.{Idle, Loading, Complete}
use Rattle.machine.specs.declared.state.Device.{Device}
use Rattle.machine.specs.Device.{serial_of, next_of, held_by}
use Rattle.machine.specs.Flash.{stored, updated}

-- 4: version not 1
unfoldable pub wrong_version : Manifest → Bool
wrong_version s = not (eqb s.version 1)

-- 1: stage not idle and its manifest breaks 4 or 5, or next number outside 1..n
unfoldable pub senseless : Device → Bool
senseless d =
    let s = d.manifest in
    let broken = wrong_version s || wrong_size s.block_len s.image_len in
    elim d.stage [ Idle ↦ false | Loading i ↦ broken || outside (count_of s) i | Complete ↦ broken ]

-- 2: empty message, or kind not 1, 2, 3, 4
unfoldable pub no_kind : Kind → Bool
no_kind k = elim k [ kinds.Program ↦ false | kinds.Block ↦ false | kinds.Update ↦ false | kinds.PathUpdate ↦ false | kinds.Unknown ↦ true ]

-- 6: the manifest's model not the device's. 7: its serial not above the device's.
unfoldable pub other_model : Device → Manifest → Bool
other_model d s = not (eqb s.model d.model)

unfoldable pub not_newer : Device → Manifest → Bool
not_newer d s = not (ltb (serial_of d) s.serial)

-- 8: the flash too short for the manifest's image: "the area must have T bytes"
unfoldable pub too_small : Manifest → List ℕ → Bool
too_small s flash = ltb (length flash) s.image_len

-- 9: signature not valid
unfoldable pub unsigned : (valid : (key message signature : List ℕ) → Bool) → Device → (manifest signature : List ℕ) → Bool
unsigned valid d manifest signature = not (valid d.key manifest signature)

-- 10: kind 2 and not loading; kinds 3 and 4 and not complete
unfoldable pub not_loading : Stage → Bool
not_loading t = elim t [ Idle ↦ true | Loading i ↦ false | Complete ↦ true ]

unfoldable pub not_complete : Stage → Bool
not_complete t = elim t [ Idle ↦ true | Loading i ↦ true | Complete ↦ false ]

-- 11 and 12 for kind 2: not the next number i; not the due length
unfoldable pub not_next : ℕ → List ℕ → Bool
not_next i m = not (eqb (number_in m) i)

unfoldable pub wrong_length : Manifest → ℕ → List ℕ → Bool
wrong_length s i m = not (eqb (length m) (due_length s.block_len s.image_len i))

-- 13: L or T differs from the complete manifest's
unfoldable pub unlike : Manifest → Manifest → Bool
unlike s old = not (eqb s.block_len old.block_len && eqb s.image_len old.image_len)

module _ (H : List ℕ → List ℕ) where
  -- 14 for kind 2: the hash worked out from block i and the message's hashes differs from the held one, which is the first
  unfoldable pub mismatch : Device → ℕ → List ℕ → Bool
  mismatch d i m =
      let s = d.manifest in
      let k = block_length s.block_len s.image_len i in
      not (equal (get_or (held_by d) 0 []) (climb (plain H) (block_in k m) (hashes_in (carried_count (count_of s) i) (hashes_after k m))))

  -- The tree over the flash lacks the manifest's root. 14 for kind 3: of the flash with the new block, and the new manifest. 19 for kind 3 (02, change 5): of "the
  -- area as handed in", and "the held slip's root"
  unfoldable pub lacks_root : Manifest → List ℕ → Bool
  lacks_root s flash = not (equal (tree_over H s flash) s.root)

  -- 19 for kind 2: "The last block of a download does the same for the whole area with that block in place"; s is the current manifest
  unfoldable pub last_altered : Manifest → (i : ℕ) → (flash m : List ℕ) → Bool
  last_altered s i flash m = eqb i (count_of s) && lacks_root s (stored s i flash m)

  -- 20 for kind 2 (02, change 7): "exactly if that total is above the budget"; s is the current manifest
  unfoldable pub spent : (budget : ℕ) → Manifest → (i : ℕ) → (flash m : List ℕ) → Bool
  spent budget s i flash m = ltb budget (block_cost H s i flash m)

  -- 15 and 14 for kind 4: block i with these siblings does not lead to the root
  unfoldable pub strays : Manifest → (i : ℕ) → (block siblings root : List ℕ) → Bool
  strays s i block siblings root =
      let n = count_of s in
      not (equal (path_hash (plain H) 0 (shape n) (pred i) block (hashes_in (leaf_depth n (pred i)) siblings)) root)

-- "Order, first that applies": refusals in order, each with its test

-- "always 1, 2, 3"
unfoldable pub always : Kind → Device → List ℕ → List (Refusal × Bool)
always k d m =
    (refusal.State, senseless d)
    ∷ (refusal.Kind, no_kind k)
    ∷ (refusal.Short, short k m)
    ∷ []

-- 4, 5, 6, 7: what a new manifest meets, in every message that carries one
unfoldable pub of_manifest : Device → Manifest → List (Refusal × Bool)
of_manifest d s =
    (refusal.Version, wrong_version s)
    ∷ (refusal.Size, wrong_size s.block_len s.image_len)
    ∷ (refusal.Model, other_model d s)
    ∷ (refusal.Serial, not_newer d s)
    ∷ []

-- "then kind 1: 4, 5, 6, 7, 8, 9"; s is the manifest that the message carries
unfoldable pub of_program : (valid : (key message signature : List ℕ) → Bool) → Device → (flash m : List ℕ) → Manifest → List (Refusal × Bool)
of_program valid d flash m s =
    of_manifest d s
    ++ ((refusal.Area, too_small s flash)
    ∷ (refusal.Unsigned, unsigned valid d (manifest_bytes m) (program_signature m))
    ∷ [])

-- "Kind 2: 10, 8, 11, 12, 14", 20 "after 12 and before 14", and 19 "for the last block after 14"; i is the next number
unfoldable pub of_block : (H : List ℕ → List ℕ) (budget : ℕ) → Device → (flash m : List ℕ) → ℕ → List (Refusal × Bool)
of_block H budget d flash m i =
    (refusal.Stage, not_loading d.stage)
    ∷ (refusal.Area, too_small d.manifest flash)
    ∷ (refusal.Turn, not_next i m)
    ∷ (refusal.Length, wrong_length d.manifest i m)
    ∷ (refusal.Spent, spent H budget d.manifest i flash m)
    ∷ (refusal.Mismatch, mismatch H d i m)
    ∷ (refusal.Altered, last_altered H d.manifest i flash m)
    ∷ []

-- 10, 4, 5, 6, 7, 13, 8: what an update of either kind meets first; s is the manifest that it carries
unfoldable pub of_successor : Device → List ℕ → Manifest → List (Refusal × Bool)
of_successor d flash s =
    (refusal.Stage, not_complete d.stage)
    ∷ of_manifest d s
    ++ ((refusal.Unlike, unlike s d.manifest)
    ∷ (refusal.Area, too_small s flash)
    ∷ [])

module _ (H : List ℕ → List ℕ) (valid : (key message signature : List ℕ) → Bool) where
  -- "Kind 3: 10, 4, 5, 6, 7, 13, 8, 11, 12, 9, 14", and 19 "between 8 and 11"; s is the manifest that the message carries, i its number
  unfoldable pub of_update : Device → (flash m : List ℕ) → Manifest → ℕ → List (Refusal × Bool)
  of_update d flash m s i =
      let k = block_length s.block_len s.image_len i in
      of_successor d flash s
      ++ ((refusal.Altered, lacks_root H d.manifest flash)
      ∷ (refusal.Turn, outside (count_of s) i)
      ∷ (refusal.Length, ltb (length m) (least_update s.block_len s.image_len i))
      ∷ (refusal.Unsigned, unsigned valid d (manifest_bytes m) (update_signature k m))
      ∷ (refusal.Mismatch, lacks_root H s (updated s flash m))
      ∷ [])

  -- Kind 4 (02, change 1): "All of kind 3's checks apply", but for 19 (change 5: it "keeps the old assumption"); 15 "if the old block doesn't lead to the held
  -- root, after 9 and before 14, here for the new root"
  unfoldable pub of_path_update : Device → (flash m : List ℕ) → Manifest → ℕ → List (Refusal × Bool)
  of_path_update d flash m s i =
      let k = block_length s.block_len s.image_len i in
      let depth = leaf_depth (count_of s) (pred i) in
      let siblings = path_in k depth m in
      of_successor d flash s
      ++ ((refusal.Turn, outside (count_of s) i)
      ∷ (refusal.Length, ltb (length m) (least_path s.block_len s.image_len i))
      ∷ (refusal.Unsigned, unsigned valid d (manifest_bytes m) (path_signature k depth m))
      ∷ (refusal.Path, strays H s i (blocks_of s flash (pred i)) siblings d.manifest.root)
      ∷ (refusal.Mismatch, strays H s i (update_block k m) siblings s.root)
      ∷ [])

  -- 02, change 7: "The caller hands a budget along with each kind 2 message": one goes with every message, and only kind 2 looks at it
  unfoldable pub of_kind : (budget : ℕ) → Kind → Device → (flash m : List ℕ) → List (Refusal × Bool)
  of_kind budget k d flash m =
      elim k [
        | kinds.Program ↦ of_program valid d flash m (manifest_in m)
        | kinds.Block ↦ of_block H budget d flash m (next_of d.stage)
        | kinds.Update ↦ of_update d flash m (manifest_in m) (update_number m)
        | kinds.PathUpdate ↦ of_path_update d flash m (manifest_in m) (update_number m)
        | kinds.Unknown ↦ []
      ]

  unfoldable pub refusals : (budget : ℕ) → Kind → Device → (flash m : List ℕ) → List (Refusal × Bool)
  refusals budget k d flash m = always k d m ++ of_kind budget k d flash m
