-- What contracts of inner functions cite: which tests have passed before, and the block that a message brings.
use Rattle.std.specs.Prelude.{◌≡◌, Bool, true, false, ◌&&◌, cond, List, [], ◌∷◌, ℕ}
use Rattle.std.specs.Prelude.{None}
use Rattle.sha256.specs.Sha256.{digest}
use Rattle.wire.specs.declared.kind.Kind.{Kind}
use Rattle.wire.specs.declared.kind.Kind.TheVariants as kinds
use Rattle.wire.specs.declared.manifest.Manifest.{Manifest}
use Rattle.wire.specs.declared.refusal.Refusal.{Refusal}
use Rattle.wire.specs.declared.refusal.Refusal.TheVariants as refusal
use Rattle.wire.specs.Refusal.{first_that_applies}
use Rattle.wire.specs.Message.{least_length, manifest_in, block_in, update_number, update_block}
use Rattle.machine.specs.declared.state.Stage.{Stage}
use Rattle.machine.specs.Device.{next_of}
use Rattle.machine.specs.Refusals.{senseless, too_small, not_loading, not_complete, not_next, wrong_length, spent, of_manifest}
use Rattle.device.specs.declared.view.View.{View}
use Rattle.device.specs.Fields.{lent}

-- an update of either kind
unfoldable pub updates : Kind → Bool
updates k = elim k [ kinds.Program ↦ false | kinds.Block ↦ false | kinds.Update ↦ true | kinds.PathUpdate ↦ true | kinds.Unknown ↦ false ]

-- 10 of the kinds that carry a manifest: an update, and the device not complete
unfoldable pub early : Kind → Stage → Bool
early k t = updates k && not_complete t

-- 1 does not apply, whatever the hashes are
abbrev pub Sensible : View → Type 0
Sensible v = (hashes : List ℕ) → senseless (lent v hashes) ≡ false

-- none of 4, 5, 6, 7 applies to manifest s, whatever the hashes are
abbrev pub Newer : View → Manifest → Type 0
Newer v s = (hashes : List ℕ) → first_that_applies (of_manifest (lent v hashes) s) ≡ None

-- what a block message meets before anything is hashed: 10, 8, 11, 12, 20; i is the next number
unfoldable pub of_unhashed : (budget : ℕ) → Stage → Manifest → (flash m : List ℕ) → ℕ → List (Refusal × Bool)
of_unhashed budget stage current flash m i =
    (refusal.Stage, not_loading stage)
    ∷ (refusal.Area, too_small current flash)
    ∷ (refusal.Turn, not_next i m)
    ∷ (refusal.Length, wrong_length current i m)
    ∷ (refusal.Spent, spent digest budget current i flash m)
    ∷ []

-- Of the block that a message of kind 2 brings, or an update: the manifest of its program, its number, the bytes before it, and its own k bytes.
unfoldable pub program_of : (update : Bool) → Manifest → List ℕ → Manifest
program_of update current m = cond update (manifest_in m) current

unfoldable pub block_number_of : (update : Bool) → Stage → List ℕ → ℕ
block_number_of update stage m = cond update (update_number m) (next_of stage)

unfoldable pub head_of : (update : Bool) → ℕ
head_of update = cond update (least_length kinds.Update) (least_length kinds.Block)

unfoldable pub block_of : (update : Bool) → ℕ → List ℕ → List ℕ
block_of update k m = cond update (update_block k m) (block_in k m)
