-- Lists of calls, and what a device makes of them (01, 'The list that demand 3 speaks of').
use Rattle.std.specs.Prelude.{◌≡◌, true, false, cond, List, [], ℕ, suc, pred, Option, None, Some, Ok, Err}
use Rattle.merkle.specs.Path.{leaf_depth}
use Rattle.merkle.specs.Held.{hashes_in}
use Rattle.wire.specs.declared.kind.Kind.TheVariants.{Program, Block, Update, PathUpdate, Unknown}
use Rattle.wire.specs.declared.manifest.Manifest.{Manifest}
use Rattle.wire.specs.Geometry.{count_of, block_length}
use Rattle.wire.specs.Message.{kind, carries, manifest_in, program_signature, update_number, update_signature, path_in, path_signature}
use Rattle.machine.specs.Answer.{Answer}
use Rattle.machine.specs.Device.{SituationOf, OutcomeOf}
use Rattle.guarantee.specs.Part.{Part}

-- A list as it grows: empty, or a beginning of it and one more element.
infixl 25 ◌▷◌
pub data Trace (A : Type 0) : Type 0 where
  empty : Trace A
  ◌▷◌ : Trace A → A → Trace A

abbrev pub Messages : Type 0
Messages = Trace (List ℕ)

-- "Each message, of any kind or none, goes with the state that the call before it returned and the area that it left": state and flash after a list of calls, from
-- the state d and the flash on.
module _ {D F C : Type 0} (step : D → F → C → OutcomeOf D F) (d : D) (flash : F) where
  unfoldable pub after : Trace C → SituationOf D F
  after empty = record { device = d; flash = flash }
  after (cs ▷ c) = let o = step (after cs).device (after cs).flash c in record { device = o.device; flash = o.flash }

  -- what one call more gives, and its answer
  abbrev pub outcome_to : Trace C → C → OutcomeOf D F
  outcome_to cs c = step (after cs).device (after cs).flash c

  unfoldable pub answer_to : Trace C → C → Answer
  answer_to cs c = (outcome_to cs c).answer

  -- "Accepted: the call gave no refusal number": the messages of the calls that name the part and were accepted
  unfoldable pub accepted : Part D F C → Trace C → Messages
  accepted part empty = empty
  accepted part (cs ▷ c) =
      elim (part.names c) [
        | true ↦ elim (answer_to cs c) [ Ok _ ↦ accepted part cs ▷ part.message c | Err r ↦ accepted part cs ]
        | false ↦ accepted part cs
      ]

-- The manifest of the last kind 1 among accepted messages.
unfoldable pub last_program : Messages → Option Manifest
last_program empty = None
last_program (ms ▷ m) = elim (kind m) [ Program ↦ Some (manifest_in m) | Block ↦ last_program ms | Update ↦ last_program ms | PathUpdate ↦ last_program ms | Unknown ↦ last_program ms ]

-- How many kind 2 messages were accepted since the last kind 1.
unfoldable pub blocks_since : Messages → ℕ
blocks_since empty = 0
blocks_since (ms ▷ m) = elim (kind m) [ Program ↦ 0 | Block ↦ suc (blocks_since ms) | Update ↦ blocks_since ms | PathUpdate ↦ blocks_since ms | Unknown ↦ blocks_since ms ]

-- How many kind 4 messages were accepted since the last one of another kind that carries a manifest.
unfoldable pub paths_since : Messages → ℕ
paths_since empty = 0
paths_since (ms ▷ m) = elim (kind m) [ Program ↦ 0 | Block ↦ paths_since ms | Update ↦ 0 | PathUpdate ↦ suc (paths_since ms) | Unknown ↦ paths_since ms ]

-- The last accepted message that carries a manifest.
unfoldable pub last_carrier : Messages → Option (List ℕ)
last_carrier empty = None
last_carrier (ms ▷ m) = cond (carries (kind m)) (Some m) (last_carrier ms)

-- The signature of a message that carries a manifest.
unfoldable pub signature_in : List ℕ → List ℕ
signature_in m =
    let s = manifest_in m in
    let k = block_length s.block_len s.image_len (update_number m) in
    elim (kind m) [
      | Program ↦ program_signature m
      | Block ↦ []
      | Update ↦ update_signature k m
      | PathUpdate ↦ path_signature k (leaf_depth (count_of s) (pred (update_number m))) m
      | Unknown ↦ []
    ]

-- The siblings of a kind 4 message.
abbrev pub siblings_in : List ℕ → List (List ℕ)
siblings_in m =
    let s = manifest_in m in
    let depth = leaf_depth (count_of s) (pred (update_number m)) in
    hashes_in depth (path_in (block_length s.block_len s.image_len (update_number m)) depth m)

-- "Complete: the list has an accepted kind 1, and since the last of these as many kind 2 messages were accepted as its slip has blocks."
pub record Completed (taken : Messages) : Type 0 where
  pub manifest : Manifest
  pub last : last_program taken ≡ Some manifest
  pub all : blocks_since taken ≡ count_of manifest
