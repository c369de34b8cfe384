-- Demand 3, of any device: for any hash function H, any verdict on signatures, any step of the device, and one part of it (specs/Part).
use Rattle.std.specs.Prelude.{◌≡◌, ◌⊎◌, ◌↔◌, Bool, true, false, List, [], ℕ, zero, suc, pred, ◌^◌, max, ◌≤◌, ◌<◌, length, take, drop, Option, None, Some, Ok, Err}
use Rattle.merkle.specs.Shape.{shape, depth}
use Rattle.merkle.specs.Hash.{plain, hashes, Collision}
use Rattle.merkle.specs.Frontier.{frontier}
use Rattle.merkle.specs.Path.{PathCollision}
use Rattle.wire.specs.declared.kind.Kind.TheVariants.{Program, PathUpdate}
use Rattle.wire.specs.declared.manifest.Manifest.{Manifest}
use Rattle.wire.specs.declared.refusal.Refusal.{Refusal}
use Rattle.wire.specs.Refusal.{refusal_number}
use Rattle.wire.specs.Size.{wrong_size}
use Rattle.wire.specs.Manifest.{written}
use Rattle.wire.specs.Geometry.{count_of, blocks_of, tree_over}
use Rattle.wire.specs.Cost.{cost_due}
use Rattle.wire.specs.Message.{kind, carries, manifest_bytes, manifest_in, update_number, at_start}
use Rattle.sender.specs.Job.{Image, Job, count, blocks, manifest_for, block_for}
use Rattle.machine.specs.declared.state.Stage.TheVariants.{Idle, Loading, Complete}
use Rattle.machine.specs.declared.state.Device.{Device}
use Rattle.machine.specs.Answer.{Answer, Accepted, Refused}
use Rattle.machine.specs.Device.{Fresh, held_by, OutcomeOf, Outcome}
use Rattle.machine.specs.Readers.{number_of}
use Rattle.machine.specs.Step.{answer_of, Call}
use Rattle.guarantee.specs.Part.{Part, whole}
use Rattle.guarantee.specs.Run.{Trace, Messages, ◌▷◌, after, outcome_to, answer_to, accepted, last_program, blocks_since, last_carrier, signature_in, siblings_in, Completed}

-- The sender writes a manifest for the job: it does not refuse 5, and model and serial have four bytes.
pub record Sendable (job : Job) : Type 0 where
  pub size : wrong_size job.image.block_len (length job.image.bytes) ≡ false
  pub model : job.model < 2 ^ 32
  pub serial : job.serial < 2 ^ 32

-- A list of messages, and after it the sender's block messages from 1 to j.
unfoldable pub then_blocks : (List ℕ → List ℕ) → Image → Messages → ℕ → Messages
then_blocks H image ms zero = ms
then_blocks H image ms (suc j) = then_blocks H image ms j ▷ block_for H image (suc j)

module _ (H : List ℕ → List ℕ) where
  -- 02, change 1: "the tree over the area before it and the message's path held two different hash inputs with one digest": of a kind 4 message m and the flash that it finds. Its
  -- path is the old block there, with the message's siblings.
  abbrev pub Clash : (flash m : List ℕ) → Type 0
  Clash flash m =
      let s = manifest_in m in
      let i = pred (update_number m) in
      let blocks = blocks_of s flash in
      PathCollision (plain H) blocks 0 (shape (count_of s)) i (blocks i) (siblings_in m)

  -- The flash f has the manifest's tree.
  pub record Intact (s : Manifest) (f : List ℕ) : Type 0 where
    -- "the tree over its area has the slip's root"
    pub rooted : tree_over H s f ≡ s.root
    -- "every image of the same length .. with that root" equals the start of the area, "or at one place its tree's hash input and the area's differ and have the same
    -- SHA-256"; 02, change 2: "An image is now compared as its own T bytes."
    pub image : (x : List ℕ) → length x ≡ s.image_len → tree_over H s x ≡ s.root
        → (x ≡ take s.image_len f) ⊎ Collision (plain H) (blocks_of s x) (blocks_of s f) 0 (shape (count_of s))

module _ (H : List ℕ → List ℕ) (valid : (key message signature : List ℕ) → Bool) {D F C : Type 0} (part : Part D F C) (step : D → F → C → OutcomeOf D F) (d : D) (flash : F) where
  -- the part's device, flash and accepted messages after a list, and the answer to one call more
  abbrev device_after : Trace C → Device
  device_after cs = part.device (after step d flash cs).device

  abbrev flash_after : Trace C → List ℕ
  flash_after cs = part.flash (after step d flash cs).flash

  abbrev accepted_of : Trace C → Messages
  accepted_of cs = accepted step d flash part cs

  abbrev answer : Trace C → C → Answer
  answer cs c = answer_to step d flash cs c

  -- all that the call gives, and what it reports if it is accepted
  abbrev outcome : Trace C → C → OutcomeOf D F
  outcome cs c = outcome_to step d flash cs c

  abbrev total : Trace C → C → ℕ
  total cs c = part.total (after step d flash cs).device (after step d flash cs).flash c

  -- the call is taken for the part: it names the part and is accepted
  abbrev Taken : Trace C → C → Type 0
  Taken cs c = (part.names c ≡ true) × (answer cs c ≡ Accepted)

  -- the first refusal that applies to the call, if any
  abbrev refusal : Trace C → C → Option Refusal
  refusal cs c = part.refusal (after step d flash cs).device (after step d flash cs).flash c

  -- One call more after a list.
  pub record Calls (cs : Trace C) : Type 0 where
    -- "Accepted: .. exactly where none of the drive's refusals .. applies"; and otherwise it gets its refusal number
    pub answers : (c : C) → answer cs c ≡ answer_of (refusal cs c)
    -- the same by number: 0, or 01's number of the first refusal that applies
    pub numbers : (c : C) → number_of (answer cs c) ≡ elim (refusal cs c) [ None ↦ 0 | Some r ↦ refusal_number r ]
    -- "a refused one leaves both as they were"
    pub refused : (c : C) (r : Refusal) → answer cs c ≡ Refused r → after step d flash (cs ▷ c) ≡ after step d flash cs
    -- 02, change 7: "an accepted one reports its total"; a refused one reports 0. 01's form: "count and caller's budget as numbers in the result".
    pub reports : (c : C) → part.names c ≡ true
        → ((outcome cs c).compressions ≡ elim (outcome cs c).answer [ Ok _ ↦ total cs c | Err r ↦ 0 ]) × ((outcome cs c).budget ≡ part.budget c)
    -- a call that does not name the part leaves its device and its flash as they were
    pub leaves : (c : C) → part.names c ≡ false → (device_after (cs ▷ c) ≡ device_after cs) × (flash_after (cs ▷ c) ≡ flash_after cs)
    -- "no call changes model or key"
    pub model : (device_after cs).model ≡ (part.device d).model
    pub key : (device_after cs).key ≡ (part.device d).key

  -- The list goes on from `start`, and since then no accepted message of another kind than 4 carried a manifest.
  pub data Since (start : Trace C) : Trace C → Type 0 where
    here : Since start start
    later : {cs : Trace C} {x : C} → Since start cs
        → (Taken cs x → carries (kind (part.message x)) ≡ true → kind (part.message x) ≡ PathUpdate) → Since start (cs ▷ x)

  -- 02, change 1: "at one of the kind 4 messages taken since the last accepted slip in a message of another kind the tree over the area before it and the message's path held two
  -- different hash inputs with one digest": the list begins with `before` and the call with that message
  pub record Misled (cs : Trace C) : Type 0 where
    pub before : Trace C
    pub call : C
    pub path : kind (part.message call) ≡ PathUpdate
    pub taken : Taken before call
    pub since : Since (before ▷ call) cs
    pub clash : Clash H (flash_after before) (part.message call)

  -- A list after which the device is complete with manifest s, and its flash f.
  pub record Bound (cs : Trace C) (s : Manifest) (f : List ℕ) : Type 0 where
    pub carrier : List ℕ
    pub last : last_carrier (accepted_of cs) ≡ Some carrier
    -- "signed means that this message's signature over it is valid under the drive's key"
    pub signed : valid (part.device d).key (manifest_bytes carrier) (signature_in carrier) ≡ true
    -- "the area must have T bytes"
    pub room : s.image_len ≤ length f
    -- "the tree over the area has it, or" a kind 4 message misled the device; 02, change 1: "in this second case no image need equal the area"
    pub tree : Intact H s f ⊎ Misled cs

  -- The first half.
  pub record FirstHalf (cs : Trace C) : Type 0 where
    -- "The drive's slip is that of the last accepted message that carries one"
    pub manifest : (m : List ℕ) → last_carrier (accepted_of cs) ≡ Some m → (device_after cs).manifest ≡ manifest_in m
    -- "The stage is complete exactly then." Before, it is idle while no kind 1 was accepted, and then loading, with the number after the accepted blocks.
    pub exactly : ((device_after cs).stage ≡ Complete) ↔ Completed (accepted_of cs)
    pub idle : last_program (accepted_of cs) ≡ None → (device_after cs).stage ≡ Idle
    pub loading : (s : Manifest) → last_program (accepted_of cs) ≡ Some s → blocks_since (accepted_of cs) < count_of s
        → (device_after cs).stage ≡ Loading (suc (blocks_since (accepted_of cs)))
    -- "The area is one throughout"
    pub one : length (flash_after cs) ≡ length (part.flash flash)
    -- "bytes beyond are never written": one call more leaves the byte at T and all behind it, T being of the manifest that the device then has
    pub beyond : (c : C) → (let s = (device_after (cs ▷ c)).manifest in drop s.image_len (flash_after (cs ▷ c)) ≡ drop s.image_len (flash_after cs))
    pub bound : Completed (accepted_of cs) → Bound cs (device_after cs).manifest (flash_after cs)

  -- "an accepted kind 1 carried exactly the slip that demand 2 has the sender write for an image": call c, after the calls `before`
  pub record Begun (job : Job) (before : Trace C) (c : C) : Type 0 where
    pub sendable : Sendable job
    pub program : kind (part.message c) ≡ Program
    pub carries : manifest_bytes (part.message c) ≡ written (manifest_for H job)
    pub taken : Taken before c

  -- "After it the sender's block messages for the same image and values stand in the list in order, from 1 up to some j, j from 0 to n, and every other message
  -- after that slip was refused": `next` is a call that names the part and hands over the block message due, whatever its answer; `other` is not taken for the part.
  -- 02, change 7: "the honest run now needs budgets that suffice": for what the sender's block message costs by L, T and its number alone, whatever the device's state. A
  -- block message with a smaller one is one of the others.
  pub data Honest (job : Job) (before : Trace C) (c : C) : ℕ → Trace C → Type 0 where
    begin : Honest job before c 0 (before ▷ c)
    next : {j : ℕ} {cs : Trace C} {x : C} → j < count job.image → part.names x ≡ true → part.message x ≡ block_for H job.image (suc j)
        → cost_due H (manifest_for H job) (suc j) ≤ part.budget x → Honest job before c j cs → Honest job before c (suc j) (cs ▷ x)
    other : {j : ℕ} {cs : Trace C} {x : C} → (Taken cs x → ⊥) → Honest job before c j cs → Honest job before c j (cs ▷ x)

  -- "For j = n the stage is then complete with this slip, the area begins with the .. image, and its bytes beyond are as when the slip came", and no hash is held.
  pub record Loaded (job : Job) (before cs : Trace C) : Type 0 where
    pub stage : (device_after cs).stage ≡ Complete
    pub manifest : (device_after cs).manifest ≡ manifest_for H job
    pub none_held : held_by (device_after cs) ≡ []
    pub image : flash_after cs ≡ at_start job.image.bytes (flash_after before)

  pub record Loads (job : Job) (before : Trace C) (c : C) (j : ℕ) (cs : Trace C) : Type 0 where
    -- "Then all j were accepted": since the manifest these, and nothing else
    pub all : accepted_of cs ≡ then_blocks H job.image (accepted_of before ▷ part.message c) j
    -- "the labels held are those of the image's tree at the subtrees named above for i = j"
    pub held : held_by (device_after cs) ≡ hashes (plain H) (blocks job.image) (frontier 0 (shape (count job.image)) j)
    -- "never more labels were held than the tree's depth, or one at depth 0"
    pub few : length (held_by (device_after cs)) ≤ max 1 (depth (count job.image))
    pub done : j ≡ count job.image → Loaded job before cs

  -- The second half: the honest run. "This counts for each beginning of a list as well": it is said of every list, and a beginning is one.
  pub record SecondHalf (cs : Trace C) : Type 0 where
    pub loads : (job : Job) (before : Trace C) (c : C) (j : ℕ) → Begun job before c → Honest job before c j cs → Loads job before c j cs

  pub record Claim (cs : Trace C) : Type 0 where
    pub calls : Calls cs
    pub first : FirstHalf cs
    pub second : SecondHalf cs

-- "It starts from a fresh drive with any model and key, and an area of any length and content": every list of calls, "the empty one included". "A further number that a
-- later change has the caller hand along may have any value": so the budget of each.
abbrev pub Demand3 : (H : List ℕ → List ℕ) (valid : (key message signature : List ℕ) → Bool) (step : Device → List ℕ → Call → Outcome) → Type 0
Demand3 H valid step = (d : Device) → Fresh d → (flash : List ℕ) (cs : Trace Call) → Claim H valid (whole H valid) step d flash cs
