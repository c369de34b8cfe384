-- Power loss: after a power cut the stored state and the flash may be of different moments. What holds then of the device's step, from every state, reached by a
-- list or not, and for every budget.
use Rattle.std.specs.Prelude.{◌≡◌, ◌⊎◌, Bool, List, ℕ, suc, pred, length, take, drop}
use Rattle.merkle.specs.Shape.{Place, shape}
use Rattle.merkle.specs.Hash.{plain, Collision}
use Rattle.merkle.specs.Path.{path_inputs, PathsCollide}
use Rattle.wire.specs.declared.kind.Kind.TheVariants.{Block, Update, PathUpdate}
use Rattle.wire.specs.declared.manifest.Manifest.{Manifest}
use Rattle.wire.specs.declared.refusal.Refusal.TheVariants as refusal
use Rattle.wire.specs.Geometry.{count_of, block_start, blocks_of}
use Rattle.wire.specs.Message.{kind, manifest_in, update_number}
use Rattle.machine.specs.declared.state.Stage.TheVariants.{Loading, Complete}
use Rattle.machine.specs.declared.state.Device.{Device}
use Rattle.machine.specs.Answer.{Accepted, Refused}
use Rattle.machine.specs.Step.{step, Call, step_call}
use Rattle.guarantee.specs.Run.{Trace, empty, ◌▷◌, after, outcome_to, answer_to, siblings_in}

-- A list of block messages, with any budgets.
unfoldable pub OnlyBlocks : Trace Call → Type 0
OnlyBlocks empty = Unit {0}
OnlyBlocks (cs ▷ c) = OnlyBlocks cs × (kind c.message ≡ Block)

-- Two flashes of one length that agree in the first k blocks of the manifest's program and behind it.
pub record Agree (s : Manifest) (k : ℕ) (f g : List ℕ) : Type 0 where
  pub long : length f ≡ length g
  pub accepted : take (block_start s.block_len (suc k)) f ≡ take (block_start s.block_len (suc k)) g
  pub behind : drop s.image_len f ≡ drop s.image_len g

module _ (H : List ℕ → List ℕ) (valid : (key message signature : List ℕ) → Bool) where
  -- A device that waits for block k + 1, over either flash: the same block messages with the same budgets get the same answers, report the same compressions and lead to the
  -- same states, and where they complete the program, to the same flash. So blocks from k + 1 on may be torn or stale, and an older state than the flash does no harm.
  pub record SameLoad (d : Device) (f g : List ℕ) (cs : Trace Call) : Type 0 where
    pub answers : (c : Call) → kind c.message ≡ Block → answer_to (step_call H valid) d f cs c ≡ answer_to (step_call H valid) d g cs c
    pub reports : (c : Call) → kind c.message ≡ Block → (outcome_to (step_call H valid) d f cs c).compressions ≡ (outcome_to (step_call H valid) d g cs c).compressions
    pub states : (after (step_call H valid) d f cs).device ≡ (after (step_call H valid) d g cs).device
    pub flashes : (after (step_call H valid) d f cs).device.stage ≡ Complete → (after (step_call H valid) d f cs).flash ≡ (after (step_call H valid) d g cs).flash

  abbrev pub TornLoad : Type 0
  TornLoad = (d : Device) (k : ℕ) → d.stage ≡ Loading (suc k) → (f g : List ℕ) → Agree d.manifest k f g
      → (cs : Trace Call) → OnlyBlocks cs → SameLoad d f g cs

  -- An update that is accepted over f is refused 19 over another flash of that length; or the program's bytes are the same in both, or their trees collide. So it is
  -- not taken again over its own block, torn or whole, where that is not the old one, short of a collision.
  abbrev pub TornUpdate : Type 0
  TornUpdate = (budget : ℕ) (d : Device) (f g m : List ℕ) → kind m ≡ Update → length f ≡ length g → (step H valid budget d f m).answer ≡ Accepted
      → (let s = d.manifest in
      ((step H valid budget d g m).answer ≡ Refused refusal.Altered)
      ⊎ ((take s.image_len f ≡ take s.image_len g) ⊎ Collision (plain H) (blocks_of s f) (blocks_of s g) 0 (shape (count_of s))))

  -- Answer and device of a path update depend on the flash by its length and the numbered block alone. So what is torn or altered elsewhere is not noticed.
  abbrev pub PathReads : Type 0
  PathReads = (budget : ℕ) (d : Device) (f g m : List ℕ) → kind m ≡ PathUpdate → length f ≡ length g
      → (let i = pred (update_number m) in blocks_of (manifest_in m) f i ≡ blocks_of (manifest_in m) g i)
      → ((step H valid budget d f m).answer ≡ (step H valid budget d g m).answer) × ((step H valid budget d f m).device ≡ (step H valid budget d g m).device)

  -- A path update that is accepted over f is refused 15 over another flash of that length, or accepted there too; then the numbered block is the same, or the two
  -- paths collide. So it is not taken again over its own block, torn or whole, where that is not the old one, short of a collision.
  abbrev pub TornPath : Type 0
  TornPath = (budget : ℕ) (d : Device) (f g m : List ℕ) → kind m ≡ PathUpdate → length f ≡ length g → (step H valid budget d f m).answer ≡ Accepted
      → (let s = manifest_in m in let i = pred (update_number m) in let inputs : List ℕ → List (Place × List ℕ) = λ block. path_inputs (plain H) 0 (shape (count_of s)) i block (siblings_in m) in
      ((step H valid budget d g m).answer ≡ Refused refusal.Path)
      ⊎ (((step H valid budget d g m).answer ≡ Accepted) × ((blocks_of s f i ≡ blocks_of s g i) ⊎ PathsCollide (plain H) (inputs (blocks_of s f i)) (inputs (blocks_of s g i)))))
