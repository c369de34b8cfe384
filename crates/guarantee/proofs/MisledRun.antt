-- The second case of the claim on the tree is there for a reason: with a hash function that has such collisions, the right device takes a path update whose sibling
-- is not the tree's own, and then its tree lacks its manifest's root.
use Rattle.std.proofs.Common.{◌≡◌, refl, ap, false, List, [], ◌∷◌, ◌++◌, ℕ, max, arith, get_or, replicate}
use mathlib.Core.List.Memᴰ
use Rattle.octets.specs.Octets.{equal}
use Rattle.merkle.specs.Shape.{leaf, node}
use Rattle.wire.specs.declared.refusal.Refusal.TheVariants as refusal
use Rattle.wire.specs.Geometry.{tree_over}
use Rattle.wire.specs.Message.{update_message, path_message}
use Rattle.sender.specs.Job.{Job, program_for, block_for}
use Rattle.machine.specs.declared.state.Stage.TheVariants.{Complete}
use Rattle.machine.specs.Answer.{Refused}
use Rattle.machine.specs.Device.{Situation}
use Rattle.machine.specs.Step.{Call, step_call}
use Rattle.machine.specs.BootCheck.{boot_check}
use Rattle.guarantee.specs.Part.{whole}
use Rattle.guarantee.specs.Run.{Trace, empty, ◌▷◌, after, answer_to}
use Rattle.guarantee.specs.Demand3.{here, Misled}
use Rattle.guarantee.proofs.Toy.{Step, any, fresh, flash, ample, manifest_with, computing}

-- of the second byte of the input and the second of its later half the larger one counts
unfoldable pub weak_hash : ℕ → List ℕ
weak_hash b = 1 ∷ b ∷ replicate 30 0

unfoldable pub weak : List ℕ → List ℕ
weak x = weak_hash (max (get_or x 1 0) (get_or x 33 0))

unfoldable pub device : Step
device = step_call weak any

-- blocks of fives and of threes: the hashes are 5 and 3, the root 5
unfoldable pub pair : Job
pair = record { image = record { bytes = replicate 64 5 ++ replicate 64 3; block_len = 64 }; model = 7; serial = 1 }

unfoldable pub before : Trace Call
before = empty ▷ ample (program_for weak pair []) ▷ ample (block_for weak pair.image 1) ▷ ample (block_for weak pair.image 2)

-- a first block of ones, beside a sibling that says 2: with the fives this leads to 5 as well, with the ones to 2, where the tree has 3
pub misleading : Call
misleading = ample (path_message (manifest_with 2 (weak_hash 2)) 1 (replicate 64 1) (weak_hash 2) [])

pub second-case : (let now : Situation = after device fresh flash (before ▷ misleading) in
    (now.device.stage ≡ Complete) × (equal (tree_over weak now.device.manifest now.flash) now.device.manifest.root ≡ false))
    × Misled weak any (whole weak any) device fresh flash (before ▷ misleading)
unfolding computing weak_hash weak device pair before misleading
second-case = (
  (refl, refl),
  record {
    before = before;
    call = misleading;
    path = refl;
    taken = (refl, refl);
    since = here;
    clash = record {
      place = (0, node leaf leaf);
      given = weak_hash 5 ++ weak_hash 2;
      within = Memᴰ.tail (Memᴰ.head refl);
      differ = λ e. let z : ◌≡◌ {A = ℕ} 3 2 = ap (λ (l : List ℕ). get_or l 33 0) e in omega arith;
      agree = refl;
    };
  },
)

-- Then the boot check fails, and an update is refused 19. In a list nothing else brings a device there (`nobody-else` in AlteredHolds).
pub then-altered : (let now : Situation = after device fresh flash (before ▷ misleading) in boot_check weak now.device now.flash ≡ Refused refusal.Altered)
    × (answer_to device fresh flash (before ▷ misleading) (ample (update_message (manifest_with 3 (weak_hash 3)) 1 (replicate 64 1) [])) ≡ Refused refusal.Altered)
unfolding computing weak_hash weak device pair before misleading
then-altered = (refl, refl)
