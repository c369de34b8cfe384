-- Wrong devices that break what is said of one call (specs/OneCall). Where the comment says 'alone', all other clauses hold of the device, by reading. Demand 3 does
-- not see `nodding`, `late`, `believing` and `adopting`: they differ from the right device only where a block is refused 19, and in a list none is (`nobody-else` in AlteredHolds).
use Rattle.std.proofs.Common.{◌≡◌, refl, sym, ap, ◌∙◌, ⊎_elim, Bool, cond, ◌&&◌, List, [], ◌∷◌, ◌++◌, None, ℕ, arith, eqb, get_or, replicate}
use Rattle.wire.specs.declared.kind.Kind.TheVariants.{Program, Block, Update, PathUpdate}
use Rattle.wire.specs.declared.manifest.Manifest.{Manifest}
use Rattle.wire.specs.declared.refusal.Refusal.{Refusal}
use Rattle.wire.specs.declared.refusal.Refusal.TheVariants as refusal
use Rattle.wire.specs.Refusal.{refusal_number, first_that_applies}
use Rattle.wire.specs.Geometry.{count_of, tree_over}
use Rattle.wire.specs.Message.{kind, update_message}
use Rattle.sender.specs.Job.{program_for, block_for}
use Rattle.machine.specs.declared.state.Stage.TheVariants.{Complete}
use Rattle.machine.specs.declared.state.Device.{Device}
use Rattle.machine.specs.Answer.{Accepted, Refused}
use Rattle.machine.specs.Device.{next_of, Situation, Outcome}
use Rattle.machine.specs.Refusals.{lacks_root, refusals}
use Rattle.machine.specs.Readers.{number_of}
use Rattle.machine.specs.Step.{accept_block, accept, total, outcome, refusal_of, Call, step_call}
use Rattle.machine.proofs.RefusalLaws.{ahead, behind}
use Rattle.guarantee.specs.Part.{call}
use Rattle.guarantee.specs.Run.{empty, ◌▷◌, after}
use Rattle.guarantee.specs.Behind.{goes_by}
use Rattle.guarantee.specs.OneCall.{OneCall, EachCall}
use Rattle.guarantee.proofs.OneCallHolds.{each-call}
use Rattle.guarantee.proofs.Toy.{Step, any, fresh, flash, ample, manifest_with, leaving, but, but_flash, by_kind, computing, at}
use Rattle.guarantee.proofs.WrongFirst.{with_manifest}
use Rattle.guarantee.proofs.MisledRun.{weak_hash, weak, device, pair, before}

-- a device that waits for the last block of the pair, and that message: fives are loaded, threes are to come
pub waiting : Device
waiting = (after device fresh flash (empty ▷ ample (program_for weak pair []) ▷ ample (block_for weak pair.image 1))).device

pub threes : Call
threes = ample (block_for weak pair.image 2)

-- one that has the pair, and an update of its first block to fours, with the root 4: the larger of 4 and 3
pub finished : Device
finished = (after device fresh flash before).device

pub fours : Call
fours = ample (update_message (manifest_with 2 (weak_hash 4)) 1 (replicate 64 4) [])

-- a flash that somebody else overwrote with ones
pub worn : List ℕ
worn = replicate 130 1

-- one in which fives stand where the threes belong, so that the root is right without them
pub misplaced : List ℕ
misplaced = replicate 64 1 ++ replicate 64 5

-- one in which the fives are loaded, and nines stand where the threes belong, so that the root is right only once the threes are stored
pub untidy : List ℕ
untidy = replicate 64 5 ++ replicate 64 9

-- a device that refuses by other tests
judging : (Device → List ℕ → Call → List (Refusal × Bool)) → Step
judging tests d f c = let m = c.message in outcome (first_that_applies (tests d f c)) c.budget (total weak (kind m) d f m) d f (accept (kind m) d f m)

-- what is said of one call of such a device, with a budget that suffices, and of each
abbrev with : Step → (budget : ℕ) → Device → (flash m : List ℕ) → Outcome
with wrong budget d f m = wrong d f (call budget m)

abbrev Of : Step → Device → List ℕ → Call → Type 0
Of wrong d f c = OneCall weak (refusal_of weak any c.budget) c.budget (with wrong c.budget) d f c.message

abbrev Meets : Step → Type 0
Meets wrong = EachCall weak any (with wrong)

-- what the calls compute with
calling : ℕ
unfolding computing weak_hash weak device pair before waiting threes finished fours worn misplaced untidy judging ahead behind
calling = 0

-- the right device finds the worn flash altered, at the last block and at an update
pub finds-altered : ((device waiting worn threes).answer ≡ Refused refusal.Altered) × ((device finished worn fours).answer ≡ Refused refusal.Altered)
unfolding calling
finds-altered = (refl, refl)

-- Where the right one says 19 at the last block it says accepted, and changes nothing: caught at `answers`, alone.
pub nodding : Step
nodding = by_kind device (λ d f c.
    let o = device d f c in
    let m = c.message in
    cond (eqb (number_of o.answer) (refusal_number refusal.Altered)) (outcome None c.budget (total weak (kind m) d f m) d f (record { device = d; flash = f })) o) device device

pub nodding-caught : Of nodding waiting worn threes → ⊥
unfolding calling nodding
nodding-caught h =
    let z : ◌≡◌ {A = ℕ} 0 19 = ap number_of h.answers in
    omega arith

-- It looks for 19 once the block is stored, and leaves it there: caught at `refused`, alone.
pub late : Step
late = by_kind device (λ d f c.
    let o = device d f c in
    leaving o o.device (cond (eqb (number_of o.answer) (refusal_number refusal.Altered)) (accept_block d f c.message).flash o.flash)) device device

pub late-caught : Of late waiting worn threes → ⊥
unfolding calling late
late-caught h =
    let z : ◌≡◌ {A = ℕ} 3 1 = ap (λ (l : List ℕ). get_or l 64 0) (h.refused refusal.Altered refl).1 in
    omega arith

-- It takes an update's block and keeps the manifest that it had: caught at `manifest`, alone.
pub stale : Step
stale = by_kind device device (λ d f c. but (device d f c) d) device

pub stale-caught : Of stale finished pair.image.bytes fours → ⊥
unfolding calling stale goes_by
stale-caught h =
    let z : ◌≡◌ {A = ℕ} 1 2 = ap (λ (s : Manifest). s.serial) (h.manifest refl) in
    omega arith

-- It has no 19 at an update: caught at `before`, and at `answers`.
pub incurious : Step
incurious = by_kind device device (judging (λ d f c. let es = refusals weak any c.budget Update d f c.message in ahead refusal.Altered es ++ behind refusal.Altered es)) device

pub incurious-caught : Of incurious finished worn fours → ⊥
unfolding calling incurious
incurious-caught h =
    let z : ◌≡◌ {A = ℕ} 1 5 = ap (λ (l : List ℕ). get_or l 1 0) (h.before refl refl).root in
    omega arith

-- It takes an update's manifest and leaves the block as it was: caught at `update`, alone.
pub withholding : Step
withholding = by_kind device device (λ d f c. but_flash (device d f c) f) device

pub withholding-caught : Of withholding finished pair.image.bytes fours → ⊥
unfolding calling withholding
withholding-caught h =
    let z : ◌≡◌ {A = ℕ} 5 4 = ap (λ (l : List ℕ). get_or l 1 0) (h.update refl refl).root in
    omega arith

-- A last block that is taken, and the program complete, where the root is 3 and the manifest's 5.
three-for-five : (wrong : Step) (f : List ℕ) → (wrong waiting f threes).answer ≡ Accepted → (wrong waiting f threes).device.stage ≡ Complete
    → get_or (tree_over weak waiting.manifest (wrong waiting f threes).flash) 1 0 ≡ 3 → Of wrong waiting f threes → ⊥
unfolding calling
three-for-five wrong f a c e h =
    let z : ◌≡◌ {A = ℕ} 3 5 = sym e ∙ ap (λ (l : List ℕ). get_or l 1 0) (h.last refl a c).root in
    omega arith

-- It trusts the hashes held and has no 19 at the last block: caught at `last`, and at `answers`.
pub believing : Step
believing = by_kind device (judging (λ d f c. ahead refusal.Altered (refusals weak any c.budget Block d f c.message))) device device

pub believing-caught : Of believing waiting worn threes → ⊥
unfolding calling believing
believing-caught = three-for-five believing worn refl refl refl

-- At the last block it looks at the flash as handed in, without that block: caught at `last`, and at `answers`.
pub shortsighted : Step
shortsighted = by_kind device (judging (λ d f c.
    let s = d.manifest in
    ahead refusal.Altered (refusals weak any c.budget Block d f c.message) ++ ((refusal.Altered, eqb (next_of d.stage) (count_of s) && lacks_root weak s f) ∷ []))) device device

pub shortsighted-caught : Of shortsighted waiting misplaced threes → ⊥
unfolding calling shortsighted
shortsighted-caught = three-for-five shortsighted misplaced refl refl refl

-- It takes blocks and stores none: caught at `last`, alone.
pub dropping : Step
dropping = by_kind device (λ d f c. but_flash (device d f c) f) device device

pub dropping-caught : Of dropping waiting untidy threes → ⊥
unfolding calling dropping
dropping-caught h =
    let z : ◌≡◌ {A = ℕ} 9 5 = ap (λ (l : List ℕ). get_or l 1 0) (h.last refl refl refl).root in
    omega arith

-- It is complete as soon as it takes a new program: caught at `only`, alone.
pub waking : Step
waking = by_kind (λ d f c. let o = device d f c in but o (at Complete o.device)) device device device

pub waking-caught : Of waking fresh flash (ample (program_for weak pair [])) → ⊥
unfolding calling waking at
waking-caught h =
    ⊎_elim (λ (e : Program ≡ Block). cc)
    (λ r. ⊎_elim (λ (e : Program ≡ Update). cc) (λ (e : Program ≡ PathUpdate). cc) r) (h.only refl refl)

-- Where the right one says 19 at the last block it takes that, and the root that it finds: caught at `last`, and at `answers` and `manifest`.
pub adopting : Step
adopting = by_kind device (λ d f c.
    let o = device d f c in
    let m = c.message in
    let t = accept_block d f m in
    let taken : Situation = record { device = with_manifest d.manifest.serial (tree_over weak d.manifest t.flash) t.device; flash = t.flash } in
    cond (eqb (number_of o.answer) (refusal_number refusal.Altered)) (outcome None c.budget (total weak (kind m) d f m) d f taken) o) device device

pub adopting-caught : Of adopting waiting worn threes → ⊥
unfolding calling adopting with_manifest
adopting-caught = three-for-five adopting worn refl refl refl

-- It reports no compressions: caught at `reports`, alone.
pub silent : Step
silent = by_kind device (λ d f c. let o = device d f c in record { answer = o.answer; compressions = 0; budget = o.budget; device = o.device; flash = o.flash }) device device

pub silent-caught : Of silent waiting pair.image.bytes threes → ⊥
unfolding calling silent
silent-caught h =
    let z : ◌≡◌ {A = ℕ} 0 8 = h.reports.0 in
    omega arith

pub none-meets-each-call : (Meets nodding → ⊥)
    × (Meets late → ⊥)
    × (Meets stale → ⊥)
    × (Meets incurious → ⊥)
    × (Meets withholding → ⊥)
    × (Meets believing → ⊥)
    × (Meets shortsighted → ⊥)
    × (Meets dropping → ⊥)
    × (Meets waking → ⊥)
    × (Meets adopting → ⊥)
    × (Meets silent → ⊥)
none-meets-each-call = (
  λ c. nodding-caught (c _ _ _ _),
  λ c. late-caught (c _ _ _ _),
  λ c. stale-caught (c _ _ _ _),
  λ c. incurious-caught (c _ _ _ _),
  λ c. withholding-caught (c _ _ _ _),
  λ c. believing-caught (c _ _ _ _),
  λ c. shortsighted-caught (c _ _ _ _),
  λ c. dropping-caught (c _ _ _ _),
  λ c. waking-caught (c _ _ _ _),
  λ c. adopting-caught (c _ _ _ _),
  λ c. silent-caught (c _ _ _ _),
)

-- The right device does, with the same hash function and verdicts.
pub right-meets : Meets device
unfolding device step_call
right-meets = each-call weak any
