-- Wrong devices that break what is said of each call. Where the comment says 'alone', all other clauses of demand 3 hold of the device, by reading.
use Rattle.std.proofs.Common.{◌≡◌, refl, ap, cond, ◌&&◌, List, [], ◌∷◌, ℕ, ◌-◌, ◌*◌, arith, eqb, ltb, length, set, take, drop, replicate, Ok, Err}
use Rattle.octets.specs.Octets.{number}
use Rattle.merkle.specs.Limits.{held_bytes}
use Rattle.wire.specs.declared.kind.Kind.TheVariants.{PathUpdate}
use Rattle.wire.specs.declared.refusal.Refusal.TheVariants as refusal
use Rattle.wire.specs.Geometry.{count_of}
use Rattle.wire.specs.Message.{update_message, path_message, manifest_in}
use Rattle.sender.specs.Job.{manifest_for}
use Rattle.machine.specs.declared.state.Device.{Device}
use Rattle.machine.specs.Answer.{Accepted, Refused}
use Rattle.machine.specs.Device.{Situation}
use Rattle.machine.specs.Flash.{updated}
use Rattle.machine.specs.Refusals.{too_small, not_loading, refusals}
use Rattle.machine.specs.Readers.{number_of}
use Rattle.machine.specs.Step.{accept_block}
use Rattle.machine.proofs.RefusalLaws.{test_of}
use Rattle.guarantee.specs.Run.{empty, ◌▷◌}
use Rattle.guarantee.specs.Demand3.{Calls}
use Rattle.guarantee.proofs.Toy.{Step, toy, any, part, job, newer, old, uneven, fresh, flash, ample, send_program, send_block, send_path, program, right, refusing_as, refusing, leaving, but, by_kind, computing, loaded}

-- It refuses every manifest, or every path update: each alone.
pub closed : Step
closed = by_kind refusing right right right

pub closed-caught : Calls toy any part closed fresh flash empty → ⊥
unfolding computing closed
closed-caught h =
    let e : Refused refusal.State ≡ Accepted = h.answers program in
    cc

pub unaware : Step
unaware = by_kind right right right refusing

pub unaware-caught : Calls toy any part unaware fresh flash loaded → ⊥
unfolding computing unaware
unaware-caught h =
    let e : Refused refusal.State ≡ Accepted = h.answers (send_path newer 2) in
    cc

-- It writes an updated block before its root agrees, or a path update's before its paths do.
writing : Step
writing d f c = let o = right d f c in leaving o o.device (updated (manifest_in c.message) f c.message)

pub hasty : Step
hasty = by_kind right right writing right

pub hasty-caught : Calls toy any part hasty fresh flash loaded → ⊥
unfolding computing hasty writing
hasty-caught h =
    let r = h.refused (ample (update_message (manifest_for toy newer) 1 (replicate 64 9) [])) refusal.Mismatch refl in
    let z : ◌≡◌ {A = ℕ} 9 3 = ap (λ (s : Situation). number (take 1 s.flash)) r in
    omega arith

pub rash : Step
rash = by_kind right right right writing

pub rash-caught : Calls toy any part rash fresh flash loaded → ⊥
unfolding computing rash writing
rash-caught h =
    let r = h.refused (ample (path_message (manifest_for toy newer) 1 (replicate 64 9) (toy (replicate 64 4)) [])) refusal.Path refl in
    let z : ◌≡◌ {A = ℕ} 9 3 = ap (λ (s : Situation). number (take 1 s.flash)) r in
    omega arith

-- While it loads nothing, it writes to its array at a refused message: alone, since nothing looks there before the next manifest.
pub scribbling : Step
scribbling d f c =
    let o = right d f c in
    elim o.answer [
      | Ok _ ↦ o
      | Err r ↦ cond (not_loading d.stage) (leaving o (record { model = d.model; key = d.key; stage = d.stage; manifest = d.manifest; hashes = set d.hashes 0 7 }) f) o
    ]

pub scribbling-caught : Calls toy any part scribbling fresh flash empty → ⊥
unfolding computing scribbling
scribbling-caught h =
    let r = h.refused (ample []) refusal.Kind refl in
    let z : ◌≡◌ {A = ℕ} 7 0 = ap (λ (s : Situation). number (take 1 s.device.hashes)) r in
    omega arith

-- It changes its model, or its key, when it takes a manifest: each alone.
with_identity : (model : ℕ) (key : List ℕ) → Device → Device
with_identity model key d = record { model = model; key = key; stage = d.stage; manifest = d.manifest; hashes = d.hashes }

pub turning : Step
turning = by_kind (λ d f c. let o = right d f c in but o (with_identity 8 d.key o.device)) right right right

pub turning-caught : Calls toy any part turning fresh flash (empty ▷ program) → ⊥
unfolding computing turning with_identity
turning-caught h =
    let z : ◌≡◌ {A = ℕ} 8 7 = h.model in
    omega arith

pub rekeying : Step
rekeying = by_kind (λ d f c. let o = right d f c in but o (with_identity d.model (1 ∷ []) o.device)) right right right

pub rekeying-caught : Calls toy any part rekeying fresh flash (empty ▷ program) → ⊥
unfolding computing rekeying with_identity
rekeying-caught h =
    let z : ◌≡◌ {A = ℕ} 1 0 = ap (λ (l : List ℕ). length l) h.key in
    omega arith

-- It keeps the hashes of a refused block message, as the paper's algorithm 3.2 does.
pub leaking : Step
leaking = by_kind right (λ d f c.
    let o = right d f c in
    leaving o (record { model = d.model; key = d.key; stage = o.device.stage; manifest = d.manifest; hashes = (accept_block d f c.message).device.hashes }) o.flash) right right

pub leaking-caught : Calls toy any part leaking fresh flash (empty ▷ program) → ⊥
unfolding computing leaking
leaking-caught h =
    let r = h.refused (send_block newer.image 1) refusal.Mismatch refl in
    let z : ◌≡◌ {A = ℕ} 4 1 = ap (λ (s : Situation). number (take 1 (drop (held_bytes - 31) s.device.hashes))) r in
    omega arith

-- It writes a block before it compares.
pub spilling : Step
spilling = by_kind right (λ d f c. let o = right d f c in leaving o o.device (accept_block d f c.message).flash) right right

pub spilling-caught : Calls toy any part spilling fresh flash (empty ▷ program ▷ send_block job.image 1) → ⊥
unfolding computing spilling
spilling-caught h =
    let r = h.refused (send_block newer.image 2) refusal.Mismatch refl in
    let z : ◌≡◌ {A = ℕ} 4 5 = ap (λ (s : Situation). number (take 1 (drop 64 s.flash))) r in
    omega arith

-- It looks at the flash before it looks at the serial, 8 before 7: alone.
pub reordering : Step
reordering = by_kind (λ d f c. cond (too_small (manifest_in c.message) f) (refusing_as refusal.Area d f c) (right d f c)) right right right

pub reordering-caught : Calls toy any part reordering fresh [] empty → ⊥
unfolding computing reordering
reordering-caught h =
    let z : ◌≡◌ {A = ℕ} 8 7 = ap number_of (h.answers (send_program old)) in
    omega arith

-- It asks a new program for the bytes of whole blocks, n × L, and the messages after it have its lengths: alone.
pub demanding : Step
demanding = by_kind (λ d f c.
    let s = manifest_in c.message in
    cond (eqb (number_of (right d f c).answer) 0 && ltb (length f) (count_of s * s.block_len)) (refusing_as refusal.Area d f c) (right d f c)) right right right

pub demanding-caught : Calls toy any part demanding fresh (replicate 257 5) empty → ⊥
unfolding computing demanding
demanding-caught h =
    let z : ◌≡◌ {A = ℕ} 8 0 = ap number_of (h.answers (send_program uneven)) in
    omega arith

-- It looks at the new root before it looks at the old one, 14 before 15: alone.
pub swapping : Step
swapping = by_kind right right right (λ d f c.
    let o = right d f c in
    cond (eqb (number_of o.answer) 15 && test_of refusal.Mismatch (refusals toy any c.budget PathUpdate d f c.message))
    (refusing_as refusal.Mismatch d f c) o)

pub swapping-caught : Calls toy any part swapping fresh flash loaded → ⊥
unfolding computing test_of swapping
swapping-caught h =
    let z : ◌≡◌ {A = ℕ} 14 15 = ap number_of (h.answers (ample (path_message (manifest_for toy newer) 1 (replicate 64 9) (toy (replicate 64 9)) []))) in
    omega arith
