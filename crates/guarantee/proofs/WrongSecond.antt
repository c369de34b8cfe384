-- Wrong devices that break the second half. Where the comment says 'alone', all other clauses of demand 3 hold of the device, by reading.
use Rattle.std.proofs.Common.{◌≡◌, refl, ap, cond, ◌&&◌, List, ℕ, suc, pred, ◌-◌, ◌%◌, arith, eqb, lit<, lit≤, length, get_or, set, take, drop, replicate}
use Rattle.octets.specs.Octets.{number, joined}
use Rattle.merkle.specs.Limits.{held_bytes}
use Rattle.sender.specs.Job.{Job}
use Rattle.machine.specs.declared.state.Stage.TheVariants.{Loading}
use Rattle.machine.specs.declared.state.Device.{Device}
use Rattle.machine.specs.Answer.{Accepted}
use Rattle.machine.specs.Device.{next_of}
use Rattle.guarantee.specs.Run.{empty, ◌▷◌, answer_to, blocks_since}
use Rattle.guarantee.specs.Demand3.{Begun, begin, next, SecondHalf}
use Rattle.guarantee.proofs.Toy.{Step, toy, any, part, job, fresh, flash, send_program, send_block, program, right, refusing, leaving, but, but_flash, by_kind, computing, loaded, at}

-- The honest run of the job, as far as the wrong device takes the manifest.
begun-by : (wrong : Step) → answer_to wrong fresh flash empty program ≡ Accepted → Begun toy any part wrong fresh flash job empty program
unfolding computing
begun-by wrong e = record { sendable = record { size = refl; model = lit< tt; serial = lit< tt }; program = refl; carries = refl; taken = (refl, e) }

-- It takes manifests and refuses each block.
pub deaf : Step
deaf = by_kind right refusing right right

pub deaf-caught : SecondHalf toy any part deaf fresh flash (empty ▷ program ▷ send_block job.image 1) → ⊥
unfolding computing deaf
deaf-caught h =
    let r = (h.loads job empty program 1 (begun-by deaf refl) (next (lit< tt) refl refl (lit≤ tt) begin)).all in
    let z : ◌≡◌ {A = ℕ} 0 1 = ap blocks_since r in
    omega arith

-- It answers as it should, and leaves state and flash untouched.
pub still : Step
still d f c = leaving (right d f c) d f

pub still-caught : SecondHalf toy any part still fresh flash (empty ▷ program) → ⊥
unfolding computing still
still-caught h =
    let r = (h.loads job empty program 0 (begun-by still refl) begin).held in
    let z : ◌≡◌ {A = ℕ} 0 1 = ap (λ (l : List (List ℕ)). length l) r in
    omega arith

-- It does not put the message's hashes in the place of the held one.
pub hoarding : Step
hoarding = by_kind right (λ d f c. let o = right d f c in but o (at o.device.stage d)) right right

pub hoarding-caught : SecondHalf toy any part hoarding fresh flash (empty ▷ program ▷ send_block job.image 1) → ⊥
unfolding computing hoarding at
hoarding-caught h =
    let r = (h.loads job empty program 1 (begun-by hoarding refl) (next (lit< tt) refl refl (lit≤ tt) begin)).held in
    let z : ◌≡◌ {A = ℕ} 1 3 = ap (λ (l : List (List ℕ)). number (take 1 (drop 1 (joined l)))) r in
    omega arith

-- It holds a number of hashes that is not the tree's: its next number runs ahead.
pub skipping : Step
skipping = by_kind right (λ d f c. let o = right d f c in but o (at (Loading 3) o.device)) right right

pub skipping-caught : SecondHalf toy any part skipping fresh flash (empty ▷ program ▷ send_block job.image 1) → ⊥
unfolding computing skipping at
skipping-caught h =
    let r = (h.loads job empty program 1 (begun-by skipping refl) (next (lit< tt) refl refl (lit≤ tt) begin)).held in
    let z : ◌≡◌ {A = ℕ} 0 1 = ap (λ (l : List (List ℕ)). length l) r in
    omega arith

-- After the first of three blocks, it holds the hash of the third with another last byte, and puts that right when the second is accepted: alone.
pub three : Job
three = record { image = record { bytes = replicate 192 3; block_len = 64 }; model = 7; serial = 1 }

flipped : List ℕ → List ℕ
flipped array = let last = held_bytes - 1 in let b = get_or array last 0 in set array last (cond (eqb (b % 2) 0) (suc b) (pred b))

mislaid : Device → Device
mislaid d =
    cond (eqb (next_of d.stage) 2 && eqb d.manifest.image_len 192 && eqb d.manifest.block_len 64)
    (record { model = d.model; key = d.key; stage = d.stage; manifest = d.manifest; hashes = flipped d.hashes }) d

pub mislaying : Step
mislaying d f c = let o = right (mislaid d) f c in leaving o (mislaid o.device) o.flash

mislaying-begun : Begun toy any part mislaying fresh (replicate 192 5) three empty (send_program three)
unfolding computing three mislaying mislaid
mislaying-begun = record { sendable = record { size = refl; model = lit< tt; serial = lit< tt }; program = refl; carries = refl; taken = (refl, refl) }

pub mislaying-caught : SecondHalf toy any part mislaying fresh (replicate 192 5) (empty ▷ send_program three ▷ send_block three.image 1) → ⊥
unfolding computing three flipped mislaying mislaid
mislaying-caught h =
    let r = (h.loads three empty (send_program three) 1 mislaying-begun (next (lit< tt) refl refl (lit≤ tt) begin)).held in
    let z : ◌≡◌ {A = ℕ} 2 3 = ap (λ (l : List (List ℕ)). number (drop 63 (joined l))) r in
    omega arith

-- It stores a block with another first byte: alone, since the toy hash does not look at that byte, and the root is right.
pub garbling : Step
garbling = by_kind right (λ d f c. let o = right d f c in but_flash o (set o.flash 0 9)) right right

pub garbling-caught : SecondHalf toy any part garbling fresh flash loaded → ⊥
unfolding computing garbling
garbling-caught h =
    let r = ((h.loads job empty program 2 (begun-by garbling refl) (next (lit< tt) refl refl (lit≤ tt) (next (lit< tt) refl refl (lit≤ tt) begin))).done refl).image in
    let z : ◌≡◌ {A = ℕ} 9 3 = ap (λ (l : List ℕ). number (take 1 l)) r in
    omega arith
