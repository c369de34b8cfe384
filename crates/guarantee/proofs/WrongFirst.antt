-- Wrong devices that break the first half. Where the comment says 'alone', all other clauses of demand 3 hold of the device, by reading.
use Rattle.std.proofs.Common.{◌≡◌, refl, sym, ap, ◌∙◌, ⊎_elim, false, cond, ◌&&◌, ◌||◌, true≢false, List, [], ◌++◌, None, Some, ℕ, pred, ◌-◌, arith, eqb, ltb, lit<, length, get_or, set, take, drop, replicate, Ok, Err}
use mathlib.Core.Bool.{false≢true}
use mathlib.Core.List.Memᴰ
use Rattle.octets.specs.Octets.{number, equal}
use Rattle.octets.proofs.EqualLaws.{equal-self}
use Rattle.merkle.specs.Shape.{leaf, node}
use Rattle.wire.specs.declared.manifest.Manifest.{Manifest}
use Rattle.wire.specs.declared.refusal.Refusal.TheVariants as refusal
use Rattle.wire.specs.Refusal.{refusal_number}
use Rattle.wire.specs.Geometry.{count_of, block_length, blocks_of, with_block, tree_over}
use Rattle.wire.specs.Message.{path_message, manifest_in, block_in, update_number, update_block}
use Rattle.sender.specs.Job.{manifest_for}
use Rattle.machine.specs.declared.state.Stage.TheVariants.{Idle, Loading, Complete}
use Rattle.machine.specs.declared.state.Device.{Device}
use Rattle.machine.specs.Device.{next_of}
use Rattle.machine.specs.Readers.{number_of}
use Rattle.machine.specs.Step.{accept_update, outcome, Call}
use Rattle.machine.proofs.RefusalLaws.{led_to}
use Rattle.guarantee.specs.Part.{whole}
use Rattle.guarantee.specs.Run.{Trace, empty, ◌▷◌, after, accepted, last_program, blocks_since, paths_since, last_carrier, Completed}
use Rattle.guarantee.specs.Demand3.{Clash, here, Misled, FirstHalf}
use Rattle.guarantee.proofs.MisledLaws.{unmisled, first-path}
use Rattle.guarantee.proofs.Toy.{Step, toy, any, part, nobody, job, newer, uneven, fresh, flash, ample, send_program, send_block, send_update, send_path, program, manifest_with, nobodys, no_image, right, taking, leaving, but, but_flash, by_kind, computing, loaded, none-collides, at}

-- A complete device whose tree lacks its manifest's root, and that no path update misled.
unrooted : (wrong : Step) (cs : Trace Call) → (Misled toy any part wrong fresh flash cs → ⊥) → Completed (accepted wrong fresh flash part cs)
    → (let now = after wrong fresh flash cs in equal (tree_over toy now.device.manifest now.flash) now.device.manifest.root ≡ false)
    → FirstHalf toy any part wrong fresh flash cs → ⊥
unrooted wrong cs n c e h =
    let root : List ℕ = (after wrong fresh flash cs).device.manifest.root in
    let t = ⊎_elim (λ t. t) (λ w. absurd (n w)) (h.bound c).tree in
    true≢false (sym (equal-self root) ∙ ap (λ x. equal x root) (sym t.rooted) ∙ e)

-- .. after a path update that clashes with the tree nowhere
by-path : (wrong : Step) (c : Call) → paths_since (accepted wrong fresh flash part loaded) ≡ 0 → (Clash toy (after wrong fresh flash loaded).flash c.message → ⊥)
    → Completed (accepted wrong fresh flash part (loaded ▷ c))
    → (let now = after wrong fresh flash (loaded ▷ c) in equal (tree_over toy now.device.manifest now.flash) now.device.manifest.root ≡ false)
    → FirstHalf toy any part wrong fresh flash (loaded ▷ c) → ⊥
by-path wrong c n q = unrooted wrong (loaded ▷ c) (first-path toy any part wrong fresh flash loaded c n q)

-- It checks block 1 and merely steps on for later ones.
pub careless : Step
careless = by_kind right (λ d f c. cond (ltb 1 (next_of d.stage)) (taking d f c) (right d f c)) right right

pub careless-list : Trace Call
careless-list = empty ▷ program ▷ send_block job.image 1 ▷ send_block newer.image 2

pub careless-caught : FirstHalf toy any part careless fresh flash careless-list → ⊥
unfolding computing careless careless-list
careless-caught = unrooted careless careless-list (unmisled toy any part careless fresh flash careless-list refl) (record { manifest = manifest_for toy job; last = refl; all = refl }) refl

-- It does not compare an update's root. Before that a path update clashed, with a sibling whose last byte the toy hash does not see: that is no excuse.
pub blind : Step
blind = by_kind right right taking right

pub clashing : Call
clashing = ample (path_message (manifest_for toy (record { image = job.image; model = 7; serial = 2 })) 1 (replicate 64 3) (set (toy (replicate 64 3)) 31 9) [])

pub clashing-misleads : Misled toy any part blind fresh flash (loaded ▷ clashing)
unfolding computing blind clashing
clashing-misleads =
    record {
      before = loaded;
      call = clashing;
      path = refl;
      taken = (refl, refl);
      since = here;
      clash = record {
        place = (0, node leaf leaf);
        given = toy (replicate 64 3) ++ set (toy (replicate 64 3)) 31 9;
        within = Memᴰ.tail (Memᴰ.head refl);
        differ = λ e. let z : ◌≡◌ {A = ℕ} 3 9 = ap (λ (l : List ℕ). get_or l 63 0) e in omega arith;
        agree = refl;
      };
    }

pub blind-list : Trace Call
blind-list = loaded ▷ clashing ▷ send_update (record { image = newer.image; model = 7; serial = 3 }) 1

pub blind-caught : FirstHalf toy any part blind fresh flash blind-list → ⊥
unfolding computing blind clashing blind-list
blind-caught = unrooted blind blind-list (unmisled toy any part blind fresh flash blind-list refl) (record { manifest = manifest_for toy job; last = refl; all = refl }) refl

-- Its manifest is not the last accepted message's.
other-serial : (wrong : Step) (cs : Trace Call) (c : Call) → last_carrier (accepted wrong fresh flash part cs) ≡ Some c.message
    → ((after wrong fresh flash cs).device.manifest.serial ≡ (manifest_in c.message).serial → ⊥) → FirstHalf toy any part wrong fresh flash cs → ⊥
other-serial wrong cs c e n h = n (ap (λ (s : Manifest). s.serial) (h.manifest c.message e))

-- the device with another serial and root in its manifest
unfoldable pub with_manifest : (serial : ℕ) (root : List ℕ) → Device → Device
with_manifest serial root d =
    let s = d.manifest in
    record {
      model = d.model;
      key = d.key;
      stage = d.stage;
      manifest = record { version = s.version; block_len = s.block_len; model = s.model; serial = serial; image_len = s.image_len; root = root };
      hashes = d.hashes;
    }

-- It keeps the old serial when it takes an update, or one by a path, so that older updates are taken again: each alone.
same_serial : Step
same_serial d f c = let o = right d f c in but o (with_manifest d.manifest.serial o.device.manifest.root o.device)

pub keeping : Step
keeping = by_kind right right same_serial right

pub keeping-caught : FirstHalf toy any part keeping fresh flash (loaded ▷ send_update newer 2) → ⊥
unfolding computing keeping same_serial with_manifest
keeping-caught = other-serial keeping (loaded ▷ send_update newer 2) (send_update newer 2) refl (λ (e : ◌≡◌ {A = ℕ} 1 2). omega arith)

pub clinging : Step
clinging = by_kind right right right same_serial

pub clinging-caught : FirstHalf toy any part clinging fresh flash (loaded ▷ send_path newer 2) → ⊥
unfolding computing clinging same_serial with_manifest
clinging-caught = other-serial clinging (loaded ▷ send_path newer 2) (send_path newer 2) refl (λ (e : ◌≡◌ {A = ℕ} 1 2). omega arith)

-- It keeps the whole old manifest when it takes a path update.
pub stuck : Step
stuck = by_kind right right right (λ d f c. let o = right d f c in but o d)

pub stuck-caught : FirstHalf toy any part stuck fresh flash (loaded ▷ send_path newer 2) → ⊥
unfolding computing stuck
stuck-caught = other-serial stuck (loaded ▷ send_path newer 2) (send_path newer 2) refl (λ (e : ◌≡◌ {A = ℕ} 1 2). omega arith)

-- It forgets the serial while it loads, so that older programs are taken again.
pub forgetting : Step
forgetting = by_kind (λ d f c. let o = right d f c in but o (with_manifest 0 o.device.manifest.root o.device)) right right right

pub forgetting-caught : FirstHalf toy any part forgetting fresh flash (empty ▷ program) → ⊥
unfolding computing forgetting with_manifest
forgetting-caught = other-serial forgetting (empty ▷ program) program refl (λ (e : ◌≡◌ {A = ℕ} 0 1). omega arith)

-- It stays idle after a manifest whose root no image has, so that older serials are taken next: alone, since no run with it is honest.
pub idling : Step
idling = by_kind (λ d f c. let o = right d f c in cond (no_image (manifest_in c.message)) (but o (at Idle o.device)) o) right right right

pub idling-caught : FirstHalf toy any part idling fresh flash (empty ▷ nobodys) → ⊥
unfolding computing idling at
idling-caught h =
    let e : Idle ≡ Loading 1 = h.loading (manifest_in nobodys.message) refl (lit< tt) in
    cc

-- It is complete after the first block.
pub early : Step
early = by_kind right (λ d f c. let o = right d f c in but o (at Complete o.device)) right right

pub early-list : Trace Call
early-list = empty ▷ program ▷ send_block job.image 1

early-runs : ((after early fresh flash early-list).device.stage ≡ Complete) × (blocks_since (accepted early fresh flash part early-list) ≡ 1)
    × (last_program (accepted early fresh flash part early-list) ≡ Some (manifest_for toy job)) × (count_of (manifest_for toy job) ≡ 2)
unfolding computing early at early-list
early-runs = (refl, refl, refl, refl)

pub early-caught : FirstHalf toy any part early fresh flash early-list → ⊥
early-caught h =
    let r = early-runs in
    let c = h.exactly.0 r.0 in
    let l = c.last in
    let q : c.manifest ≡ manifest_for toy job = cc r.2 in
    let z : ◌≡◌ {A = ℕ} 1 2 = sym r.1 ∙ c.all ∙ ap count_of q ∙ r.3 in
    omega arith

-- It is idle after an update, so that older serials are taken next: alone. (A device whose download does not end in complete breaks the honest run too: every complete
-- download of bytes is one.)
pub lapsing : Step
lapsing = by_kind right right (λ d f c. let o = right d f c in but o (at Idle o.device)) right

pub lapsing-caught : FirstHalf toy any part lapsing fresh flash (loaded ▷ send_update newer 2) → ⊥
unfolding computing lapsing at
lapsing-caught h =
    let e : Idle ≡ Complete = h.exactly.1 (record { manifest = manifest_for toy job; last = refl; all = refl }) in
    cc

-- It takes an update's manifest, or a path update's, and leaves the block as it was: each alone, but for the image, which follows from the root. The sender's path
-- has the tree's hash inputs, so it misleads no device.
unchanged : Step
unchanged d f c = but_flash (right d f c) f

pub unwritten : Step
unwritten = by_kind right right unchanged right

pub unwritten-caught : FirstHalf toy any part unwritten fresh flash (loaded ▷ send_update newer 2) → ⊥
unfolding computing unwritten unchanged
unwritten-caught = unrooted unwritten (loaded ▷ send_update newer 2) (unmisled toy any part unwritten fresh flash (loaded ▷ send_update newer 2) refl) (record { manifest = manifest_for toy job; last = refl; all = refl }) refl

pub untouched : Step
untouched = by_kind right right right unchanged

pub untouched-caught : FirstHalf toy any part untouched fresh flash (loaded ▷ send_path newer 2) → ⊥
unfolding computing untouched unchanged
untouched-caught = by-path untouched (send_path newer 2) refl (none-collides (refl, (refl, tt))) (record { manifest = manifest_for toy job; last = refl; all = refl }) refl

-- Three devices that take path updates which the right one refuses, so that their answers fail too: shown where it does harm, at the tree.

-- It takes a path update as if the current root were another.
holding : List ℕ → Step
holding root d f c = let o = right (with_manifest d.manifest.serial root d) f c in elim o.answer [ Ok _ ↦ o | Err r ↦ leaving o d f ]

-- It does not compare where the old block leads. So it takes a path of the newer image, whose second block its flash does not have.
pub trusting : Step
trusting = by_kind right right right (λ d f c. let m = c.message in holding (led_to toy any d f m (blocks_of (manifest_in m) f (pred (update_number m)))) d f c)

pub trusting-caught : FirstHalf toy any part trusting fresh flash (loaded ▷ send_path newer 1) → ⊥
unfolding computing trusting holding with_manifest
trusting-caught = by-path trusting (send_path newer 1) refl (none-collides (refl, (refl, tt))) (record { manifest = manifest_for toy job; last = refl; all = refl }) refl

-- It compares the old block, too, with the new root.
pub doubling : Step
doubling = by_kind right right right (λ d f c. holding (manifest_in c.message).root d f c)

pub doubling-caught : FirstHalf toy any part doubling fresh flash (loaded ▷ send_path newer 1) → ⊥
unfolding computing doubling holding with_manifest
doubling-caught = by-path doubling (send_path newer 1) refl (none-collides (refl, (refl, tt))) (record { manifest = manifest_for toy job; last = refl; all = refl }) refl

-- It compares the new root with the new block's own hash, and not with where its path leads.
pub nearsighted : Step
nearsighted = by_kind right right right (λ d f c.
    let o = right d f c in
    let n = number_of o.answer in
    let m = c.message in
    let s = manifest_in m in
    cond (eqb n 0 || eqb n (refusal_number refusal.Mismatch))
    (outcome (cond (equal (toy (update_block (block_length s.block_len s.image_len (update_number m)) m)) s.root) None (Some refusal.Mismatch)) c.budget 0 d f (accept_update d f m)) o)

pub own_hash : Call
own_hash = ample (path_message (manifest_with 2 (toy (replicate 64 4))) 2 (replicate 64 4) (toy (replicate 64 3)) [])

pub nearsighted-caught : FirstHalf toy any part nearsighted fresh flash (loaded ▷ own_hash) → ⊥
unfolding computing nearsighted own_hash
nearsighted-caught = by-path nearsighted own_hash refl (none-collides (refl, (refl, tt))) (record { manifest = manifest_for toy job; last = refl; all = refl }) refl

-- It accepts everything.
pub taking-caught : FirstHalf toy nobody (whole toy nobody) taking fresh flash loaded → ⊥
unfolding computing
taking-caught h = false≢true (h.bound (record { manifest = manifest_for toy job; last = refl; all = refl })).signed

-- It overwrites the byte behind the program when it takes an update: alone.
pub smearing : Step
smearing = by_kind right right (λ d f c. let o = right d f c in but_flash o (set o.flash o.device.manifest.image_len 0)) right

pub smearing-caught : FirstHalf toy any part smearing fresh flash loaded → ⊥
unfolding computing smearing
smearing-caught h =
    let z : ◌≡◌ {A = ℕ} 0 5 = ap (λ (l : List ℕ). number (take 1 l)) (h.beyond (send_update newer 2)) in
    omega arith

-- It writes L bytes of a last block that has fewer, the rest of them 0xFF. So it overwrites what stands behind the program.
wholly : Manifest → (i : ℕ) (block flash : List ℕ) → List ℕ
wholly s i block flash = with_block s.block_len flash i (block ++ replicate (s.block_len - length block) 255)

whole_block : Step
whole_block d f c = let s = d.manifest in let i = next_of d.stage in but_flash (right d f c) (wholly s i (block_in (block_length s.block_len s.image_len i) c.message) f)

whole_update : Step
whole_update d f c =
    let m = c.message in
    let s = manifest_in m in
    let i = update_number m in
    but_flash (right d f c) (wholly s i (update_block (block_length s.block_len s.image_len i) m) f)

pub padding : Step
padding = by_kind right whole_block whole_update whole_update

pub padding-caught : FirstHalf toy any part padding fresh (replicate 512 5) (empty ▷ send_program uneven ▷ send_block uneven.image 1) → ⊥
unfolding computing padding whole_block whole_update wholly
padding-caught h =
    let z : ◌≡◌ {A = ℕ} 255 5 = ap (λ (l : List ℕ). number (take 1 l)) (h.beyond (send_block uneven.image 2)) in
    omega arith

-- It shortens a flash that has just room for the program, when it takes a manifest whose root no image has: alone. (A flash with more room that got another length
-- would break `beyond` too.)
pub shrinking : Step
shrinking = by_kind (λ d f c. let o = right d f c in cond (no_image (manifest_in c.message) && eqb (length f) (manifest_in c.message).image_len) (but_flash o (drop 1 f)) o) right right right

pub shrinking-caught : FirstHalf toy any part shrinking fresh (replicate 128 5) (empty ▷ nobodys) → ⊥
unfolding computing shrinking
shrinking-caught h =
    let z : ◌≡◌ {A = ℕ} 127 128 = h.one in
    omega arith
