-- A world small enough to compute in, for wrong devices: a toy hash function, toy verdicts, images of two blocks, a flash; and what their steps are made of.
use Rattle.std.proofs.Common.{◌≡◌, refl, sym, ap, Bool, true, false, cond, not, ⊎_elim, List, [], ◌∷◌, ◌++◌, None, Some, ℕ, suc, arith, eqb, length, get_or, take, drop, replicate, length-append, length-take-le, Ok, Err}
use mathlib.Core.List.Memᴰ
use mathlib.Core.List.{Memᴰ}
use lib.ListN.{length-replicate}
use Rattle.octets.specs.Octets.{bytes, number, joined, equal}
use Rattle.octets.proofs.EqualLaws.{equal-self, equal-true}
use Rattle.sha256.specs.Sha256.{zero_bits, padding, pad}
use Rattle.merkle.specs.Limits.{hash_length, held_bytes}
use Rattle.merkle.specs.Blocks.{block_count, cut, overlay}
use Rattle.merkle.specs.Shape.{Shape, size, least_from, depth, split, build, Place, shape}
use Rattle.merkle.specs.Hash.{plain, hash, hashes, input, climb_from, climb}
use Rattle.merkle.specs.Frontier.{largest, right_siblings, siblings, carried_count, frontier, held_count}
use Rattle.merkle.specs.Path.{path_siblings, leaf_depth, way, beside_input, ascend, ascend_inputs, sent_path, path_hash, path_inputs, PathCollision}
use Rattle.merkle.specs.Cost.{cost, climb_from_cost, climb_cost, fits_cost, known_cost}
use Rattle.merkle.specs.Held.{hashes_in, held_start, held_in, next_held, begun, advanced, fits, sent}
use Rattle.wire.specs.declared.kind.Kind.TheVariants.{Program, Block, Update, PathUpdate, Unknown}
use Rattle.wire.specs.declared.manifest.Manifest.{Manifest}
use Rattle.wire.specs.declared.refusal.Refusal.{Refusal}
use Rattle.wire.specs.declared.refusal.Refusal.TheVariants as refusal
use Rattle.wire.specs.Refusal.{first_that_applies}
use Rattle.wire.specs.Size.{allowed_length, wrong_size, outside}
use Rattle.wire.specs.Manifest.{written, read}
use Rattle.wire.specs.Geometry.{count_of, block_length, blocks_of, with_block, tree_over}
use Rattle.wire.specs.Message.{kind, carries, short, program_message, block_message, update_message, path_message, manifest_bytes, manifest_in, program_signature, number_in, block_in, hashes_after, update_number, update_block, update_signature, path_in, path_signature, due_length, least_update, least_path}
use Rattle.wire.specs.Cost.{tree_cost, comparison_cost, last_cost, block_cost, cost_due}
use Rattle.sender.specs.Job.{Image, Job, count, blocks, root_of, manifest_for, program_for, block_for, update_for, path_for}
use Rattle.machine.specs.declared.state.Stage.{Stage}
use Rattle.machine.specs.declared.state.Stage.TheVariants.{Idle, Complete}
use Rattle.machine.specs.declared.state.Device.{Device}
use Rattle.machine.specs.Answer.{Accepted, Refused}
use Rattle.machine.specs.Device.{Fresh, serial_of, next_of, held_by, Outcome}
use Rattle.machine.specs.Flash.{stored, updated}
use Rattle.machine.specs.Refusals.{wrong_version, senseless, no_kind, other_model, not_newer, too_small, not_loading, not_complete, not_next, wrong_length, unlike, mismatch, lacks_root, last_altered, spent, unsigned, strays, of_manifest, always, of_program, of_block, of_successor, of_update, of_path_update, of_kind, refusals}
use Rattle.machine.specs.Step.{accept_program, stage_after, accept_block, accept_update, accept, answer_of, total, outcome, refusal_of, step, Call, step_call}
use Rattle.machine.specs.BootCheck.{of_boot, boot_check}
use Rattle.guarantee.specs.Part.{Part, whole, call}
use Rattle.guarantee.specs.Run.{Trace, empty, ◌▷◌, after, answer_to, accepted, last_program, blocks_since, paths_since, last_carrier, signature_in}
use Rattle.guarantee.specs.Demand3.{then_blocks, Demand3}
use Rattle.guarantee.proofs.Demand3Holds.{demand3-for}

abbrev pub Step : Type 0
Step = Device → List ℕ → Call → Outcome

-- a toy hash of 32 bytes, in which of two hashes the right one counts; every signature valid, or none
unfoldable pub toy : List ℕ → List ℕ
toy x = 1 ∷ take 31 (drop 32 x ++ replicate 31 0)

unfoldable pub any : (key message signature : List ℕ) → Bool
any k m s = true

unfoldable pub nobody : (key message signature : List ℕ) → Bool
nobody k m s = false

-- the only part of a device that has this hash function and takes every signature
abbrev pub part : Part Device (List ℕ) Call
part = whole toy any

-- an image of two blocks of 64 bytes, its successor, with another second block, and the image again with a serial that is not new
unfoldable pub job : Job
job = record { image = record { bytes = replicate 128 3; block_len = 64 }; model = 7; serial = 1 }

unfoldable pub newer : Job
newer = record { image = record { bytes = replicate 64 3 ++ replicate 64 4; block_len = 64 }; model = 7; serial = 2 }

unfoldable pub old : Job
old = record { image = job.image; model = 7; serial = 0 }

-- an image of 257 bytes in blocks of 256, so that the last one has 1 byte, and its successor, with another byte there
unfoldable pub uneven : Job
uneven = record { image = record { bytes = replicate 256 3 ++ (3 ∷ []); block_len = 256 }; model = 7; serial = 1 }

unfoldable pub uneven_newer : Job
uneven_newer = record { image = record { bytes = replicate 256 3 ++ (4 ∷ []); block_len = 256 }; model = 7; serial = 2 }

unfoldable pub fresh : Device
fresh = record { model = 7; key = []; stage = Idle; manifest = record { version = 0; block_len = 0; model = 0; serial = 0; image_len = 0; root = [] }; hashes = replicate held_bytes 0 }

unfoldable pub flash : List ℕ
flash = replicate 130 5

-- messages with a budget that suffices for each of these images, and so the sender's: a new program, block i, an update of block i, and one by a path
abbrev pub ample : List ℕ → Call
ample m = call 1000 m

abbrev pub send_program : Job → Call
send_program job = ample (program_for toy job [])

abbrev pub send_block : Image → ℕ → Call
send_block image i = ample (block_for toy image i)

abbrev pub send_update : Job → ℕ → Call
send_update job i = ample (update_for toy job i [])

abbrev pub send_path : Job → ℕ → Call
send_path job i = ample (path_for toy job i [])

unfoldable pub program : Call
program = send_program job

-- a manifest for two such blocks with any root
unfoldable pub manifest_with : (serial : ℕ) (root : List ℕ) → Manifest
manifest_with serial root = record { version = 1; block_len = 64; model = 7; serial = serial; image_len = 128; root = root }

-- a manifest with a root that no image has, since each toy hash begins with 1: no run with it is honest
unfoldable pub nobodys : Call
nobodys = ample (program_message (manifest_with 1 (replicate 32 9)) [])

unfoldable pub no_image : Manifest → Bool
no_image s = not (eqb (get_or s.root 0 0) 1)

-- the device as it should be; one that accepts without a look; one that refuses
unfoldable pub right : Step
right = step_call toy any

unfoldable pub taking : Step
taking d f c = let m = c.message in outcome None c.budget (total toy (kind m) d f m) d f (accept (kind m) d f m)

unfoldable pub refusing_as : Refusal → Step
refusing_as r d f c = outcome (Some r) c.budget 0 d f (record { device = d; flash = f })

unfoldable pub refusing : Step
refusing = refusing_as refusal.State

-- An outcome with another device and flash; so for an accepted message alone, with another device or another flash.
unfoldable pub leaving : Outcome → Device → List ℕ → Outcome
leaving o d f = record { answer = o.answer; compressions = o.compressions; budget = o.budget; device = d; flash = f }

unfoldable pub but : Outcome → Device → Outcome
but o d = elim o.answer [ Ok _ ↦ leaving o d o.flash | Err r ↦ o ]

unfoldable pub but_flash : Outcome → List ℕ → Outcome
but_flash o f = elim o.answer [ Ok _ ↦ leaving o o.device f | Err r ↦ o ]

-- a device with a step for each kind
unfoldable pub by_kind : Step → Step → Step → Step → Step
by_kind p b u w d f c = elim (kind c.message) [ Program ↦ p d f c | Block ↦ b d f c | Update ↦ u d f c | PathUpdate ↦ w d f c | Unknown ↦ right d f c ]

-- Of places with a hash input each: where it has the hash of the tree's input there, it is that input.
unfoldable pub NoneCollides : (ℕ → List ℕ) → List (Place × List ℕ) → Type 0
NoneCollides blocks [] = Unit {0}
NoneCollides blocks (e ∷ es) = (let x = input (plain toy) blocks e.0.0 e.0.1 in cond (equal (toy x) (toy e.1)) (equal x e.1) true ≡ true) × NoneCollides blocks es

-- What the runs compute with, by layer: to unfold the last is to unfold all.
unfoldable pub tree-computes : ℕ
unfolding zero_bits padding pad block_count cut overlay size least_from depth split build shape hash hashes input climb_from climb largest right_siblings siblings carried_count frontier held_count joined hashes_in held_start held_in next_held begun advanced fits sent path_siblings leaf_depth way beside_input ascend ascend_inputs sent_path path_hash path_inputs cost climb_from_cost climb_cost fits_cost known_cost
tree-computes = 0

unfoldable pub wire-computes : ℕ
unfolding bytes number equal first_that_applies allowed_length wrong_size outside written read count_of block_length blocks_of with_block tree_over kind carries short program_message block_message update_message path_message manifest_bytes manifest_in program_signature number_in block_in hashes_after update_number update_block update_signature path_in path_signature due_length least_update least_path tree_cost comparison_cost last_cost block_cost cost_due
wire-computes = 0

unfoldable pub sender-computes : ℕ
unfolding count blocks root_of manifest_for program_for block_for update_for path_for
sender-computes = 0

unfoldable pub refusals-compute : ℕ
unfolding serial_of next_of held_by wrong_version senseless no_kind other_model not_newer too_small not_loading not_complete not_next wrong_length unlike mismatch lacks_root last_altered spent unsigned strays always of_manifest of_program of_block of_successor of_update of_path_update of_kind refusals refusal_of of_boot
refusals-compute = 0

unfoldable pub run-computes : ℕ
unfolding stored updated accept_program stage_after accept_block accept_update accept total outcome step step_call boot_check after answer_to accepted last_program blocks_since paths_since last_carrier signature_in answer_of then_blocks
run-computes = 0

unfoldable pub computing : ℕ
unfolding tree-computes wire-computes sender-computes refusals-compute run-computes toy any nobody job newer old uneven uneven_newer fresh flash program manifest_with nobodys no_image right taking refusing_as refusing leaving but but_flash by_kind NoneCollides
computing = 0

abbrev pub loaded : Trace Call
loaded = empty ▷ program ▷ send_block job.image 1 ▷ send_block job.image 2

-- the right device in these runs: complete, and the update taken, by a path too; another tree's path is not
pub right-runs : ((after right fresh flash loaded).device.stage ≡ Complete)
    × ((after right fresh flash loaded).flash ≡ replicate 128 3 ++ (5 ∷ 5 ∷ []))
    × (answer_to right fresh flash loaded (send_update newer 2) ≡ Accepted)
    × (answer_to right fresh flash loaded (send_path newer 2) ≡ Accepted)
    × (answer_to right fresh flash loaded (send_path newer 1) ≡ Refused refusal.Path)
    × (answer_to right fresh flash (empty ▷ program ▷ send_block job.image 1) (send_block newer.image 2) ≡ Refused refusal.Mismatch)
unfolding computing
right-runs = (refl, refl, refl, refl, refl, refl)

-- 02, change 2, with T = 257 and L = 256. A flash of 257 bytes has room, and one of 256 has not; after a whole download, and after an update of the last block by kind 3 and by
-- kind 4, the flash is the image, and behind it as it was. (The toy hash sees nothing of a block of one byte; with SHA-256 tests/model has these runs.)
abbrev pub uneven_flash : List ℕ
uneven_flash = replicate 260 5

abbrev pub uneven_loaded : Trace Call
uneven_loaded = empty ▷ send_program uneven ▷ send_block uneven.image 1 ▷ send_block uneven.image 2

pub uneven-runs : (answer_to right fresh (replicate 257 5) empty (send_program uneven) ≡ Accepted)
    × (answer_to right fresh (replicate 256 5) empty (send_program uneven) ≡ Refused refusal.Area)
    × ((after right fresh uneven_flash uneven_loaded).device.stage ≡ Complete)
    × ((after right fresh uneven_flash uneven_loaded).flash ≡ replicate 257 3 ++ (5 ∷ 5 ∷ 5 ∷ []))
    × ((after right fresh uneven_flash (uneven_loaded ▷ send_update uneven_newer 2)).flash ≡ replicate 256 3 ++ (4 ∷ 5 ∷ 5 ∷ 5 ∷ []))
    × ((after right fresh uneven_flash (uneven_loaded ▷ send_path uneven_newer 2)).flash ≡ replicate 256 3 ++ (4 ∷ 5 ∷ 5 ∷ 5 ∷ []))
unfolding computing
uneven-runs = (refl, refl, refl, refl, refl, refl)

-- A sender that fills the last block with 0xFF, and has the root over that: all goes well up to the last block, which is refused 12. Its own byte alone is refused 14 there.
unfoldable pub filled : Image
filled = record { bytes = replicate 256 3 ++ (3 ∷ replicate 255 255); block_len = 256 }

unfoldable pub filled_program : Call
filled_program = ample (program_message (record { version = 1; block_len = 256; model = 7; serial = 1; image_len = 257; root = root_of toy filled }) [])

pub filling-fails : (answer_to right fresh uneven_flash empty filled_program ≡ Accepted)
    × (answer_to right fresh uneven_flash (empty ▷ filled_program) (send_block filled 1) ≡ Accepted)
    × (answer_to right fresh uneven_flash (empty ▷ filled_program ▷ send_block filled 1) (send_block filled 2) ≡ Refused refusal.Length)
    × (answer_to right fresh uneven_flash (empty ▷ filled_program ▷ send_block filled 1) (send_block uneven.image 2) ≡ Refused refusal.Mismatch)
unfolding computing filled filled_program
filling-fails = (refl, refl, refl, refl)

-- A path that collides nowhere.
pub none-collides : {blocks : ℕ → List ℕ} {o : ℕ} {s : Shape} {i : ℕ} {block : List ℕ} {ys : List (List ℕ)} → NoneCollides blocks (path_inputs (plain toy) o s i block ys)
    → PathCollision (plain toy) blocks o s i block ys → ⊥
unfolding NoneCollides
none-collides {blocks} {o} {s} {i} {block} {ys} n c = go (path_inputs (plain toy) o s i block ys) n c.within
  where
    go : (es : List (Place × List ℕ)) → NoneCollides blocks es → Memᴰ (c.place, c.given) es → ⊥
    go [] n m = Memᴰ.not-nil m
    go (e ∷ es) n m =
        ⊎_elim (λ (p : ◌≡◌ {A = Place × List ℕ} (c.place, c.given) e). c.differ (equal-true _ c.given (rw (c.agree, equal-self) at (rw (sym p) at n.0)))) (λ l. go es n.1 l) (Memᴰ.cases_cons m)

-- the same device at another stage
unfoldable pub at : Stage → Device → Device
at t d = record { model = d.model; key = d.key; stage = t; manifest = d.manifest; hashes = d.hashes }

-- The right device meets demand 3 with this hash function and these verdicts.
pub is-fresh : Fresh fresh
unfolding computing
is-fresh = record { idle = refl; array = refl }

pub toy-long : (x : List ℕ) → length (toy x) ≡ hash_length
unfolding toy
toy-long x = ap suc (length-take-le 31 (drop 32 x ++ replicate 31 0) (omega (arith, length-append (drop 32 x) (replicate 31 0), length-replicate {A = ℕ} 31 0)))

pub meets : Demand3 toy any right
unfolding right
meets = demand3-for toy toy-long any

pub meets-nobody : Demand3 toy nobody (step_call toy nobody)
meets-nobody = demand3-for toy toy-long nobody
