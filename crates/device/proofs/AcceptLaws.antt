-- What the accepting functions do, and the step that follows.
use mathlib.Core.Path.{◌≡◌, refl, sym, ◌∙◌}
use mathlib.Core.Logic.{◌⊎◌, inl, inr}
use mathlib.Core.Bool.{Bool, true, false}
use mathlib.Core.List.{List}
use Rattle.std.specs.Prelude.{Option, None, Some, Ok, Err}
use Prim.Native.Nat.{ℕ, pred, ◌+◌, ◌*◌, ◌≤◌, ◌<◌}
use native.Mathlib.Omega.{arith}
use lib.ListN.{length}
use borrow.Author.Tests.{eq-eqb}
use Rattle.std.proofs.lemmas.Bool.Decides.{nat_tests}
use Rattle.sha256.specs.Sha256.{digest}
use Rattle.merkle.specs.Limits.{hash_length, held_bytes}
use Rattle.merkle.specs.Frontier.{carried_count}
use Rattle.merkle.specs.Held.{advanced}
use Rattle.lms.specs.Lms.{valid}
use Rattle.wire.specs.declared.kind.Kind.{Kind}
use Rattle.wire.specs.declared.kind.Kind.TheVariants.{Block, Update, PathUpdate}
use Rattle.wire.specs.declared.manifest.Manifest.{Manifest}
use Rattle.wire.specs.declared.refusal.Refusal.{Refusal}
use Rattle.wire.specs.Size.{wrong_size}
use Rattle.wire.specs.Geometry.{count_of, block_length, with_block}
use Rattle.wire.specs.Message.{kind, least_length, manifest_in, hashes_after, update_number, least_update}
use Rattle.wire.proofs.SizeLaws.{Sized}
use Rattle.wire.proofs.MessageLaws.{length-block, length-update-block, due}
use Rattle.machine.specs.declared.state.Stage.{Stage}
use Rattle.machine.specs.declared.state.Device.{Device}
use Rattle.machine.specs.Answer.{Accepted, Refused}
use Rattle.machine.specs.Device.{next_of}
use Rattle.machine.specs.Flash.{stored, updated}
use Rattle.machine.specs.Step.{stage_after, accept_block, accept_update, accept, total, outcome, refusal_of, step}
use Rattle.machine.proofs.RefusalLaws.{block-passed, update-passed, path-passed, path-block}
use Rattle.device.specs.declared.view.View.{View}
use Rattle.device.specs.Fields.{lent, Unrefused, step_in_place}
use Rattle.device.specs.Inner.{updates, program_of, block_number_of, head_of, block_of}
use Rattle.device.specs.Judged.{verdict, judged}
use Rattle.device.proofs.KindLaws.{updating}

allowed-size : {L T : ℕ} → Sized L T → wrong_size L T ≡ false
unfolding wrong_size
allowed-size z = grind (arith, nat_tests, z.allowed, z.some, z.count)

-- A block that a message brings: block i of the program of manifest s, of an allowed size, behind the message's first bytes, with room for it in the flash.
pub record Brought (s : Manifest) (i head : ℕ) (flash m : List ℕ) : Type 0 where
  pub size : wrong_size s.block_len s.image_len ≡ false
  pub low : 0 < i
  pub high : i ≤ count_of s
  pub room : s.image_len ≤ length flash
  pub long : head + block_length s.block_len s.image_len i ≤ length m

pub length-brought : (u : Bool) (k : ℕ) (m : List ℕ) → head_of u + k ≤ length m → length (block_of u k m) ≡ k
unfolding head_of block_of
length-brought true k m l = length-update-block k m l
length-brought false k m l = length-block k m l

-- .. by what is read of an accepted message
module _ (v : View) (hashes flash m : List ℕ) (k : Kind) (is : k ≡ kind m) (one : updates k ≡ false → k ≡ Block) (n : Unrefused v hashes flash m) (u : Bool) (eu : u ≡ updates k) where
  there : Brought (program_of u v.manifest m) (block_number_of u v.stage m) (head_of u) flash m
  unfolding program_of block_number_of head_of least_update
  there = go u eu
    where
      d : Device
      d = lent v hashes

      update : (k ≡ Update) ⊎ (k ≡ PathUpdate) → Brought (manifest_in m) (update_number m) (least_length Update) flash m
      update (inl q) = let p = (update-passed digest valid d flash m n.budget (sym is ∙ q) n.unrefused).successor in record { size = allowed-size p.size; low = p.turn.0; high = p.turn.1; room = p.room; long = p.long }
      update (inr q) =
          let w = path-passed digest valid d flash m n.budget (sym is ∙ q) n.unrefused in
          let p = w.successor in
          record { size = allowed-size p.size; low = p.turn.0; high = p.turn.1; room = p.room; long = path-block digest valid d flash m w }

      go : (b : Bool) → b ≡ updates k → Brought (program_of b v.manifest m) (block_number_of b v.stage m) (head_of b) flash m
      go true e = update (updating k (sym e))
      go false e =
          let p = block-passed digest valid d flash m n.budget (sym is ∙ one (sym e)) n.unrefused in
          record { size = p.awaited.size; low = p.awaited.low; high = p.awaited.high; room = p.room; long = (due v.manifest.block_len v.manifest.image_len (next_of v.stage) m p.long).long }

  pub begun : head_of u ≤ length m
  begun = let b = there.long in omega arith

  module _ {s : Manifest} {i : ℕ} (es : s ≡ program_of u v.manifest m) (ei : i ≡ block_number_of u v.stage m) where
    pub brought : Brought s i (head_of u) flash m
    brought = rw (ei, es) there

    -- the siblings behind a block of kind 2
    pub siblings : u ≡ false → length (hashes_after (block_length s.block_len s.image_len i) m) ≡ hash_length * carried_count (count_of s) i
    unfolding program_of block_number_of count_of
    siblings t =
        let p = block-passed digest valid (lent v hashes) flash m n.budget (sym is ∙ one (sym eu ∙ t)) n.unrefused in
        rw (ei, es, t) (due _ _ _ _ p.long).rest

-- The accepted steps, as the code makes them.
module _ (d : Device) (flash m : List ℕ) (k : Kind) {u : Bool} {s : Manifest} {i n : ℕ} {b f : List ℕ} (eu : u ≡ updates k) (es : s ≡ program_of u d.manifest m)
    (ei : i ≡ block_number_of u d.stage m) (en : n ≡ block_length s.block_len s.image_len i) (eb : b ≡ block_of u n m) (ef : f ≡ with_block s.block_len flash i b) where
  pub update-is : u ≡ true → accept k d flash m ≡ record { device = record { model = d.model; key = d.key; stage = d.stage; manifest = s; hashes = d.hashes }; flash = f }
  unfolding accept accept_update updated program_of block_number_of block_of
  update-is t = go (updating k (sym eu ∙ t))
    where
      go : (k ≡ Update) ⊎ (k ≡ PathUpdate) → accept k d flash m ≡ record { device = record { model = d.model; key = d.key; stage = d.stage; manifest = s; hashes = d.hashes }; flash = f }
      go (inl q) = rw (q, ef, eb, en, es, ei, t)
      go (inr q) = rw (q, ef, eb, en, es, ei, t)

  pub block_is : {t : Stage} {r hashes : List ℕ} → k ≡ Block → u ≡ false → r ≡ hashes_after n m → t ≡ stage_after (count_of s) i → hashes ≡ advanced (count_of s) (pred i) d.hashes r
      → accept k d flash m ≡ record { device = record { model = d.model; key = d.key; stage = t; manifest = s; hashes = hashes }; flash = f }
  unfolding accept accept_block stored program_of block_number_of block_of
  block_is q z er et eh = rw (q, et, eh, ef, eb, er, en, es, ei, z)

-- The step, from the judgement and what was done.
module _ (budget : ℕ) (d : Device) (flash m : List ℕ) {k : Kind} (is : k ≡ kind m) where
  judgement : judged budget k d flash m ≡ verdict (refusal_of digest valid budget d flash m) (total digest (kind m) d flash m)
  unfolding refusal_of judged
  judgement = rw is

  pub unrefused : {c : ℕ} → Ok c ≡ judged budget k d flash m → refusal_of digest valid budget d flash m ≡ None
  unfolding verdict
  unrefused {c} e = go (refusal_of digest valid budget d flash m) refl (e ∙ judgement)
    where
      go : (r : Option Refusal) → refusal_of digest valid budget d flash m ≡ r → Ok c ≡ verdict (refusal_of digest valid budget d flash m) (total digest (kind m) d flash m)
          → refusal_of digest valid budget d flash m ≡ None
      go None q e = q
      go (Some x) q e = absurd (let z : Ok c ≡ Err x = rw q at e in cc)

  pub step-refused : {x : Refusal} → Err x ≡ judged budget k d flash m
      → step digest valid budget d flash m ≡ record { answer = Refused x; compressions = 0; budget = budget; device = d; flash = flash }
  unfolding step verdict outcome
  step-refused {x} e = go (refusal_of digest valid budget d flash m) refl (e ∙ judgement)
    where
      go : (r : Option Refusal) → refusal_of digest valid budget d flash m ≡ r → Err x ≡ verdict (refusal_of digest valid budget d flash m) (total digest (kind m) d flash m)
          → step digest valid budget d flash m ≡ record { answer = Refused x; compressions = 0; budget = budget; device = d; flash = flash }
      go None q e = absurd (let z : Err x ≡ Ok (total digest (kind m) d flash m) = rw q at e in cc)
      go (Some y) q e = let z : Err x ≡ Err y = rw q at e in rw q (let w : y ≡ x = cc in rw w)

  pub step-accepted : {c : ℕ} {r : Device} {f : List ℕ} → Ok c ≡ judged budget k d flash m → accept k d flash m ≡ record { device = r; flash = f }
      → step digest valid budget d flash m ≡ record { answer = Accepted; compressions = c; budget = budget; device = r; flash = f }
  unfolding step outcome verdict
  step-accepted {c} {r} {f} e q =
      let z : verdict (refusal_of digest valid budget d flash m) (total digest (kind m) d flash m) ≡ Ok c = sym (e ∙ judgement) in
      let n = unrefused e in
      let t : total digest (kind m) d flash m ≡ c = (let y : Ok (total digest (kind m) d flash m) ≡ Ok c = rw n at z in cc) in
      rw (n, t, ← is, q)

-- The step by the length of the hashes.
module _ (budget : ℕ) (d : Device) (flash m : List ℕ) where
  pub held-step : length d.hashes ≡ held_bytes → step_in_place budget d flash m ≡ step digest valid budget d flash m
  unfolding step_in_place
  held-step l = rw (eq-eqb (length d.hashes) held_bytes l)
