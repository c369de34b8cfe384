-- A caller that keeps the state's bytes from call to call runs the device that demand 3 speaks of.
use Rattle.std.proofs.Common.{◌≡◌, refl, ap, ◌∙◌, Bool, true, false, cond, List, Option, None, Some, ℕ, suc, pred, ◌*◌, ◌≤◌, arith, ltb, length}
use lib.ListN.{length-replicate}
use Rattle.octets.specs.Octets.{Bytes}
use Rattle.merkle.specs.Limits.{hash_length, held_bytes}
use Rattle.sha256.specs.Sha256.{digest}
use Rattle.merkle.specs.Frontier.{carried_count}
use Rattle.merkle.proofs.HeldLaws.{length-begun, advance}
use Rattle.lms.specs.Lms.{valid}
use Rattle.wire.specs.declared.kind.Kind.{Kind}
use Rattle.wire.specs.declared.kind.Kind.TheVariants.{Program, Block, Update, PathUpdate, Unknown}
use Rattle.wire.specs.declared.refusal.Refusal.{Refusal}
use Rattle.wire.specs.Geometry.{count_of, block_length}
use Rattle.wire.specs.Message.{kind, least_length, manifest_in, hashes_after, least_update, least_path}
use Rattle.wire.proofs.SizeLaws.{sized}
use Rattle.wire.proofs.MessageLaws.{manifest-fits, due}
use Rattle.machine.specs.declared.state.Stage.TheVariants.{Loading, Complete}
use Rattle.machine.specs.declared.state.Device.{Device}
use Rattle.machine.specs.Device.{fresh_with, next_of, SituationOf, Situation}
use Rattle.machine.specs.Step.{accept_program, stage_after, accept_block, accept_update, accept, total, outcome, refusal_of, step, Call, step_call}
use Rattle.guarantee.specs.Run.{Trace, empty, ◌▷◌, after, answer_to}
use Rattle.machine.proofs.RefusalLaws.{BlockPassed, program-passed, block-passed, update-passed, path-passed}
use Rattle.capi.specs.State.{encode}
use Rattle.capi.specs.Call.{CallOutcome, call_outcome, state_after}
use Rattle.capi.specs.Run.{left, called, calls_after, returned, counted, AllBytes}
use Rattle.capi.specs.Claims.{Fits, FreshFits, Runs, RunsDevice}
use Rattle.capi.proofs.CallLaws.{receive-encode}

-- What an accepted message of bytes leaves still fits its bytes.
module _ (budget : ℕ) (d : Device) (flash m : List ℕ) (bytes : Bytes m) (f : Fits d) where
  next-after : (n i : ℕ) → next_of (stage_after n i) ≤ suc i
  unfolding next_of stage_after
  next-after n i = go (ltb i n)
    where
      go : (t : Bool) → next_of (cond t (Loading (suc i)) Complete) ≤ suc i
      go true = omega arith
      go false = omega arith

  fits-block : BlockPassed digest valid d flash m → Fits (accept_block d flash m).device
  unfolding accept_block count_of
  fits-block p =
      let i = next_of d.stage in
      let n = count_of d.manifest in
      let w = p.awaited in
      let most = (sized d.manifest.block_len d.manifest.image_len w.size).count in
      let z : suc (pred i) ≡ i = omega arith in
      let k = block_length d.manifest.block_len d.manifest.image_len i in
      let l : length (hashes_after k m) ≡ hash_length * carried_count n (suc (pred i)) = rw z (due _ _ _ _ p.long).rest in
      record {
        model = f.model;
        key = f.key;
        next = omega (arith, next-after n i);
        manifest = f.manifest;
        hashes = (advance n (pred i) d.hashes (hashes_after k m) (omega arith) most f.hashes l).size;
      }

  fits-update : least_length Program ≤ length m → Fits (accept_update d flash m).device
  unfolding accept_update
  fits-update long = record { model = f.model; key = f.key; next = f.next; manifest = manifest-fits m bytes long; hashes = f.hashes }

  fits_kept : (k : Kind) → kind m ≡ k → refusal_of digest valid budget d flash m ≡ None → Fits (accept k d flash m).device
  unfolding accept accept_program accept_update next_of least_update least_path
  fits_kept Program e a =
      let p = program-passed digest valid d flash m budget e a in
      let s = manifest-fits m bytes p.long in
      record { model = f.model; key = f.key; next = omega arith; manifest = s; hashes = length-begun (manifest_in m).root s.root }
  fits_kept Block e a = fits-block (block-passed digest valid d flash m budget e a)
  fits_kept Update e a = fits-update (omega (arith, (update-passed digest valid d flash m budget e a).successor.long))
  fits_kept PathUpdate e a = fits-update (omega (arith, (path-passed digest valid d flash m budget e a).successor.long))
  fits_kept Unknown e a = f

  pub fits-step : Fits (step digest valid budget d flash m).device
  unfolding step outcome
  fits-step = go (refusal_of digest valid budget d flash m) refl
    where
      go : (r : Option Refusal) → refusal_of digest valid budget d flash m ≡ r → Fits (outcome r budget (total digest (kind m) d flash m) d flash (accept (kind m) d flash m)).device
      go None e = fits_kept (kind m) refl e
      go (Some x) e = f

-- so does a fresh device
pub fresh-fits : FreshFits
unfolding fresh_with next_of
fresh-fits model key h l =
    record {
      model = h;
      key = l;
      next = omega arith;
      manifest = record { version = omega arith; block_len = omega arith; model = omega arith; serial = omega arith; image_len = omega arith; root = length-replicate {A = ℕ} 32 0 };
      hashes = length-replicate {A = ℕ} held_bytes 0;
    }

-- the memory that holds a device and its flash
abbrev holding : Device → List ℕ → SituationOf (List ℕ) (List ℕ)
holding d flash = record { device = encode d; flash = flash }

-- a refused message leaves the bytes as they are, which are the device's
left_is : (d : Device) (flash : List ℕ) (c : Call) → left (call_outcome (step_call digest valid d flash c) (encode d) 0) ≡ (let o = step_call digest valid d flash c in holding o.device o.flash)
unfolding step_call step outcome call_outcome state_after
left_is d flash c = go (refusal_of digest valid c.budget d flash c.message)
  where
    go : (r : Option Refusal) → (let m = c.message in
        let o = outcome r c.budget (total digest (kind m) d flash m) d flash (accept (kind m) d flash m) in left (call_outcome o (encode d) 0) ≡ holding o.device o.flash)
    go None = refl
    go (Some x) = refl

-- Where the bytes kept are those of the device, a call more is its step.
module _ (d : Device) (flash : List ℕ) (cs : Trace Call) (f : Fits (after (step_call digest valid) d flash cs).device)
    (kept : calls_after (encode d) flash cs ≡ (let s = after (step_call digest valid) d flash cs in holding s.device s.flash)) where
  call : (c : Call) (before : ℕ) → called (calls_after (encode d) flash cs) c before
      ≡ (let s = after (step_call digest valid) d flash cs in call_outcome (step_call digest valid s.device s.flash c) (encode s.device) before)
  unfolding step_call
  call c before =
      let s : Situation = after (step_call digest valid) d flash cs in
      ap (λ (x : SituationOf (List ℕ) (List ℕ)). called x c before) kept ∙ receive-encode s.device s.flash c.message c.budget before f

  known : Runs d flash cs
  unfolding returned counted answer_to call_outcome
  known =
      record {
        fits = f;
        memory = kept;
        answers = λ c. ap (λ (x : CallOutcome). x.answer) (call c 0);
        reports = λ c before. ap (λ (x : CallOutcome). x.compressions) (call c before);
      }

pub runs : RunsDevice
unfolding step_call calls_after after AllBytes
runs d flash f empty b = known d flash empty f refl
runs d flash f (cs ▷ c) b =
    let r = runs d flash f cs b.0 in
    let s : Situation = after (step_call digest valid) d flash cs in
    known d flash (cs ▷ c) (fits-step c.budget s.device s.flash c.message b.1 r.fits)
    (ap left (call d flash cs r.fits r.memory c 0) ∙ left_is s.device s.flash c)
