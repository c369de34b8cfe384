-- What is read off a state's bytes, from what the code finds in them.
use Rattle.std.proofs.Common.{pred, ◌≡◌, refl, sym, ◌∙◌, Bool, true, false, cond, List, Option, None, Some, Err, option_map, ℕ, ◌≤◌, ◌<◌, length}
use Rattle.octets.specs.Octets.{number, part}
use Rattle.merkle.specs.Limits.{held_bytes}
use Rattle.lms.specs.Lms.{key_length}
use Rattle.wire.specs.declared.manifest.Manifest.{Manifest}
use Rattle.wire.specs.declared.refusal.Refusal.TheVariants as refusal
use Rattle.wire.specs.Manifest.{manifest_length, read}
use Rattle.wire.specs.Geometry.{count_of, block_length}
use Rattle.wire.specs.Cost.{cost_due}
use Rattle.merkle.specs.Blocks.{block_count}
use Rattle.merkle.specs.Cost.{known_cost}
use Rattle.merkle.specs.Hash.{plain}
use Rattle.sha256.specs.Sha256.{digest}
use Rattle.machine.specs.declared.state.Stage.{Stage}
use Rattle.machine.specs.declared.state.Stage.TheVariants.{Idle, Loading, Complete}
use Rattle.machine.specs.declared.state.Device.{Device}
use Rattle.machine.specs.Refusals.{senseless}
use Rattle.machine.proofs.RefusalLaws.{loading}
use Rattle.device.specs.Fields.{device_of}
use Rattle.capi.specs.State.{key_at, manifest_at, hashes_at, state_length, stage_in, device_in, decode}
use Rattle.capi.specs.Status.{sensible, status_of, status, due_of, read_due}
use Rattle.capi.proofs.StateLaws.{decode-none, decode-some, stage_length}
use Rattle.capi.specs.Report.{Due, IsDue}

module _ (b : List ℕ) where
  pub sensible-decoded : {d : Device} → decode b ≡ Some d → senseless d ≡ false → sensible b ≡ Some d
  unfolding sensible
  sensible-decoded e s = rw (e, sensible, s)

  pub sensible-none : stage_in b ≡ None → sensible b ≡ None
  unfolding sensible
  sensible-none e = rw (decode-none b e, sensible)

  pub sensible-some : {t : Stage} → stage_in b ≡ Some t → sensible b ≡ cond (senseless (device_in b t)) None (Some (device_in b t))
  unfolding sensible
  sensible-some e = rw (decode-some b e, sensible)

  -- bytes that encode a device at stage t to which refusal 1 does not apply
  pub record Sense (t : Stage) : Type 0 where
    pub long : length b ≡ state_length
    pub device : sensible b ≡ Some (device_in b t)
    pub sense : senseless (device_in b t) ≡ false

  -- the stage of bytes that make sense, as the code looks for it
  abbrev pub stage_of : Option Device → Option Stage
  stage_of = option_map (λ (d : Device). d.stage)

  pub no_stage : stage_in b ≡ None → stage_of (sensible b) ≡ None
  no_stage e = rw (sensible-none e)

  pub tested : {t : Stage} {s : Manifest} {x : Bool} → stage_in b ≡ Some t → s ≡ read (part manifest_at manifest_length b)
      → x ≡ senseless (device_of (number (part 0 4 b)) (part key_at key_length b) t s (part hashes_at held_bytes b))
      → stage_of (sensible b) ≡ cond x None (Some t)
  unfolding device_in
  tested {t} e es x = rw (sensible-some e, x, es) (go (senseless (device_in b t)))
    where
      go : (y : Bool) → stage_of (cond y None (Some (device_in b t))) ≡ cond y None (Some t)
      go true = refl
      go false = refl

  pub no-sense : stage_of (sensible b) ≡ None → sensible b ≡ None
  no-sense e = go (sensible b) e
    where
      go : (o : Option Device) → stage_of o ≡ None → o ≡ None
      go None q = refl
      go (Some d) q = cc

  pub makes-sense : {t : Stage} → stage_of (sensible b) ≡ Some t → Sense t
  unfolding device_in
  makes-sense {t} e = go (stage_in b) refl
    where
      go : (o : Option Stage) → stage_in b ≡ o → Sense t
      go None q = absurd (cc (rw (sensible-none q) at e))
      go (Some u) q = test (senseless (device_in b u)) refl
        where
          test : (x : Bool) → senseless (device_in b u) ≡ x → Sense t
          test true r = absurd (cc (rw (sensible-some q, r) at e))
          test false r =
              let same : u ≡ t = cc (rw (sensible-some q, r) at e) in
              rw (sym same) (record { long = stage_length b q; device = sensible-some q ∙ rw r; sense = r })

-- What the functions for C leave.
module _ (b out : List ℕ) where
  pub status-refused : sensible b ≡ None → status b out ≡ record { answer = 1; out = out }
  unfolding status
  status-refused e = rw (e, status)

  pub status-is : {d : Device} {numbers : List ℕ} → sensible b ≡ Some d → numbers ≡ status_of d → status b out ≡ record { answer = 0; out = numbers }
  unfolding status
  status-is e en = rw (e, status, en)

-- A number of the block message that is due: its length, or what it costs.
module _ (b : List ℕ) where
  pub due-refused : sensible b ≡ None → IsDue b (Err refusal.State)
  unfolding read_due
  due-refused e = λ number before. rw (e, read_due)

  pub due-is : {d : Device} → sensible b ≡ Some d → (number : Manifest → (i : ℕ) → ℕ) (before : ℕ) → read_due number b before ≡ due_of number before d
  unfolding read_due
  due-is e number before = rw (e, read_due)

  pub none-due : {t : Stage} → Sense b t → ((i : ℕ) → t ≡ Loading i → ⊥) → IsDue b (Err refusal.Stage)
  unfolding due_of device_in
  none-due {t} m h = λ number before. due-is m.device number before ∙ go t h number before
    where
      go : (u : Stage) → ((i : ℕ) → u ≡ Loading i → ⊥) → (number : Manifest → (i : ℕ) → ℕ) (before : ℕ) → due_of number before (device_in b u) ≡ record { answer = 10; written = before }
      go Idle h number before = refl
      go (Loading i) h number before = absurd (h i refl)
      go Complete h number before = refl

  pub block-due : {i : ℕ} {s : Manifest} → Sense b (Loading i) → s ≡ read (part manifest_at manifest_length b) → Due b s i
  unfolding due_of device_in
  block-due {i} m e =
      let w = loading (device_in b (Loading i)) m.sense refl in
      rw e (record { size = w.size; low = w.low; high = w.high; read = λ number before. due-is m.device number before })

-- .. and of what is asked with these lengths and this number
module _ {b : List ℕ} {s : Manifest} {i n L T : ℕ} (d : Due b s i) (g : (L ≡ s.block_len) × (T ≡ s.image_len)) (e : n ≡ i) where
  pub asked : (0 < n) × (n ≤ block_count L T)
  unfolding count_of
  asked = rw (e, g.0, g.1) (d.low, d.high)

  pub cost-is : {x : ℕ} → x ≡ known_cost (plain digest) L (block_count L T) (pred n) (block_length L T n) → x ≡ cost_due digest s i
  unfolding cost_due count_of
  cost-is q = q ∙ rw (e, g.0, g.1)
