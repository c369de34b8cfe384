-- A state's bytes, written and read back.
use Rattle.std.proofs.lemmas.List.{take-append-le, drop-append-le}
use Rattle.std.proofs.Common.{take_all, ◌≡◌, refl, sym, ap, ap₂, ◌∙◌, List, [], ◌∷◌, ◌++◌, map, append_assoc, append-nil, Bool, true, false, cond, eqb, Option, None, Some, ℕ, ◌+◌, ◌-◌, ◌^◌, ◌≤◌, ◌<◌, arith, length, take, drop, get_or, length-drop, drop_of_length-le, take-add, drop_at, drop-drop, eqb-true}
use lib.Seq.{paste, take-length}
use borrow.Rule.Slice.PartMut.{post_of, put_mid, Post-is}
use Rattle.octets.specs.Octets.{Bytes, bytes, number, part, joined}
use Rattle.merkle.specs.Limits.{held_bytes}
use Rattle.octets.proofs.JoinedLaws.{joined-last, total, joined_length, stands}
use Rattle.octets.proofs.NumberLaws.{length-bytes, number-back, bytes-part}
use Rattle.lms.specs.Lms.{key_length}
use Rattle.wire.specs.declared.manifest.Manifest.{Manifest}
use Rattle.wire.specs.Manifest.{manifest_length, written, read}
use Rattle.wire.proofs.ManifestLaws as manifest
use Rattle.machine.specs.declared.state.Stage.{Stage}
use Rattle.machine.specs.declared.state.Stage.TheVariants.{Idle, Loading, Complete}
use Rattle.machine.specs.declared.state.Device.{Device}
use Rattle.machine.specs.Device.{next_of}
use Rattle.device.specs.Fields.{device_of}
use Rattle.capi.specs.State.{key_at, stage_at, next_at, manifest_at, hashes_at, state_length, stage_number, encode, stage_from, stage_in, device_in, decode}
use Rattle.capi.specs.Progress.{progress_of}
use Rattle.capi.specs.Claims.{Fits, GivesBack}

-- what `stage_in` says of bytes of the right length
pub right-length : (b : List ℕ) {k n : ℕ} → length b ≡ state_length → k ≡ number (part stage_at 2 b) → n ≡ number (part next_at 2 b) → stage_in b ≡ stage_from k n
unfolding stage_in
right-length b l ek en = rw (l, ek, en)

chosen : (x : Bool) (o : Option Stage) {t : Stage} → cond x o None ≡ Some t → x ≡ true
chosen true o e = refl
chosen false o e = cc

-- bytes that encode a stage have a state's length
pub stage_length : (b : List ℕ) {t : Stage} → stage_in b ≡ Some t → length b ≡ state_length
unfolding stage_in
stage_length b e = eqb-true _ _ (chosen (eqb (length b) state_length) _ e)

pub decode-none : (b : List ℕ) → stage_in b ≡ None → decode b ≡ None
unfolding decode
decode-none b e = rw (e, decode)

pub decode-some : (b : List ℕ) {t : Stage} → stage_in b ≡ Some t → decode b ≡ Some (device_in b t)
unfolding decode
decode-some b e = rw (e, decode)

-- the device whose fields the code read in b
pub device-is : (b : List ℕ) (t : Stage) {model : ℕ} {key hashes : List ℕ} {manifest : Manifest} → model ≡ number (part 0 4 b) → key ≡ part key_at key_length b
    → manifest ≡ read (part manifest_at manifest_length b) → hashes ≡ part hashes_at held_bytes b → device_of model key t manifest hashes ≡ device_in b t
unfolding device_in
device-is b t em ek es eh = λ i. record { model = em i; key = ek i; stage = t; manifest = es i; hashes = eh i }

stage-back : (t : Stage) → stage_from (stage_number t) (next_of t) ≡ Some t
unfolding stage_from stage_number next_of
stage-back Idle = refl
stage-back (Loading i) = refl
stage-back Complete = refl

small : (t : Stage) → stage_number t < 256 ^ 2
unfolding stage_number
small Idle = omega arith
small (Loading i) = omega arith
small Complete = omega arith

-- the lengths of the fields, and of those that a message may change, but for the hashes
abbrev pub progress_lengths : List ℕ
progress_lengths = 2 ∷ 2 ∷ manifest_length ∷ []

abbrev lengths : List ℕ
lengths = 4 ∷ key_length ∷ (progress_lengths ++ (held_bytes ∷ []))

-- A state's bytes in two, its fields f and its hashes h: the device that they encode.
module _ (f h : List ℕ) (lf : length f ≡ hashes_at) (lh : length h ≡ held_bytes) where
  in-front : (i k : ℕ) → i + k ≤ hashes_at → part i k f ≡ part i k (f ++ h)
  in-front i k room =
      let within : k ≤ length (drop i f) = rw (length-drop i f) (omega arith) in
      sym (ap (take k) (drop-append-le i f h (omega arith)) ∙ take-append-le k (drop i f) h within)

  pub view-is : (t : Stage) → device_of (number (part 0 4 f)) (part key_at key_length f) t (read (part manifest_at manifest_length f)) h ≡ device_in (f ++ h) t
  view-is t =
      device-is (f ++ h) t (ap number (in-front 0 4 (omega arith))) (in-front key_at key_length (omega arith)) (ap read (in-front manifest_at manifest_length (omega arith)))
      (sym (ap (take held_bytes) (drop_at f h hashes_at lf) ∙ take_all held_bytes h (omega arith)))

-- what is lent from index at on and comes back as p is copied there
pub lent-copied : (d p : List ℕ) (at : ℕ) {k : ℕ} → length p ≡ k → put_mid at k d p ≡ paste d at p (length p)
lent-copied d p at e =
    ap (λ (x : List ℕ). take at d ++ (p ++ x)) (ap (λ (n : ℕ). drop n (drop at d)) (sym e) ∙ drop-drop (length p) at d)
    ∙ sym (append_assoc (take at d) p (drop (at + length p) d))
    ∙ ap (λ (x : List ℕ). (take at d ++ x) ++ drop (at + length p) d) (sym (take-length p))

-- model, key, what else a message may change before the hashes, and these are the state
pub encode-is : (d : Device) {model key progress hashes : List ℕ} → model ≡ bytes 4 d.model → key ≡ d.key → progress ≡ joined (progress_of d.stage d.manifest) → hashes ≡ d.hashes
    → model ++ (key ++ (progress ++ hashes)) ≡ encode d
unfolding encode joined
encode-is d em ek ep eh =
    let behind : List ℕ → List ℕ → List ℕ = λ x y. x ++ y in
    ap₂ behind em (ap₂ behind ek (ap₂ behind ep eh ∙ sym (joined-last (progress_of d.stage d.manifest) d.hashes)))

-- A state's fields f in which stage, next number and manifest come back as p, and the hashes h: the state of the device with these, and with the model and key of f.
module _ (f h : List ℕ) (bytes-f : Bytes f) (lf : length f ≡ hashes_at) where
  pub encode-back : (d : Device) {p : List ℕ} → d.model ≡ number (part 0 4 f) → d.key ≡ part key_at key_length f → p ≡ joined (progress_of d.stage d.manifest) → h ≡ d.hashes
      → put_mid stage_at (length f - stage_at) f p ++ h ≡ encode d
  encode-back d {p} em ek ep eh =
      let k : length f - stage_at ≡ hashes_at - stage_at = omega arith in
      let none : post_of stage_at (length f - stage_at) f ≡ [] =
      ap (λ (n : ℕ). post_of stage_at n f) k ∙ Post-is stage_at hashes_at f (omega arith) ∙ drop_of_length-le f {i = hashes_at} (omega arith) in
      ap₂ {C = List ℕ} (λ (x y : List ℕ). (x ++ (p ++ y)) ++ h) (take-add 4 key_length f) none
      ∙ ap (λ (x : List ℕ). ((part 0 4 f ++ part key_at key_length f) ++ x) ++ h) (append-nil p)
      ∙ append_assoc (part 0 4 f ++ part key_at key_length f) p h
      ∙ append_assoc (part 0 4 f) (part key_at key_length f) (p ++ h)
      ∙ encode-is d (sym (bytes-part f bytes-f 0 4 (omega arith)) ∙ ap (bytes 4) (sym em)) (sym ek) ep eh

module _ (d : Device) (f : Fits d) where
  abbrev fields : List (List ℕ)
  fields = bytes 4 d.model ∷ d.key ∷ bytes 2 (stage_number d.stage) ∷ bytes 2 (next_of d.stage) ∷ written d.manifest ∷ d.hashes ∷ []

  fields-long : map length fields ≡ lengths
  fields-long = simp (length-bytes, f.key, manifest.length-written d.manifest f.manifest.root, f.hashes)

  pub length-encode : length (encode d) ≡ state_length
  unfolding encode
  length-encode = joined_length lengths fields fields-long

  field : (i : ℕ) → part (total (take i lengths)) (get_or lengths i 0) (encode d) ≡ get_or fields i []
  unfolding encode
  field = stands lengths fields fields-long

  pub stage-encode : stage_in (encode d) ≡ Some d.stage
  stage-encode =
      right-length (encode d) length-encode (sym (number-back 2 (stage_number d.stage) (field 2) (small d.stage))) (sym (number-back 2 (next_of d.stage) (field 3) f.next))
      ∙ stage-back d.stage

  device-encode : device_in (encode d) d.stage ≡ d
  unfolding device_in
  device-encode =
      λ i.
      record {
        model = number-back 4 d.model (field 0) f.model i;
        key = field 1 i;
        stage = d.stage;
        manifest = (ap read (field 4) ∙ manifest.read-written d.manifest f.manifest) i;
        hashes = field 5 i;
      }

pub decode-encode : GivesBack
decode-encode d f = decode-some (encode d) (stage-encode d f) ∙ ap Some (device-encode d f)
