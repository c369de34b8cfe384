-- The outcome of each return of the sender's functions.
use mathlib.Core.Path.{◌≡◌, refl, sym, ap, ◌∙◌}
use mathlib.Core.Bool.{Bool, true, false}
use mathlib.Core.List.{List, [], ◌∷◌}
use Prim.Native.Nat.{ℕ, ◌+◌, ◌≤◌, ◌<◌}
use Rattle.std.specs.Prelude.{Some, Result, Ok, Err, IsErrAnd, MatchResult}
use Rattle.std.proofs.lemmas.Result.{err_from_is_err_and}
use Rattle.sha256.specs.Sha256.{digest}
use lib.ListN.{length}
use borrow.Author.Tests.{lt-ltb, le-ltb}
use Rattle.wire.specs.declared.refusal.Refusal.{Refusal}
use Rattle.wire.specs.declared.refusal.Refusal.TheVariants.{Size, Turn, Area}
use Rattle.wire.specs.declared.kind.Kind.TheVariants.{Update}
use Rattle.wire.specs.declared.manifest.Manifest.{Manifest}
use Rattle.wire.specs.declared.geometry.Geometry.{Geometry}
use Rattle.wire.specs.Refusal.{first_that_applies}
use Rattle.wire.specs.Size.{wrong_size, outside}
use Rattle.wire.specs.Message.{least_length, successor_head, at_start}
use Rattle.wire.proofs.PutLaws.{Put, put-start, put_all}
use Rattle.wire.proofs.MessageLaws.{successor-size}
use Rattle.sender.specs.Job.{Image, Job, count, manifest_for}
use Rattle.sender.specs.Send.{Sent, Written, Refused, SendOutcome, Does, as_is, send, too_short, unnumbered, numbered}
use Rattle.sender.specs.Given.{LengthsOf}
use Rattle.sender.proofs.JobLaws.{length-root}
use Rattle.sender.proofs.BlockLaws.{size}

-- the answer in another form
pub told : {A : Type 0} {form : Sent → A} {s : SendOutcome} {answer : Sent} {x : A} {buffer : List ℕ} → Does as_is s answer buffer → x ≡ form answer → Does form s x buffer
told {form = form} d e = record { answered = e ∙ ap form d.answered; left = d.left }

module _ (x : Image) (bytes out : List ℕ) where
  -- the bytes at the start and nothing else
  whole : (k : ℕ) (r : List ℕ) → length bytes ≡ k → r ≡ at_start bytes out
      → Does as_is (record { answer = Written (length bytes); buffer = at_start bytes out }) (Written k) r
  whole k r l f = record { answered = ap Written (sym l); left = f }

  -- a refusal of what is tested first
  pub refused : {f : Refusal} (r : Sent) → IsErrAnd r (λ y. y ≡ f) → Some f ≡ first_that_applies ((Size, wrong_size x.block_len (length x.bytes)) ∷ [])
      → Does as_is (unnumbered x bytes out) r out
  unfolding unnumbered send first_that_applies
  refused {f} r h e = let p = err_from_is_err_and r h in rw (p.1, p.2) (go (wrong_size x.block_len (length x.bytes)) e)
    where
      go : (w : Bool) → Some f ≡ first_that_applies ((Size, w) ∷ []) → Does as_is (send ((Size, w) ∷ (Area, too_short bytes out) ∷ []) bytes out) (Refused f) out
      go true e = record { answered = cc; left = refl }
      go false e = cc

  pub refused-at : {f : Refusal} (r : Sent) (i : ℕ) → IsErrAnd r (λ y. y ≡ f) → Some f ≡ first_that_applies ((Size, wrong_size x.block_len (length x.bytes)) ∷ (Turn, outside (count x) i) ∷ [])
      → Does as_is (numbered x i bytes out) r out
  unfolding numbered send first_that_applies
  refused-at {f} r i h e = let p = err_from_is_err_and r h in rw (p.1, p.2) (go (wrong_size x.block_len (length x.bytes)) (outside (count x) i) e)
    where
      go : (w o : Bool) → Some f ≡ first_that_applies ((Size, w) ∷ (Turn, o) ∷ [])
          → Does as_is (send ((Size, w) ∷ (Turn, o) ∷ (Area, too_short bytes out) ∷ []) bytes out) (Refused f) out
      go true o e = record { answered = cc; left = refl }
      go false true e = record { answered = cc; left = refl }
      go false false e = cc

  module _ {g : Geometry} (of : LengthsOf x g) where
    pub area-refused : length out < length bytes → Does as_is (unnumbered x bytes out) (Refused Area) out
    unfolding unnumbered send first_that_applies too_short
    area-refused h = rw (size of, lt-ltb (length out) (length bytes) h) (record { answered = refl; left = refl })

    pub all-written : (k : ℕ) (r : List ℕ) → length bytes ≡ k → k ≤ length out → r ≡ at_start bytes out → Does as_is (unnumbered x bytes out) (Written k) r
    unfolding unnumbered send first_that_applies too_short
    all-written k r l h f = let g : length bytes ≤ length out = rw l h in rw (size of, le-ltb (length out) (length bytes) g) (whole k r l f)

    -- the same for messages with a number
    module _ (i : ℕ) (o : outside (count x) i ≡ false) where
      pub area-refused-at : length out < length bytes → Does as_is (numbered x i bytes out) (Refused Area) out
      unfolding numbered send first_that_applies too_short
      area-refused-at h = rw (size of, o, lt-ltb (length out) (length bytes) h) (record { answered = refl; left = refl })

      pub all-written-at : {r p : List ℕ} {k : ℕ} → Put out r p k → p ≡ bytes → k ≤ length out → Does as_is (numbered x i bytes out) (Written k) r
      unfolding numbered send first_that_applies too_short
      all-written-at {r} {p} {k} w e h =
          let l : length bytes ≡ k = ap length (sym e) ∙ w.size in
          let g : length bytes ≤ length out = rw l h in
          rw (size of, o, le-ltb (length out) (length bytes) g) (whole k r l (put_all w ∙ ap (λ (y : List ℕ). at_start y out) e))

-- what `put_successor` leaves, if it put number i there
pub head : (j : Job) (k i : ℕ) (block : List ℕ) {m : Manifest} (out : List ℕ) {r : List ℕ} {from : ℕ} → m ≡ manifest_for digest j → from ≡ least_length Update + length block
    → r ≡ at_start (successor_head k m i block) out → Put out r (successor_head k (manifest_for digest j) i block) from
head j k i block {m} out {r} {from} e f w =
    put-start from (successor-size k (manifest_for digest j) (length-root j) i block ∙ sym f) (w ∙ ap (λ (s : Manifest). at_start (successor_head k s i block) out) e)

-- of refusals 5 and 11, one that comes before the other
pub first-of : {f : Refusal} (w o : Bool) → Some f ≡ first_that_applies ((Size, w) ∷ []) → Some f ≡ first_that_applies ((Size, w) ∷ (Turn, o) ∷ [])
unfolding first_that_applies
first-of true o e = e
first-of false o e = cc

-- the lengths of an image, or refusal 5
pub lengths-or-size : (x : Image) (r : Result Geometry Refusal)
    → MatchResult r (λ g. (g.block_len ≡ x.block_len) × (g.image_len ≡ length x.bytes)) (λ f. (f ≡ Size) × (wrong_size x.block_len (length x.bytes) ≡ true))
    → MatchResult r (λ g. LengthsOf x g) (λ f. Some f ≡ first_that_applies ((Size, wrong_size x.block_len (length x.bytes)) ∷ []))
unfolding first_that_applies
lengths-or-size x (Ok g) h = record { block_len = h.0; image_len = h.1 }
lengths-or-size x (Err f) h = rw (h.0, h.1) refl
