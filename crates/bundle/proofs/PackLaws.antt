-- The bundle that `pack` makes: how long it is, and how it is written, part behind part.
use mathlib.Core.Path.{◌≡◌, refl, sym, ap, ◌∙◌}
use mathlib.Core.Logic.{◌⊎◌, inl, inr}
use mathlib.Core.Bool.{Bool, false}
use mathlib.Core.List.{List, [], ◌++◌, append-nil}
use Prim.Native.Nat.{ℕ, zero, suc, ◌+◌, ◌-◌, ◌*◌, ◌%◌, min, ◌≤◌, ◌<◌}
use native.Mathlib.Omega.{arith}
use native.Mathlib.Numerals.{add-one}
use lib.Dec.{ltb}
use lib.ListN.{length, take, drop, length-append, length-drop}
use lib.Seq.{paste}
use borrow.Author.Tests.{le-ltb, ltb-false}
use borrow.Rule.Slice.PartMut.{put_mid}
use Rattle.octets.specs.Octets.{bytes, joined, up_to}
use Rattle.octets.proofs.NumberLaws.{length-bytes, bytes-mod}
use Rattle.octets.proofs.CopyLaws.{part-from}
use Rattle.octets.proofs.JoinedLaws.{joined-suc}
use Rattle.sha256.specs.Sha256.{digest}
use Rattle.merkle.specs.Limits.{hash_length}
use Rattle.merkle.specs.Frontier.{held_count}
use Rattle.merkle.proofs.ShapeLaws.{lt-or-le}
use Rattle.merkle.proofs.CountLaws.{held-zero, held_all, held_next}
use Rattle.wire.specs.declared.kind.Kind.TheVariants.{Program, Block}
use Rattle.wire.specs.declared.geometry.Geometry.{Geometry}
use Rattle.wire.specs.Refusal.{first_that_applies}
use Rattle.wire.specs.Size.{wrong_size}
use Rattle.wire.specs.Message.{least_length, due_length, messages_length, at_start}
use Rattle.wire.specs.Geometry.{block_length}
use Rattle.wire.proofs.SizeLaws.{Sized, sized, outside-not}
use Rattle.sender.specs.Job.{Image, Job, job, count, program_for, block_for}
use Rattle.sender.specs.Send.{Sent, Written, length_of, Does, as_is, send, too_short, unnumbered, numbered, send_program, send_block}
use Rattle.sender.specs.Given.{LengthsOf}
use Rattle.sender.proofs.BlockLaws.{size}
use Rattle.sender.proofs.JobLaws.{length-block, length-program}
use Rattle.wire.proofs.PutLaws.{Put, put-start, put-more, length-put, put_all, put-part}
use Rattle.bundle.specs.Parts.{trailer_length}
use Rattle.bundle.specs.Bundle.{block_messages, bundle_for}
use Rattle.bundle.specs.Steps.{unsigned_length}
use Rattle.bundle.specs.Claims.{MessagesLength}

module _ (x : Image) where
  pub messages-suc : (i : ℕ) → block_messages digest x (suc i) ≡ block_messages digest x i ++ block_for digest x (suc i)
  unfolding block_messages
  messages-suc i = joined-suc i (λ k. block_for digest x (suc k))

  more-messages : (i : ℕ) → length (block_messages digest x (suc i)) ≡ length (block_messages digest x i) + length (block_for digest x (suc i))
  more-messages i = ap length (messages-suc i) ∙ length-append (block_messages digest x i) (block_for digest x (suc i))

  messages-grow : (i n : ℕ) → i ≤ n → length (block_messages digest x i) ≤ length (block_messages digest x n)
  messages-grow i zero h = let e : i ≡ 0 = omega arith in rw e (omega arith)
  messages-grow i (suc n) h = go (lt-or-le i (suc n)) (λ g. messages-grow i n g)
    where
      go : (i < suc n) ⊎ (suc n ≤ i) → (i ≤ n → length (block_messages digest x i) ≤ length (block_messages digest x n))
          → length (block_messages digest x i) ≤ length (block_messages digest x (suc n))
      go (inl g) ih = omega (arith, ih (omega arith), more-messages n)
      go (inr g) ih = let e : i ≡ suc n = omega arith in rw e (omega arith)

  pub no-messages : (d : List ℕ) → Put d d (block_messages digest x 0) 0
  unfolding block_messages joined up_to
  no-messages d = record { is = refl; size = refl }

  -- Each message carries its block, takes a held hash away and brings those that it carries: before the first the root is held, after the last nothing.
  length_some : (i : ℕ) → i ≤ count x
      → length (block_messages digest x i) + hash_length ≡ i * (least_length Block + hash_length) + min (i * x.block_len) (length x.bytes) + hash_length * held_count (count x) i
  unfolding block_messages joined up_to due_length block_length count
  length_some zero h = omega (arith, held-zero (count x))
  length_some (suc i) h =
      let e : suc i * x.block_len ≡ i * x.block_len + x.block_len = omega arith in
      omega (arith, more-messages i, length_some i (omega arith), length-block x (suc i) (omega arith), held_next (count x) i h)

  -- so all n together carry the image and n - 1 hashes
  length-all : Sized x.block_len (length x.bytes) → length (block_messages digest x (count x)) ≡ messages_length x.block_len (length x.bytes)
  unfolding messages_length count
  length-all z = omega (arith, length_some (count x) (omega arith), held_all (count x) z.first, z.above)

pub length-messages : MessagesLength
length-messages x e = length-all x (sized x.block_len (length x.bytes) e)

-- A call of the sender that has nothing to refuse writes the bytes to the start of the buffer, and answers their length.
abbrev Wrote : (bytes buffer : List ℕ) → Sent → List ℕ → Type 0
Wrote bytes buffer answer r = (answer ≡ Written (length bytes)) × (r ≡ at_start bytes buffer)

module _ (x : Image) (z : wrong_size x.block_len (length x.bytes) ≡ false) (buffer : List ℕ) {answer : Sent} {r : List ℕ} where
  block-wrote : (i : ℕ) → 0 < i → i ≤ count x → length (block_for digest x i) ≤ length buffer → Does as_is (send_block x i buffer) answer r → Wrote (block_for digest x i) buffer answer r
  unfolding send_block numbered send first_that_applies too_short
  block-wrote i low high room d =
      let w = rw (z, outside-not (count x) i (λ e. absurd (omega arith)) high, le-ltb (length buffer) (length (block_for digest x i)) room) at d in
      (w.answered, w.left)

  program-wrote : (model serial : ℕ) (signature : List ℕ) → (let j = job x model serial in length (program_for digest j signature) ≤ length buffer → Does as_is (send_program j signature buffer) answer r
      → Wrote (program_for digest j signature) buffer answer r)
  unfolding send_program unnumbered send first_that_applies too_short
  program-wrote model serial signature room d =
      let j = job x model serial in
      let w = rw (z, le-ltb (length buffer) (length (program_for digest j signature)) room) at d in
      (w.answered, w.left)

-- The part of the buffer behind what is there, handed to the sender; k is the length that it answers.
module _ {d r p : List ℕ} {at : ℕ} (b : Put d r p at) where
  abbrev rest : List ℕ
  rest = take (length r - at) (drop at r)

  length_rest : at ≤ length d → length rest ≡ length d - at
  length_rest h = ap length (part-from r at) ∙ length-drop at r ∙ omega (arith, length-put b h)

  wrote-behind : (s mid : List ℕ) (k : ℕ) → at + length s ≤ length d → mid ≡ s ++ drop (length s) rest → k ≡ length s
      → (at + k ≤ length d) × Put d (put_mid at (length r - at) r mid) (p ++ s) (at + k)
  wrote-behind s mid k h e l = (
    omega arith,
    record {
      is = put-part b s mid h e ∙ ap (λ (x : ℕ). (p ++ s) ++ drop (at + x) d) (sym l);
      size = length-append p s ∙ omega (arith, b.size);
    },
  )

module _ (x : Image) (z : wrong_size x.block_len (length x.bytes) ≡ false) {d r : List ℕ} {at : ℕ} {answer : Sent} {mid : List ℕ} {k : ℕ} (wrote : k ≡ length_of answer) where
  -- one block message more
  behind : (i : ℕ) (b : Put d r (block_messages digest x i) at) → i < count x → length (block_messages digest x (count x)) ≤ length d
      → Does as_is (send_block x (i + 1) (rest b)) answer mid → (at + k ≤ length d) × Put d (put_mid at (length r - at) r mid) (block_messages digest x (i + 1)) (at + k)
  behind i b h room does =
      let fits : at + length (block_for digest x (suc i)) ≤ length d = omega (arith, b.size, more-messages x i, messages-grow x (suc i) (count x) h) in
      let w = block-wrote x z (rest b) (suc i) (omega arith) h (omega (arith, length_rest b (omega arith))) (rw (add-one i) at does) in
      rw (add-one i, messages-suc x i) (wrote-behind b (block_for digest x (suc i)) mid k fits w.1 (wrote ∙ ap length_of w.0))

  pub block-behind : (i : ℕ) → 0 < i → (b : Put d r (block_messages digest x (i - 1)) at) → i ≤ count x → length (block_messages digest x (count x)) ≤ length d
      → Does as_is (send_block x i (rest b)) answer mid → (at + k ≤ length d) × Put d (put_mid at (length r - at) r mid) (block_messages digest x i) (at + k)
  block-behind i low b h room does = let e : i - 1 + 1 ≡ i = omega arith in rw e at (behind (i - 1) b (omega arith) room (rw e does))

  -- the kind 1 message
  pub program-behind : {p : List ℕ} (b : Put d r p at) (model serial : ℕ) (signature : List ℕ) → (let j = job x model serial in
      at + (least_length Program + length signature) ≤ length d → Does as_is (send_program j signature (rest b)) answer mid
      → (k ≡ least_length Program + length signature) × Put d (put_mid at (length r - at) r mid) (p ++ program_for digest j signature) (at + k))
  program-behind b model serial signature room does =
      let j = job x model serial in
      let l = length-program j signature in
      let w = program-wrote x z (rest b) model serial signature (omega (arith, length_rest b (omega arith))) does in
      let is = wrote ∙ ap length_of w.0 in
      (is ∙ l, (wrote-behind b (program_for digest j signature) mid k (omega arith) w.1 is).1)

module _ (j : Job) (signature : List ℕ) {g : Geometry} (of : LengthsOf j.image g) where
  -- all but the trailer
  abbrev front : List ℕ
  front = block_messages digest j.image (count j.image) ++ program_for digest j signature

  abbrev trailer : List ℕ
  trailer = bytes trailer_length (length (program_for digest j signature))

  bundle-is : front ++ trailer ≡ bundle_for digest j [] signature
  unfolding bundle_for
  bundle-is = ap (λ (x : List ℕ). (x ++ program_for digest j signature) ++ trailer) (sym (append-nil (block_messages digest j.image (count j.image))))

  length-trailer : length trailer ≡ trailer_length
  length-trailer = length-bytes trailer_length (length (program_for digest j signature))

  pub length-bundle : (least : ℕ) → least ≡ unsigned_length g.block_len g.image_len → length (bundle_for digest j [] signature) ≡ least + length signature
  length-bundle least e =
      let u : least ≡ unsigned_length j.image.block_len (length j.image.bytes) = rw (of.block_len, of.image_len) at e in
      ap length (sym bundle-is) ∙ length-append front trailer
      ∙ omega (arith, length-append (block_messages digest j.image (count j.image)) (program_for digest j signature), length-messages j.image (size of), length-program j signature, length-trailer)

  -- the block messages stand at the start, and what follows has room
  pub record Begun (out r : List ℕ) (least at : ℕ) : Type 0 where
    pub length_is : at + (least_length Program + trailer_length) ≡ least
    pub room : at + (least_length Program + trailer_length) + length signature ≤ length out
    pub put : Put out r (block_messages digest j.image (count j.image)) at

  -- refusal 8 does not apply
  module _ (out : List ℕ) {least : ℕ} {short : Bool} (u : least ≡ unsigned_length g.block_len g.image_len) (t : short ≡ ltb (length out) (least + length signature)) (f : short ≡ false) where
    pub room-for : length (block_messages digest j.image (count j.image)) ≤ length out
    room-for =
        let e : least ≡ unsigned_length j.image.block_len (length j.image.bytes) = rw (of.block_len, of.image_len) at u in
        omega (arith, ltb-false (length out) (least + length signature) (sym t ∙ f), length-messages j.image (size of))

    pub begun : {r : List ℕ} {at : ℕ} → (at ≡ length (block_messages digest j.image (count j.image))) × (r ≡ at_start (block_messages digest j.image (count j.image)) out) → Begun out r least at
    begun {at = at} p =
        let e : least ≡ unsigned_length j.image.block_len (length j.image.bytes) = rw (of.block_len, of.image_len) at u in
        let z = length-messages j.image (size of) in
        record { length_is = omega (arith, p.0); room = omega (arith, p.0, ltb-false (length out) (least + length signature) (sym t ∙ f)); put = put-start at (sym p.0) p.1 }

  -- the trailer behind the rest: t, which the code works out from the distance k
  pub trailer-behind : {d r r' : List ℕ} {at k : ℕ} {t : List ℕ} → Put d r front at → k ≡ least_length Program + length signature → t ≡ bytes trailer_length (k % 4294967296) → at + trailer_length ≤ length d
      → r' ≡ paste r at t (length t) → r' ≡ at_start (bundle_for digest j [] signature) d
  trailer-behind {d} {r} {r'} {at} {k} {t} b e f room g =
      let is : t ≡ trailer = f ∙ bytes-mod trailer_length k ∙ ap (bytes trailer_length) (e ∙ sym (length-program j signature)) in
      let four : length t ≡ trailer_length = ap length is ∙ length-trailer in
      put_all (put-more b t (at + trailer_length) (omega arith) (omega arith) g) ∙ ap (λ (x : List ℕ). at_start x d) (ap (λ (x : List ℕ). front ++ x) is ∙ bundle-is)
