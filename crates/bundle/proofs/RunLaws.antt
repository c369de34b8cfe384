-- The loop over the block messages.
use mathlib.Core.Path.{◌≡◌, refl, sym, ap, ap₂, ◌∙◌}
use mathlib.Core.Bool.{false, true≢false}
use mathlib.Core.List.{List, [], ◌++◌, append_assoc, append-nil}
use Prim.Native.Nat.{ℕ, suc, ◌+◌, ◌-◌, ◌*◌, min, ◌≤◌, ◌<◌}
use native.Mathlib.Omega.{arith}
use Rattle.std.specs.Prelude.{Ok, Err, true, is_err}
use Rattle.std.proofs.lemmas.List.{take_min, drop_min}
use lib.ListN.{length, take, drop, length-append}
use Rattle.octets.proofs.CopyLaws.{part-from}
use Rattle.decimal.specs.Decimal.{ascii}
use Rattle.decimal.specs.Buffer.{Appended}
use Rattle.decimal.proofs.AppendedLaws.{appended-none, length-kept, retold, joined}
use Rattle.sha256.specs.Sha256.{digest}
use Rattle.merkle.specs.Limits.{max_blocks}
use Rattle.merkle.specs.Blocks.{block_count}
use Rattle.lms.specs.Lms.{valid}
use Rattle.wire.specs.Size.{wrong_size}
use Rattle.wire.specs.Geometry.{count_of}
use Rattle.wire.specs.Message.{due_length}
use Rattle.wire.proofs.SizeLaws.{sized}
use Rattle.machine.specs.declared.state.Device.{Device}
use Rattle.machine.specs.Answer.{Answer, Accepted}
use Rattle.machine.specs.Device.{Outcome}
use Rattle.machine.specs.Step.{step}
use Rattle.machine.specs.Readers.{number_of}
use Rattle.bundle.specs.Text.{block_line}
use Rattle.bundle.specs.Load.{loader_budget, Printed, ◌before◌, stop, if_accepted, blocks_from, blocks}
use Rattle.bundle.specs.Steps.{Ran}
use Rattle.bundle.proofs.TextLaws.{message-short}

pub before-none : (p : Printed) → [] before p ≡ p
unfolding ◌before◌
before-none p = refl

before-both : (s t : List ℕ) (p : Printed) → s before (t before p) ≡ (s ++ t) before p
unfolding ◌before◌
before-both s t p = ap (λ (x : List ℕ). record { text = x; device = p.device; flash = p.flash }) (sym (append_assoc s t p.text))

pub before-stop : (s : List ℕ) (d : Device) (f : List ℕ) → s before stop d f ≡ record { text = s; device = d; flash = f }
unfolding ◌before◌
before-stop s d f = ap (λ (x : List ℕ). record { text = x; device = d; flash = f }) (append-nil s)

pub if-accepted : (o : Outcome) (p : Printed) → o.answer ≡ Accepted → if_accepted o p ≡ p
unfolding if_accepted
if-accepted o p e = rw (e, if_accepted)

pub if-refused : (o : Outcome) (p : Printed) → is_err o.answer ≡ true → if_accepted o p ≡ stop o.device o.flash
unfolding if_accepted
if-refused o p e = go o.answer refl e
  where
    go : (a : Answer) → o.answer ≡ a → is_err a ≡ true → if_accepted o p ≡ stop o.device o.flash
    go (Ok t) q e = absurd (true≢false (sym e))
    go (Err r) q e = rw (q, if_accepted)

-- what the test of an answer says
pub accepted : (a : Answer) → is_err a ≡ false → a ≡ Accepted
accepted (Ok t) e = refl
accepted (Err r) e = absurd (true≢false e)

-- a run whose text is all written
pub ran : {p : Printed} {out out' text f : List ℕ} {at next : ℕ} {d : Device} → record { text = text; device = d; flash = f } ≡ p → Appended out at out' next text → Ran p out at out' next d f
ran e w = record { appended = retold w (ap (λ (q : Printed). q.text) e); device = ap (λ (q : Printed). q.device) e; flash = ap (λ (q : Printed). q.flash) e }

module _ (L T n : ℕ) where
  -- one message, and the rest
  one_block : (i : ℕ) (d : Device) (f b : List ℕ) → i ≤ n
      → blocks_from L T (n + 1 - i) i d f b
      ≡ (let o = step digest valid loader_budget d f (take (due_length L T i) b) in
      block_line i (number_of o.answer) before if_accepted o (blocks_from L T (n + 1 - (i + 1)) (i + 1) o.device o.flash (drop (due_length L T i) b)))
  unfolding blocks_from
  one_block i d f b h =
      let e : n + 1 - i ≡ suc (n - i) = omega arith in
      let g : n + 1 - (i + 1) ≡ n - i = omega arith in
      let k : i + 1 ≡ suc i = omega arith in
      rw (e, g, k) refl

  module _ (start : Device) (flash₀ bytes out₀ : List ℕ) (from : ℕ) where
    -- before message i: what is printed so far, and what follows, are the whole
    pub record Looping (flash out : List ℕ) (d : Device) (at : ℕ) (rest : List ℕ) (i : ℕ) : Type 0 where
      pub first : 0 < i
      pub last : i ≤ n + 1
      pub size : length flash ≡ length flash₀
      pub text : List ℕ
      pub appended : Appended out₀ from out at text
      pub short : length text ≤ 15 * (i - 1)
      pub whole : text before blocks_from L T (n + 1 - i) i d flash rest ≡ blocks_from L T n 1 start flash₀ bytes

    pub looping-start : Looping flash₀ out₀ start from bytes 1
    looping-start =
        let e : n + 1 - 1 ≡ n = omega arith in
        record {
          first = omega arith;
          last = omega arith;
          size = refl;
          text = [];
          appended = appended-none out₀ from;
          short = omega arith;
          whole = before-none _ ∙ ap (λ (k : ℕ). blocks_from L T k 1 start flash₀ bytes) e;
        }

    pub looping-end : {flash out : List ℕ} {d : Device} {at i : ℕ} {rest : List ℕ} → Looping flash out d at rest i → n < i → n ≤ max_blocks
        → Ran (blocks_from L T n 1 start flash₀ bytes) out₀ from out at d flash × (at ≤ from + 15 * max_blocks)
    unfolding blocks_from
    looping-end {flash} {out} {d} {at} {i} {rest} w h m =
        let e : n + 1 - i ≡ 0 = omega (arith, w.last) in
        let all : w.text before stop d flash ≡ blocks_from L T n 1 start flash₀ bytes =
        ap (λ (k : ℕ). w.text before blocks_from L T k i d flash rest) (sym e) ∙ w.whole in
        (ran (sym (before-stop w.text d flash) ∙ all) w.appended, omega (arith, w.short, w.last, w.appended.end))

    module _ {flash out rest : List ℕ} {d : Device} {at i : ℕ} (w : Looping flash out d at rest i) (h : i ≤ n + 1) (few : n ≤ max_blocks) (room : from + 15 * max_blocks ≤ length out₀) where
      pub out-kept : length out ≡ length out₀
      out-kept = length-kept w.appended (omega (arith, w.short))

      pub line-fits : (answer : ℕ) → i ≤ n → answer < 256 → at + length (block_line i answer) ≤ length out
      line-fits answer g small = omega (arith, out-kept, w.short, w.first, w.appended.end, message-short (ascii "block ") i answer (omega arith) (omega arith))

    module _ {flash out out' rest : List ℕ} {d : Device} {at at' i : ℕ} (w : Looping flash out d at rest i) (h : i ≤ n) (few : n ≤ max_blocks)
        (room : from + 15 * max_blocks ≤ length out₀) (o : Outcome) (long len : ℕ) (is-due : long ≡ due_length L T i) (cut : len ≡ min long (length rest))
        (done : step digest valid loader_budget d flash (take len rest) ≡ o) (answer : ℕ) (answer-is : answer ≡ number_of o.answer) (small : answer < 256)
        (v : Appended out at out' at' (block_line i answer)) where
      abbrev line : List ℕ
      line = block_line i answer

      line-short : length line ≤ 15
      line-short = message-short (ascii "block ") i answer (omega arith) (omega arith)

      both : Appended out₀ from out' at' (w.text ++ line)
      both = joined w.appended v (omega (arith, w.short, line-short))

      both-short : length (w.text ++ line) ≤ 15 * (i + 1 - 1)
      both-short = omega (arith, length-append w.text line, w.short, line-short, w.first)

      due : len ≡ min (due_length L T i) (length rest)
      due = cut ∙ ap (λ (k : ℕ). min k (length rest)) is-due

      follows : (w.text ++ line) before if_accepted o (blocks_from L T (n + 1 - (i + 1)) (i + 1) o.device o.flash (drop len rest)) ≡ blocks_from L T n 1 start flash₀ bytes
      follows =
          let m : take (due_length L T i) rest ≡ take len rest = sym (ap (λ (k : ℕ). take k rest) due ∙ take_min (due_length L T i) rest) in
          let r : drop (due_length L T i) rest ≡ drop len rest = sym (ap (λ (k : ℕ). drop k rest) due ∙ drop_min (due_length L T i) rest) in
          let q : step digest valid loader_budget d flash (take (due_length L T i) rest) ≡ o = ap (step digest valid loader_budget d flash) m ∙ done in
          let after : Outcome → ℕ → List ℕ → Printed = λ x y z. block_line i y before if_accepted x (blocks_from L T (n + 1 - (i + 1)) (i + 1) x.device x.flash z) in
          sym (before-both w.text line _)
          ∙ ap (λ (p : Printed). w.text before p)
          (ap (λ (y : ℕ). after o y (drop len rest)) answer-is
          ∙ ap₂ {C = Printed} (λ (x : Outcome) (z : List ℕ). after x (number_of x.answer) z) (sym q) (sym r)
          ∙ sym (one_block i d flash rest h))
          ∙ w.whole

      pub one_more : {rest' : List ℕ} → rest' ≡ take (length rest - len) (drop len rest) → length o.flash ≡ length flash → o.answer ≡ Accepted → Looping o.flash out' o.device at' rest' (i + 1)
      one_more r same e =
          record {
            first = omega arith;
            last = omega arith;
            size = same ∙ w.size;
            text = w.text ++ line;
            appended = both;
            short = both-short;
            whole =
                ap (λ (b : List ℕ). (w.text ++ line) before blocks_from L T (n + 1 - (i + 1)) (i + 1) o.device o.flash b) (r ∙ part-from rest len)
                ∙ ap (λ (p : Printed). (w.text ++ line) before p) (sym (if-accepted o _ e))
                ∙ follows;
          }

      pub stopped : is_err o.answer ≡ true → Ran (blocks_from L T n 1 start flash₀ bytes) out₀ from out' at' o.device o.flash × (at' ≤ from + 15 * max_blocks)
      stopped e = (
        ran (sym (before-stop (w.text ++ line) o.device o.flash) ∙ ap (λ (p : Printed). (w.text ++ line) before p) (sym (if-refused o _ e)) ∙ follows) both,
        omega (arith, both-short, both.end),
      )

pub all_blocks : (start : Device) (flash bytes : List ℕ) {L T n : ℕ} → L ≡ start.manifest.block_len → T ≡ start.manifest.image_len → n ≡ block_count L T
    → blocks_from L T n 1 start flash bytes ≡ blocks start flash bytes
unfolding blocks count_of
all_blocks start flash bytes eL eT e = rw (e, eL, eT) refl

-- the same run, told in another way
pub rerun : {p q : Printed} {out out' f : List ℕ} {at next : ℕ} {d : Device} → p ≡ q → Ran p out at out' next d f → Ran q out at out' next d f
rerun e r = rw e at r

-- refusal 5 does not apply to the manifest
pub few-blocks : (L T : ℕ) {n : ℕ} → wrong_size L T ≡ false → n ≡ block_count L T → n ≤ max_blocks
few-blocks L T e f = rw f (sized L T e).count
