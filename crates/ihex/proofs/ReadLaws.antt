-- A text is read exactly if it keeps the rules and names no byte outside the image or twice.
use mathlib.Core.Path.{◌≡◌, refl, sym, ap, ◌∙◌}
use mathlib.Core.Bool.{Bool, true, false, cond, ◌||◌, or_assoc, true≢false}
use mathlib.Core.List.{List, [], ◌∷◌, ◌++◌, append-nil, append_assoc}
use Rattle.std.specs.Prelude.{Option, None, Some, Err}
use Prim.Native.Nat.{ℕ, suc, ◌+◌, ◌*◌, ◌≤◌, ◌<◌}
use native.Mathlib.Decide.{dec_lt}
use native.Mathlib.Omega.{arith}
use lib.ListN.{length, drop}
use borrow.Author.Tests.{le-ltb, lt-ltb}
use Rattle.wire.specs.declared.refusal.Refusal.{Refusal}
use Rattle.wire.specs.declared.refusal.Refusal.TheVariants as refusal
use Rattle.wire.specs.Refusal.{first_that_applies}
use Rattle.wire.proofs.SizeLaws.{or-false}
use Rattle.ihex.specs.declared.reading.Fault as code
use Rattle.ihex.specs.Line.{Line, data00, end01, upper04, line_of}
use Rattle.ihex.specs.Text.{lines, Byte, placed, Names, ended, named, under, outside, any_outside, is_named, any_repeated, image_of}
use Rattle.ihex.specs.Read.{Read, Refused, wrong_length, Before, start, named_by, upper_after, is_end, is_broken, after, refusals, Judged, names, fault, judge, judged, TextOutcome, text_outcome, read}
use Rattle.ihex.specs.Code.{text_answer}
use Rattle.ihex.specs.Claims.{Denotes, AllRead}
use Rattle.ihex.proofs.StepLaws.{unended}
use Rattle.ihex.proofs.NamedLaws.{image-length, inside-tested, tested-inside, unrepeated, apart-unrepeated}

outside-append : (base k : ℕ) (bs cs : List Byte) → any_outside base k (bs ++ cs) ≡ any_outside base k bs || any_outside base k cs
unfolding any_outside
outside-append base k [] cs = refl
outside-append base k (b ∷ bs) cs = rw (outside-append base k bs cs) (sym (or_assoc (outside base k b.address) (any_outside base k bs) (any_outside base k cs)))

repeated-append : (bs cs ds : List Byte) → any_repeated bs (cs ++ ds) ≡ any_repeated bs cs || any_repeated (bs ++ cs) ds
unfolding any_repeated
repeated-append bs [] ds = rw (append-nil bs)
repeated-append bs (c ∷ cs) ds =
    rw (repeated-append (bs ++ (c ∷ [])) cs ds, append_assoc bs (c ∷ []) cs) (sym (or_assoc (is_named c.address bs) _ _))

-- the rules for the lines after the end record, and for those before it
abbrev After : Bool → ℕ → List (List ℕ) → List Byte → Type 0
After true u ls new = (ls ≡ []) × (new ≡ [])
After false u ls new = Names u ls new

after_line : (u : ℕ) (l : List ℕ) (ls : List (List ℕ)) (new : List Byte) (x : Option Line) → line_of l ≡ x → is_broken x ≡ false
    → After (is_end x) (upper_after u x) ls new → Names u (l ∷ ls) (named_by u x ++ new)
after_line u l ls new None e q a = absurd (true≢false q)
after_line u l ls new (Some (data00 x vs)) e q a = named e a
after_line u l ls new (Some end01) e q a = rw (a.0, a.1) (ended e)
after_line u l ls new (Some (upper04 v)) e q a = under e a

-- no refusal of a line applies, so none of its tests is true
pub clear : (s o r : Bool) → first_that_applies ((refusal.Text, s) ∷ (refusal.Place, o) ∷ (refusal.Twice, r) ∷ []) ≡ None → (s ≡ false) × (o ≡ false) × (r ≡ false)
unfolding first_that_applies
clear false false false q = (refl, refl, refl)
clear true o r q = (cc, cc, cc)
clear false true r q = (cc, cc, cc)
clear false false true q = (cc, cc, cc)

pub unfaulted : (f : Option Refusal) (j : Judged) (n : ℕ) (bs : List Byte) → elim f [ None ↦ j | Some r ↦ fault r n ] ≡ names bs → (f ≡ None) × (j ≡ names bs)
unfaulted None j n bs q = (refl, q)
unfaulted (Some r) j n bs q = (cc, cc)

module _ (base k : ℕ) where
  -- these lines, after those that left b, end a text well: it names bs
  record Ends (b : Before) (ls : List (List ℕ)) (bs : List Byte) : Type 0 where
    new : List Byte
    all : bs ≡ b.named ++ new
    rules : After b.ended b.upper ls new
    inside : any_outside base k new ≡ false
    apart : any_repeated b.named new ≡ false

  ends_last : (b : Before) (n : ℕ) (bs : List Byte) (t : Bool) → b.ended ≡ t → cond t (names b.named) (fault refusal.Text n) ≡ names bs → Ends b [] bs
  unfolding any_outside any_repeated
  ends_last b n bs true e q = record { new = []; all = rw (append-nil b.named) (cc); rules = rw e (refl, refl); inside = refl; apart = refl }
  ends_last b n bs false e q = absurd (let z : ◌≡◌ {A = ℕ} 0 1 = cc in omega arith)

  ends_more : (b : Before) (l : List ℕ) (ls : List (List ℕ)) (bs : List Byte) → first_that_applies (refusals base k b (line_of l)) ≡ None
      → Ends (after b (line_of l)) ls bs → Ends b (l ∷ ls) bs
  unfolding refusals after
  ends_more b l ls bs sound r =
      let here : List Byte = named_by b.upper (line_of l) in
      let c = clear _ _ _ sound in
      let t = or-false b.ended _ c.0 in
      record {
        new = here ++ r.new;
        all = r.all ∙ append_assoc b.named here r.new;
        rules = rw t.0 (after_line b.upper l ls r.new (line_of l) refl t.1 r.rules);
        inside = rw (outside-append base k here r.new, c.1) r.inside;
        apart = rw (repeated-append b.named here r.new, c.2) r.apart;
      }

  judged-ends : (b : Before) (n : ℕ) (ls : List (List ℕ)) (bs : List Byte) → judge base k b n ls ≡ names bs → Ends b ls bs
  unfolding judge
  judged-ends b n [] bs q = ends_last b n bs b.ended refl q
  judged-ends b n (l ∷ ls) bs q =
      let p = unfaulted (first_that_applies (refusals base k b (line_of l))) _ n bs q in
      ends_more b l ls bs p.0 (judged-ends (after b (line_of l)) (suc n) ls bs p.1)

  -- a line that no refusal applies to
  passes : (u : ℕ) (ns : List Byte) (n : ℕ) (l : List ℕ) (ls : List (List ℕ)) (x : Option Line) → line_of l ≡ x → is_broken x ≡ false
      → any_outside base k (named_by u x) ≡ false → any_repeated ns (named_by u x) ≡ false
      → judge base k (unended u ns) n (l ∷ ls) ≡ judge base k (after (unended u ns) x) (suc n) ls
  unfolding judge refusals first_that_applies
  passes u ns n l ls x e s o r =
      let f : first_that_applies (refusals base k (unended u ns) (line_of l)) ≡ None = rw (e, s, o, r) in
      rw (f, judge) (ap (λ (y : Option Line). judge base k (after (unended u ns) y) (suc n) ls) e)

  ends-judged : (u : ℕ) (ns : List Byte) (n : ℕ) (ls : List (List ℕ)) (new : List Byte) → Names u ls new → any_outside base k new ≡ false → any_repeated ns new ≡ false
      → judge base k (unended u ns) n ls ≡ names (ns ++ new)
  unfolding judge after any_outside any_repeated
  ends-judged u ns n ls new (ended {l} e) o r = passes u ns n l [] _ e refl refl refl
  ends-judged u ns n ls new (named {a} {l} {vs} {ls = rest} {bs} e w) o r =
      let here : List Byte = placed (u * 65536 + a) vs in
      let p = or-false (any_outside base k here) _ (rw (outside-append base k here bs) at o) in
      let q = or-false (any_repeated ns here) _ (rw (repeated-append ns here bs) at r) in
      passes u ns n l rest _ e refl p.0 q.0 ∙ ends-judged u (ns ++ here) (suc n) rest bs w p.1 q.1 ∙ ap names (append_assoc ns here bs)
  ends-judged u ns n ls new (under {v} {l} {ls = rest} e w) o r =
      passes u ns n l rest _ e refl refl refl ∙ rw (append-nil ns) (ends-judged v ns (suc n) rest new w o r)

  -- the two refusals that come before any line, and neither
  pub read-size : (text buffer : List ℕ) → wrong_length base k ≡ true → read text base k buffer ≡ record { answer = Refused refusal.Size 0; buffer = buffer }
  unfolding read first_that_applies
  read-size text buffer e = rw (e, read)

  pub read-area : (text buffer : List ℕ) → wrong_length base k ≡ false → length buffer < k → read text base k buffer ≡ record { answer = Refused refusal.Area 0; buffer = buffer }
  unfolding read first_that_applies
  read-area text buffer e h = rw (e, lt-ltb (length buffer) k h, read)

  read-lines : (text buffer : List ℕ) → wrong_length base k ≡ false → k ≤ length buffer → read text base k buffer ≡ text_outcome base k buffer (judged base k text)
  unfolding read first_that_applies
  read-lines text buffer e h = rw (e, le-ltb (length buffer) k h, read)

  -- what the lines come to
  pub read_names : (text buffer : List ℕ) (bs : List Byte) → wrong_length base k ≡ false → k ≤ length buffer → judged base k text ≡ names bs
      → read text base k buffer ≡ record { answer = Read; buffer = image_of base k bs ++ drop k buffer }
  unfolding text_outcome
  read_names text buffer bs e h j = rw (read-lines text buffer e h, j, image-length base k bs)

  pub read-fault : (text buffer : List ℕ) (r : Refusal) (n : ℕ) → wrong_length base k ≡ false → k ≤ length buffer → judged base k text ≡ fault r n
      → read text base k buffer ≡ record { answer = Refused r n; buffer = buffer }
  unfolding text_outcome
  read-fault text buffer r n e h j = rw (read-lines text buffer e h, j)

  pub denoted : {text : List ℕ} {bs : List Byte} → Denotes text base k bs → judged base k text ≡ names bs
  unfolding judged start is_named
  denoted {text} {bs} d = ends-judged 0 [] 1 (lines text) bs d.rules (inside-tested base k bs d.inside) (apart-unrepeated [] bs (λ c m. refl) d.once)

  denotes : (text : List ℕ) (bs : List Byte) → judged base k text ≡ names bs → Denotes text base k bs
  unfolding judged start
  denotes text bs e =
      let r = judged-ends start 1 (lines text) bs e in
      rw r.all (record { rules = r.rules; inside = tested-inside base k r.new r.inside; once = (unrepeated [] r.new r.apart).1 })

  answered : (buffer : List ℕ) (j : Judged) → (text_outcome base k buffer j).answer ≡ Read → (bs : List Byte) × (j ≡ names bs)
  unfolding text_outcome
  answered buffer (names bs) e = (bs, refl)
  answered buffer (fault r n) e = ([], cc)

-- who is told that the image was read has room for it
pub read-room : (text : List ℕ) (base k : ℕ) (buffer : List ℕ) → (read text base k buffer).answer ≡ Read → k ≤ length buffer
read-room text base k buffer q = go (wrong_length base k) refl (dec_lt (length buffer) k)
  where
    go : (t : Bool) → wrong_length base k ≡ t → Dec (length buffer < k) → k ≤ length buffer
    go true e d = let a = ap (λ (o : TextOutcome). o.answer) (read-size base k text buffer e) in let z : ◌≡◌ {A = ℕ} 0 1 = cc in absurd (omega arith)
    go false e (yes h) = let a = ap (λ (o : TextOutcome). o.answer) (read-area base k text buffer e h) in let z : ◌≡◌ {A = ℕ} 0 1 = cc in absurd (omega arith)
    go false e (no h) = omega arith

-- the code's answer
pub answer-names : (j : Judged) → text_answer j ≡ Read → (bs : List Byte) × (j ≡ names bs)
answer-names (names bs) e = (bs, refl)
answer-names (fault r n) e = ([], cc)

pub answer-fault : (j : Judged) (f : code.Fault) → text_answer j ≡ Err f → j ≡ fault f.refusal f.line
answer-fault (names bs) f e = cc
answer-fault (fault q m) f e = let g : record { refusal = q; line = m } ≡ f = cc in rw (← g)

pub all_read : AllRead
unfolding text_outcome
all_read text base k buffer e h =
    let a = read-lines base k text buffer e h in
    record {
      exactly = rw a (λ q. let j = answered base k buffer (judged base k text) q in (j.0, denotes base k text j.0 j.1), λ d. rw (denoted base k d.1));
      image = λ bs d. rw (a, denoted base k d);
    }
