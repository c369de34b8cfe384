-- Data put to their place in an image.
use mathlib.Core.Path.{◌≡◌, refl, sym, ap, ◌∙◌}
use mathlib.Core.Bool.{Bool, true, false, cond, ◌||◌}
use mathlib.Core.List.{List, [], ◌∷◌, ◌++◌, append-nil}
use Rattle.std.specs.Prelude.{Option, None, Some}
use Prim.Native.Nat.{ℕ, suc, ◌+◌, ◌-◌, ◌*◌, ◌%◌, ◌^◌, ◌≤◌, ◌<◌}
use native.Mathlib.Decide.{dec_lt}
use native.Mathlib.Omega.{arith}
use lib.Dec.{ltb}
use lib.ListN.{length, take, get_or, replicate, get_or-append}
use lib.Seq.{paste, take-length, take-paste, drop-paste, length-paste, get_or-take, get_or-drop, get_or-append-add, length-take-le, ext_get_or}
use borrow.Author.Tests.{le-ltb, le-leb, lt-leb, ltb-false}
use Rattle.wire.specs.declared.refusal.Refusal.TheVariants.{Text}
use Rattle.wire.specs.Refusal.{first_that_applies}
use Rattle.wire.proofs.SizeLaws.{or-false}
use Rattle.ihex.specs.Line as spec
use Rattle.ihex.specs.Line.{data00, line_of}
use Rattle.ihex.specs.Text.{lines, Byte, placed, any_outside, is_named, any_repeated, value_at, image_of}
use Rattle.ihex.specs.Read.{Before, start, named_by, upper_after, is_broken, after, refusals, names, fault, judge, judged}
use Rattle.ihex.specs.Code.{Places}
use Rattle.ihex.proofs.NamedLaws.{value-named, value-unnamed, value_none, image-length, image-at, image-none, placed_at, placed-named, placed-value, placed-outside, unrepeated}
use Rattle.ihex.proofs.StepLaws.{Fits}
use Rattle.ihex.proofs.LineLaws.{Cut, lines-none}
use Rattle.ihex.proofs.ReadLaws.{clear, unfaulted}

-- what stands at i after a copy of s over d, from `from` on
module _ (d s : List ℕ) (from : ℕ) (h : from + length s ≤ length d) where
  front : take (from + length s) (paste d from s (length s)) ≡ take from d ++ s
  front = take-paste d from s (length s) (omega arith) (omega arith) ∙ rw (take-length s)

  pasted-low : (i : ℕ) → i < from → get_or (paste d from s (length s)) i 0 ≡ get_or d i 0
  pasted-low i l =
      let n = length-take-le from d (omega arith) in
      sym (get_or-take (from + length s) (paste d from s (length s)) i 0 (omega arith))
      ∙ ap (λ (x : List ℕ). get_or x i 0) front
      ∙ get_or-append (take from d) s 0 i (omega arith)
      ∙ get_or-take from d i 0 l

  pasted-in : (i : ℕ) → from ≤ i → i < from + length s → get_or (paste d from s (length s)) i 0 ≡ get_or s (i - from) 0
  pasted-in i l m =
      let n = length-take-le from d (omega arith) in
      let e : i ≡ length (take from d) + (i - from) = omega arith in
      sym (get_or-take (from + length s) (paste d from s (length s)) i 0 m)
      ∙ ap (λ (x : List ℕ). get_or x i 0) front
      ∙ ap (λ (j : ℕ). get_or (take from d ++ s) j 0) e
      ∙ get_or-append-add (take from d) s (i - from) 0

  pasted-high : (i : ℕ) → from + length s ≤ i → get_or (paste d from s (length s)) i 0 ≡ get_or d i 0
  pasted-high i l =
      let e : from + length s + (i - (from + length s)) ≡ i = omega arith in
      let p = paste d from s (length s) in
      rw e at
      (sym (get_or-drop (from + length s) p (i - (from + length s)) 0)
      ∙ ap (λ (x : List ℕ). get_or x (i - (from + length s)) 0) (drop-paste d from s (length s) (omega arith) (omega arith))
      ∙ get_or-drop (from + length s) d (i - (from + length s)) 0)

-- bytes that are not at an address do not matter to its value
value-past : (a : ℕ) (bs cs : List Byte) → is_named a cs ≡ false → value_at a (bs ++ cs) ≡ value_at a bs
value-past a bs cs e = go (is_named a bs) refl
  where
    go : (t : Bool) → is_named a bs ≡ t → value_at a (bs ++ cs) ≡ value_at a bs
    go true n = value-named a bs cs n
    go false n = value-unnamed a bs cs n ∙ value_none a cs e ∙ sym (value_none a bs n)

module _ (base k x : ℕ) (vs : List ℕ) (last : base + k ≤ 2 ^ 32) (low : base ≤ x) (high : x + length vs ≤ base + k) (bs : List Byte) (once : any_repeated bs (placed x vs) ≡ false) where
  abbrev image : List ℕ
  image = image_of base k bs

  size : length image ≡ k
  size = image-length base k bs

  fits : x - base + length vs ≤ length image
  fits = omega (arith, size)

  value : (i : ℕ) → i < k → get_or (paste image (x - base) vs (length vs)) i 0 ≡ value_at (base + i) (bs ++ placed x vs)
  value i h = go (dec_lt (base + i) x) (dec_lt (base + i) (x + length vs))
    where
      apart : (j : ℕ) → j < length vs → is_named (x + j) bs ≡ false
      apart j l = let e : (x + j) % 2 ^ 32 ≡ x + j = omega arith in rw e at ((unrepeated bs (placed x vs) once).0 _ (placed_at x vs j l))

      go : Dec (base + i < x) → Dec (base + i < x + length vs) → get_or (paste image (x - base) vs (length vs)) i 0 ≡ value_at (base + i) (bs ++ placed x vs)
      go (yes l) m =
          pasted-low image vs (x - base) fits i (omega arith)
          ∙ image-at base k bs i h
          ∙ sym (value-past (base + i) bs (placed x vs) (placed-named x vs (omega arith) (base + i) ∙ rw (lt-leb x (base + i) l)))
      go (no l) (no m) =
          pasted-high image vs (x - base) fits i (omega arith)
          ∙ image-at base k bs i h
          ∙ sym (value-past (base + i) bs (placed x vs) (placed-named x vs (omega arith) (base + i) ∙ rw (le-leb x (base + i) (omega arith), le-ltb (base + i) (x + length vs) (omega arith))))
      go (no l) (yes m) =
          let j = i - (x - base) in
          let e : x + j ≡ base + i = omega arith in
          pasted-in image vs (x - base) fits i (omega arith) (omega arith)
          ∙ sym (rw e at (value-unnamed (x + j) bs (placed x vs) (apart j (omega arith)) ∙ placed-value x vs (omega arith) j (omega arith)))

  image-placed : paste image (x - base) vs (length vs) ≡ image_of base k (bs ++ placed x vs)
  image-placed =
      ext_get_or 0 (paste image (x - base) vs (length vs)) (image_of base k (bs ++ placed x vs))
      (length-paste image (x - base) vs (length vs) fits (omega arith) ∙ size ∙ sym (image-length base k (bs ++ placed x vs)))
      (λ i h.
      let l = length-paste image (x - base) vs (length vs) fits (omega arith) in
      value i (omega (arith, size)) ∙ sym (image-at base k (bs ++ placed x vs) i (omega (arith, size))))

-- Where the data of a line are.
module _ (base k u a : ℕ) (vs : List ℕ) where
  pub record DataInside : Type 0 where
    pub low : base ≤ u * 65536 + a
    pub high : u * 65536 + a + length vs ≤ base + k

  pub inside : Fits base k → u * 65536 + a < 2 ^ 32 → 0 < length vs → any_outside base k (placed (u * 65536 + a) vs) ≡ false → DataInside
  inside f l s e =
      let t = or-false (ltb (u * 65536 + a) base) _ (sym (placed-outside base k (u * 65536 + a) vs f.last l s f.most) ∙ e) in
      record { low = ltb-false (u * 65536 + a) base t.0; high = ltb-false (base + k) (u * 65536 + a + length vs) t.1 }

-- One line of a text with no fault.
module _ (base k u : ℕ) {out : List ℕ} where
  -- it names nothing
  pub places-nothing : (x : Option spec.Line) → named_by u x ≡ [] → Places base k u x out (upper_after u x) out
  places-nothing x e = record { upper = refl; image = λ bs o i. rw (e, append-nil bs) i }

  module _ (a : ℕ) (vs : List ℕ) where
    pub places-empty : length vs ≡ 0 → Places base k u (Some (data00 a vs)) out u out
    unfolding placed
    places-empty e = go vs e
      where
        go : (ws : List ℕ) → length ws ≡ 0 → Places base k u (Some (data00 a ws)) out u out
        go [] g = places-nothing (Some (data00 a [])) refl
        go (w ∷ ws) g = absurd (omega arith)

    pub places-data : {next : List ℕ} → Fits base k → DataInside base k u a vs → next ≡ paste out (u * 65536 + a - base) vs (length vs) → Places base k u (Some (data00 a vs)) out u next
    places-data f i e = record { upper = refl; image = λ bs o g. e ∙ rw g (image-placed base k (u * 65536 + a) vs f.last i.low i.high bs o) }

-- The lines of a text with no fault, that names `all`: before those of `rest`.
pub record Writing (base k : ℕ) (all : List Byte) (out : List ℕ) (u : ℕ) (rest : List ℕ) : Type 0 where
  pub before : Before
  pub number : ℕ
  pub upper : u ≡ before.upper
  pub image : out ≡ image_of base k before.named
  pub same : judge base k before number (lines rest) ≡ names all

module _ (base k : ℕ) (all : List Byte) where
  pub writing_start : {text out : List ℕ} → out ≡ replicate k 255 → judged base k text ≡ names all → Writing base k all out 0 text
  unfolding judged start
  writing_start e j = record { before = start; number = 1; upper = refl; image = e ∙ sym (image-none base k); same = j }

  module _ {out : List ℕ} {u : ℕ} {rest : List ℕ} (w : Writing base k all out u rest) where
    pub writing-done : length rest ≡ 0 → out ≡ image_of base k all
    unfolding judge
    writing-done h = w.image ∙ ap (image_of base k) (go w.before.ended (ap (judge base k w.before w.number) (sym (lines-none rest h)) ∙ w.same))
      where
        go : (t : Bool) → cond t (names w.before.named) (fault Text w.number) ≡ names all → w.before.named ≡ all
        go true q = cc
        go false q = cc

    module _ {line left : List ℕ} (cut : Cut rest line left) where
      -- no refusal applies to the line
      good : (first_that_applies (refusals base k w.before (line_of line)) ≡ None) × (judge base k (after w.before (line_of line)) (suc w.number) (lines left) ≡ names all)
      unfolding judge
      good = unfaulted (first_that_applies (refusals base k w.before (line_of line))) _ w.number all (ap (judge base k w.before w.number) (sym cut.lines) ∙ w.same)

      tests : (w.before.ended || is_broken (line_of line) ≡ false) × (any_outside base k (named_by w.before.upper (line_of line)) ≡ false) × (any_repeated w.before.named (named_by w.before.upper (line_of line)) ≡ false)
      unfolding refusals
      tests = clear _ _ _ good.0

      pub writing-inside : any_outside base k (named_by u (line_of line)) ≡ false
      writing-inside = rw w.upper tests.1

      pub writing-next : {next : List ℕ} {v : ℕ} → Places base k u (line_of line) out v next → Writing base k all next v left
      unfolding after
      writing-next p =
          record {
            before = after w.before (line_of line);
            number = suc w.number;
            upper = p.upper ∙ rw w.upper;
            image = rw w.upper at (p.image w.before.named (rw w.upper tests.2) w.image);
            same = good.1;
          }
