-- One line, judged with the bits in the place of the bytes named before it.
use mathlib.Core.Path.{◌≡◌, refl, sym, ap, ap₂, subst, ◌∙◌}
use mathlib.Core.Bool.{Bool, true, false, cond, ◌&&◌, ◌||◌}
use mathlib.Core.List.{List, [], ◌∷◌, ◌++◌, append-nil}
use Rattle.std.specs.Prelude.{Option, None, Some, Ok, Err}
use Prim.Native.Nat.{ℕ, ◌+◌, ◌-◌, ◌*◌, ◌^◌, ◌≤◌, ◌<◌}
use native.Mathlib.Decide.{dec_lt}
use native.Mathlib.Omega.{arith}
use lib.Dec.{leb, ltb}
use lib.ListN.{length}
use borrow.Author.Tests.{lt-ltb, le-ltb, le-leb, lt-leb, leb-true, ltb-true, ltb-false}
use Rattle.wire.specs.declared.refusal.Refusal.{Refusal}
use Rattle.wire.specs.declared.refusal.Refusal.TheVariants.{Text, Place, Twice}
use Rattle.wire.specs.Refusal.{first_that_applies}
use Rattle.wire.proofs.SizeLaws.{and-true, or-false}
use Rattle.ihex.specs.declared.line.Line.TheVariants as line
use Rattle.ihex.specs.Line as spec
use Rattle.ihex.specs.Line.{data00, end01, upper04}
use Rattle.ihex.specs.Text.{Byte, placed, any_outside, is_named, any_repeated}
use Rattle.ihex.specs.Read.{max_length, wrong_length, named_by, Before, refusals}
use Rattle.ihex.specs.Code.{line_read, bit, among, Marked, Seen, Step, state_of, step_of, Steps}
use Rattle.ihex.proofs.NamedLaws.{is_named-append, placed-named, placed-outside, repeated-none, repeated-one}

-- the image's length and place
pub record Fits (base k : ℕ) : Type 0 where
  pub most : k ≤ 32768
  pub last : base + k ≤ 2 ^ 32

pub fits : (base k : ℕ) → wrong_length base k ≡ false → Fits base k
unfolding wrong_length
fits base k e =
    let a = or-false (ltb k 1) _ e in
    let b = or-false (ltb max_length k) _ a.1 in
    record { most = ltb-false max_length k b.0; last = ltb-false (2 ^ 32) (base + k) b.1 }

-- before the end record, with u the last 04 value and bs named
abbrev pub unended : ℕ → List Byte → Before
unended u bs = record { upper = u; named = bs; ended = false }

module _ (base k u : ℕ) (x : Option spec.Line) where
  abbrev first : List Byte → Option Refusal
  first bs = first_that_applies (refusals base k (unended u bs) x)

  -- the lines before it left no end record
  is-unended : (b : Before) → Some u ≡ state_of b → b ≡ unended u b.named
  is-unended b e = go b.ended b.upper refl refl e
    where
      go : (t : Bool) (v : ℕ) → b.ended ≡ t → b.upper ≡ v → Some u ≡ cond t None (Some v) → b ≡ unended u b.named
      go true v f g h = cc
      go false v f g h = let w : v ≡ u = cc in ap₂ {C = Before} (λ (t : Bool) (y : ℕ). record { upper = y; named = b.named; ended = t }) f (g ∙ w)

  steps-of : {before after : List ℕ} {r : Step} → ((bs : List Byte) → Seen base k bs before → r ≡ step_of (first bs) (unended u bs) x)
      → ((bs : List Byte) → Seen base k bs before → first bs ≡ None → Seen base k (bs ++ named_by u x) after) → Steps base k (Some u) x before r after
  steps-of {before} {after} {r} f g =
      record {
        answered = λ b e s. let P : Before → Type 0 = λ c. r ≡ step_of (first_that_applies (refusals base k c x)) c x in subst P (sym (is-unended b e)) (f b.named s);
        seen = λ b e s n.
            let P : Before → Type 0 = λ c. Seen base k (b.named ++ named_by c.upper x) after in
            let Q : Before → Type 0 = λ c. first_that_applies (refusals base k c x) ≡ None in
            subst P (sym (is-unended b e)) (g b.named s (subst Q (is-unended b e) n));
      }

  steps-fault : {before after : List ℕ} (r : Refusal) → ((bs : List Byte) → Seen base k bs before → first bs ≡ Some r) → Steps base k (Some u) x before (Err r) after
  steps-fault r f = steps-of (λ bs s. rw (f bs s)) (λ bs s e. let z : ◌≡◌ {A = ℕ} 0 1 = (let g = f bs s in cc) in absurd (omega arith))

  steps_on : {before after : List ℕ} {r : Step} → ((bs : List Byte) → Seen base k bs before → first bs ≡ None) → ((bs : List Byte) → Seen base k bs before → Seen base k (bs ++ named_by u x) after)
      → r ≡ step_of None (unended u []) x → Steps base k (Some u) x before r after
  steps_on f g e = steps-of (λ bs s. rw (f bs s) e) (λ bs s h. g bs s)

-- what the code found a line to say
pub is-broken : (x : Option spec.Line) → None ≡ line_read x → x ≡ None
is-broken None e = refl
is-broken (Some (data00 a vs)) e = let z : ◌≡◌ {A = ℕ} 0 1 = cc in absurd (omega arith)
is-broken (Some end01) e = let z : ◌≡◌ {A = ℕ} 0 1 = cc in absurd (omega arith)
is-broken (Some (upper04 v)) e = let z : ◌≡◌ {A = ℕ} 0 1 = cc in absurd (omega arith)

pub is-end : (x : Option spec.Line) → Some line.End ≡ line_read x → x ≡ Some end01
is-end None e = let z : ◌≡◌ {A = ℕ} 0 1 = cc in absurd (omega arith)
is-end (Some (data00 a vs)) e = let z : ◌≡◌ {A = ℕ} 0 1 = cc in absurd (omega arith)
is-end (Some end01) e = refl
is-end (Some (upper04 v)) e = let z : ◌≡◌ {A = ℕ} 0 1 = cc in absurd (omega arith)

pub is-upper : {w : ℕ} (x : Option spec.Line) → Some (line.Upper w) ≡ line_read x → x ≡ Some (upper04 w)
is-upper None e = let z : ◌≡◌ {A = ℕ} 0 1 = cc in absurd (omega arith)
is-upper (Some (data00 a vs)) e = let z : ◌≡◌ {A = ℕ} 0 1 = cc in absurd (omega arith)
is-upper (Some end01) e = let z : ◌≡◌ {A = ℕ} 0 1 = cc in absurd (omega arith)
is-upper {w} (Some (upper04 v)) e = let q : v ≡ w = cc in rw q

pub is-data : {a n : ℕ} (x : Option spec.Line) → Some (line.Data a n) ≡ line_read x → (vs : List ℕ) × ((x ≡ Some (data00 a vs)) × (length vs ≡ n))
is-data None e = let z : ◌≡◌ {A = ℕ} 0 1 = cc in absurd (omega arith)
is-data {a} (Some (data00 b vs)) e = let q : b ≡ a = cc in (vs, (rw q, cc))
is-data (Some end01) e = let z : ◌≡◌ {A = ℕ} 0 1 = cc in absurd (omega arith)
is-data (Some (upper04 v)) e = let z : ◌≡◌ {A = ℕ} 0 1 = cc in absurd (omega arith)

-- lines that name nothing
nothing-new : (base k : ℕ) (seen : List ℕ) (bs : List Byte) → Seen base k bs seen → Seen base k (bs ++ []) seen
nothing-new base k seen bs s = rw (append-nil bs) s

module _ (base k u : ℕ) {seen : List ℕ} where
  pub steps-broken : Steps base k (Some u) None seen (Err Text) seen
  unfolding refusals first_that_applies
  steps-broken = steps-fault base k u None Text (λ bs s. refl)

  pub steps-end : Steps base k (Some u) (Some end01) seen (Ok None) seen
  unfolding refusals first_that_applies any_outside any_repeated
  steps-end = steps_on base k u (Some end01) (λ bs s. refl) (nothing-new base k seen) refl

  pub steps-upper : (v : ℕ) → Steps base k (Some u) (Some (upper04 v)) seen (Ok (Some v)) seen
  unfolding refusals first_that_applies any_outside any_repeated
  steps-upper v = steps_on base k u (Some (upper04 v)) (λ bs s. refl) (nothing-new base k seen) refl

leb-shift : (b x i : ℕ) → b ≤ x → leb (x - b) i ≡ leb x (b + i)
leb-shift b x i h = go (dec_lt (b + i) x)
  where
    go : Dec (b + i < x) → leb (x - b) i ≡ leb x (b + i)
    go (yes g) = lt-leb (x - b) i (omega arith) ∙ sym (lt-leb x (b + i) g)
    go (no g) = le-leb (x - b) i (omega arith) ∙ sym (le-leb x (b + i) (omega arith))

ltb-shift : (b x n i : ℕ) → b ≤ x → ltb i (x - b + n) ≡ ltb (b + i) (x + n)
ltb-shift b x n i h = go (dec_lt (b + i) (x + n))
  where
    go : Dec (b + i < x + n) → ltb i (x - b + n) ≡ ltb (b + i) (x + n)
    go (yes g) = lt-ltb i (x - b + n) (omega arith) ∙ sym (lt-ltb (b + i) (x + n) g)
    go (no g) = le-ltb i (x - b + n) (omega arith) ∙ sym (le-ltb (b + i) (x + n) (omega arith))

-- data from address `at` on
module _ (base k u a : ℕ) (vs : List ℕ) (fit : Fits base k) where
  abbrev at : ℕ
  at = u * 65536 + a

  abbrev said : Option spec.Line
  said = Some (data00 a vs)

  pub steps-empty : {seen : List ℕ} → length vs ≡ 0 → Steps base k (Some u) said seen (Ok (Some u)) seen
  unfolding refusals first_that_applies any_outside any_repeated placed
  steps-empty {seen} e = go vs e
    where
      go : (ws : List ℕ) → length ws ≡ 0 → Steps base k (Some u) (Some (data00 a ws)) seen (Ok (Some u)) seen
      go [] g = steps_on base k u (Some (data00 a [])) (λ bs s. refl) (nothing-new base k seen) refl
      go (w ∷ ws) g = absurd (omega arith)

  module _ (some-data : 0 < length vs) (low : at < 2 ^ 32) where
    test : any_outside base k (placed at vs) ≡ ltb at base || ltb (base + k) (at + length vs)
    test = placed-outside base k at vs fit.last low some-data fit.most

    pub steps-below : {seen : List ℕ} → at < base → Steps base k (Some u) said seen (Err Place) seen
    unfolding refusals first_that_applies
    steps-below {seen} h = steps-fault base k u said Place (λ bs s. rw (test, lt-ltb at base h))

    pub steps-above : {seen : List ℕ} → base ≤ at → base + k < at + length vs → Steps base k (Some u) said seen (Err Place) seen
    unfolding refusals first_that_applies
    steps-above {seen} g h = steps-fault base k u said Place (λ bs s. rw (test, le-ltb at base g, lt-ltb (base + k) (at + length vs) h))

    module _ (g : base ≤ at) (h : at + length vs ≤ base + k) where
      inside : any_outside base k (placed at vs) ≡ false
      inside = test ∙ rw (le-ltb at base g, le-ltb (base + k) (at + length vs) h)

      whole : at + length vs ≤ 2 ^ 32
      whole = omega (arith, fit.last)

      module _ {before after : List ℕ} where
        pub steps_twice : Marked before (at - base) (length vs) true after → Steps base k (Some u) said before (Err Twice) after
        unfolding refusals first_that_applies among
        steps_twice m = steps-fault base k u said Twice (λ bs s. rw (inside, twice bs s (m.one refl)))
          where
            twice : (bs : List Byte) → Seen base k bs before → (i : ℕ) × ((leb (at - base) i && ltb i (at - base + length vs) ≡ true) × (bit before i ≡ true)) → any_repeated bs (placed at vs) ≡ true
            twice bs s o =
                let b = and-true (leb (at - base) o.0) (ltb o.0 (at - base + length vs)) o.1.0 in
                let i1 = leb-true (at - base) o.0 b.0 in
                let i2 = ltb-true o.0 (at - base + length vs) b.1 in
                let e : at + (o.0 - (at - base)) ≡ base + o.0 = omega arith in
                repeated-one at vs whole (o.0 - (at - base)) (omega arith) bs (rw e (sym (s o.0 (omega arith)) ∙ o.1.1))

        pub steps_next : Marked before (at - base) (length vs) false after → Steps base k (Some u) said before (Ok (Some u)) after
        unfolding refusals first_that_applies among
        steps_next m = steps_on base k u said (λ bs s. rw (inside, once bs s)) marked refl
          where
            once : (bs : List Byte) → Seen base k bs before → any_repeated bs (placed at vs) ≡ false
            once bs s =
                repeated-none at vs whole bs
                (λ i q.
                let e : base + (at - base + i) ≡ at + i = omega arith in
                rw (← e) (sym (s (at - base + i) (omega arith)) ∙ m.none refl (at - base + i) (rw (le-leb (at - base) (at - base + i) (omega arith), lt-ltb (at - base + i) (at - base + length vs) (omega arith)))))

            marked : (bs : List Byte) → Seen base k bs before → Seen base k (bs ++ placed at vs) after
            marked bs s i q =
                m.set refl i
                ∙ rw (s i q, leb-shift base at i g, ltb-shift base at (length vs) i g)
                (sym (is_named-append (base + i) bs (placed at vs) ∙ ap (λ (t : Bool). is_named (base + i) bs || t) (placed-named at vs whole (base + i))))
