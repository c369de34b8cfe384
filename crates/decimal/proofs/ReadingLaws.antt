-- Reading a number in base ten, digit by digit.
use mathlib.Core.Path.{◌≡◌, refl, sym, ap, ◌∙◌}
use mathlib.Core.Bool.{true, false, not, ◌||◌, and-eq-true_iff, or-true}
use mathlib.Core.List.{List, [], ◌∷◌, ◌++◌}
use Prim.Native.Nat.{ℕ, zero, suc, ◌+◌, ◌-◌, ◌*◌, ◌/◌, ◌%◌, ◌≤◌, ◌<◌}
use native.Mathlib.Numerals.{add-one}
use native.Mathlib.Decide.{dec_lt}
use native.Mathlib.Omega.{arith}
use lib.Dec.{ltb}
use lib.ListN.{length, length-append, drop, get_or, drop_of_length-le}
use lib.Seq.{drop-cons}
use borrow.Author.Tests.{lt-ltb, le-ltb, eq-eqb, ne_eqb}
use Rattle.std.specs.Prelude.{None, Some}
use Rattle.std.proofs.Common.{inl, inr}
use Rattle.std.specs.Char.{IsAsciiDigit, IsNotAsciiDigit}
use Rattle.decimal.specs.Decimal.{digits, value, wrong, parsed, decimal}
use Rattle.decimal.specs.Claims.{ReadsPrinted}
use Rattle.decimal.proofs.WritingLaws.{decimal-small, decimal-large}

-- more digits make no number smaller
value_grows : (v : ℕ) (ds : List ℕ) → v ≤ value v ds
unfolding value
value_grows v [] = omega arith
value_grows v (d ∷ ds) = omega (arith, value_grows (v * 10 + (d - 48)) ds)

module _ (text : List ℕ) where
  parsed-wrong : wrong text ≡ true → None ≡ parsed text
  unfolding parsed
  parsed-wrong e = rw (e, parsed)

  parsed-right : wrong text ≡ false → Some (value 0 text) ≡ parsed text
  unfolding parsed
  parsed-right e = rw (e, parsed)

  pub parsed-empty : length text ≡ 0 → None ≡ parsed text
  parsed-empty e = parsed-wrong (unfold wrong in rw (eq-eqb (length text) 0 e))

  -- before digit i, v the number so far
  pub record Reading (v i : ℕ) : Type 0 where
    pub some : length text ≡ 0 → ⊥
    pub within : i ≤ length text
    pub small : v ≤ 4294967295
    pub all : digits (drop i text) ≡ digits text
    pub whole : value v (drop i text) ≡ value 0 text

  pub reading-start : (length text ≡ 0 → ⊥) → Reading 0 0
  reading-start h = record { some = h; within = omega arith; small = omega arith; all = refl; whole = refl }

  module _ {v i : ℕ} (r : Reading v i) where
    pub parsed-all : length text ≤ i → Some v ≡ parsed text
    unfolding wrong digits value
    parsed-all h =
        let none : drop i text ≡ [] = drop_of_length-le text {i = i} h in
        let a : digits text ≡ true = sym r.all ∙ ap digits none in
        let b : value 0 text ≡ v = sym r.whole ∙ ap (value v) none in
        ap Some (sym b) ∙ parsed-right (rw (ne_eqb (length text) 0 r.some, a, b, le-ltb 4294967295 v r.small))

    module _ (h : i < length text) where
      abbrev digit : ℕ
      digit = get_or text i 0

      one : drop i text ≡ digit ∷ drop (suc i) text
      one = drop-cons text i 0 h

      no_digit : digits (drop i text) ≡ false → None ≡ parsed text
      no_digit e = parsed-wrong (unfold wrong in rw (ne_eqb (length text) 0 r.some, sym r.all ∙ e))

      pub not-digit : IsNotAsciiDigit digit → None ≡ parsed text
      unfolding digits
      not-digit (inl l) = no_digit (ap digits one ∙ rw (lt-ltb digit 48 l))
      not-digit (inr l) = no_digit (ap digits one ∙ rw (le-ltb digit 48 (omega arith), lt-ltb 57 digit l))

      module _ (d : IsAsciiDigit digit) where
        abbrev next : ℕ
        next = v * 10 + (digit - 48)

        more : value next (drop (suc i) text) ≡ value 0 text
        unfolding value
        more = sym (ap (value v) one) ∙ r.whole

        rest : digits (drop (suc i) text) ≡ digits text
        unfolding digits
        rest = sym (ap digits one ∙ rw (le-ltb digit 48 d.0, le-ltb 57 digit d.1)) ∙ r.all

        pub too_large : 4294967295 < next → None ≡ parsed text
        unfolding wrong
        too_large l =
            let large : 4294967295 < value 0 text = omega (arith, more, value_grows next (drop (suc i) text)) in
            parsed-wrong (rw (ne_eqb (length text) 0 r.some, lt-ltb 4294967295 (value 0 text) large) (or-true (not (digits text))))

        pub reading-next : {v' : ℕ} → v' ≡ next → v' < 4294967296 → Reading v' (i + 1)
        reading-next e l = rw (add-one i, e) (record { some = r.some; within = omega arith; small = omega arith; all = rest; whole = more })

-- A number in base ten, as it is written, is read as itself.
value-last : (v : ℕ) (ds : List ℕ) (d : ℕ) → value v (ds ++ (d ∷ [])) ≡ value v ds * 10 + (d - 48)
unfolding value
value-last v [] d = refl
value-last v (x ∷ ds) d = value-last (v * 10 + (x - 48)) ds d

digits_last : (ds : List ℕ) (d : ℕ) → digits ds ≡ true → 48 ≤ d → d ≤ 57 → digits (ds ++ (d ∷ [])) ≡ true
unfolding digits
digits_last [] d e low high = rw (le-ltb d 48 low, le-ltb 57 d high)
digits_last (x ∷ ds) d e low high = let f = (and-eq-true_iff (not (ltb x 48 || ltb 57 x)) (digits ds)).0 e in rw f.0 (digits_last ds d f.1 low high)

record Same (n : ℕ) (text : List ℕ) : Type 0 where
  some : 0 < length text
  all : digits text ≡ true
  whole : value 0 text ≡ n

same-last : (n : ℕ) (ds : List ℕ) → digits ds ≡ true → value 0 ds ≡ n / 10 → Same n (ds ++ ((48 + n % 10) ∷ []))
same-last n ds e f =
    record {
      some = omega (arith, length-append ds ((48 + n % 10) ∷ []));
      all = digits_last ds (48 + n % 10) e (omega arith) (omega arith);
      whole = value-last 0 ds (48 + n % 10) ∙ omega arith;
    }

same-decimal : (k n : ℕ) → n < k → Same n (decimal n)
same-decimal zero n h = absurd (omega arith)
same-decimal (suc k) n h = go (dec_lt n 10) (λ g. same-decimal k (n / 10) (omega arith))
  where
    go : Dec (n < 10) → (10 ≤ n → Same (n / 10) (decimal (n / 10))) → Same n (decimal n)
    go (yes g) ih = rw (decimal-small n g) (same-last n [] (unfold digits in refl) (unfold value in omega arith))
    go (no g) ih = let i = ih (omega arith) in rw (decimal-large n (omega arith)) (same-last n (decimal (n / 10)) i.all i.whole)

pub reads-printed : ReadsPrinted
unfolding wrong
reads-printed n h =
    let s = same-decimal (suc n) n (omega arith) in
    let some : length (decimal n) ≡ 0 → ⊥ = λ e. omega (arith, s.some) in
    sym (ap Some (sym s.whole) ∙ parsed-right (decimal n) (rw (ne_eqb (length (decimal n)) 0 some, s.all, s.whole, le-ltb 4294967295 n h)))

-- what the goals of `parse` need
pub ruleset reading = (parsed-empty, reading-start, parsed-all, not-digit, too_large)
