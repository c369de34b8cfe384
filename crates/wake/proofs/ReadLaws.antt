-- Which inputs are read: two lines of one to nine digits, and nothing else.
use mathlib.Core.Path.{◌≡◌, refl, sym, ap, ap₂, ◌∙◌}
use mathlib.Core.Bool.{Bool, true, false, cond, not, ◌&&◌, ◌||◌, true≢false}
use mathlib.Core.List.{List, [], ◌∷◌, ◌++◌, append_assoc}
use Prim.Native.Nat.{ℕ, suc, ◌+◌, ◌-◌, ◌*◌, ◌^◌, ◌≤◌, ◌<◌}
use native.Mathlib.Nat.{mul-le-mul_right, mul_assoc, one-mul, pow-zero, pow-succ', pow-le-pow_right}
use native.Mathlib.Decide.{dec_lt}
use native.Mathlib.Omega.{arith}
use lib.Dec.{eqb, ltb}
use lib.ListN.{length, take, drop}
use lib.Seq.{length-take-le, take_all}
use borrow.Author.Tests.{le-ltb, ne_eqb, ltb-false, eqb-false}
use Rattle.octets.specs.Octets.{equal}
use Rattle.octets.proofs.EqualLaws.{equal-true}
use Rattle.std.specs.Prelude.{Option, None, Some}
use Rattle.decimal.specs.Decimal.{digits, value, wrong, parsed}
use Rattle.wake.specs.Wake.{most_blocks, LF, before_lf, second_line, short_number, answer, input_length}
use Rattle.wake.specs.Claims.{ShortDigits, TwoLines, LinesRead, ElseZero, CutSame}
use Rattle.wake.proofs.LineLaws.{length_two}
use Rattle.wake.proofs.AnswerLaws.{both, different, first-wrong, second-wrong}

-- a digit, and the others
digit-first : (d : ℕ) (ds : List ℕ) → digits (d ∷ ds) ≡ true → (48 ≤ d) × (d ≤ 57) × (digits ds ≡ true)
unfolding digits
digit-first d ds e = go (ltb d 48) (ltb 57 d) refl refl e
  where
    go : (a b : Bool) → ltb d 48 ≡ a → ltb 57 d ≡ b → not (a || b) && digits ds ≡ true → (48 ≤ d) × (d ≤ 57) × (digits ds ≡ true)
    go true b f g h = absurd (true≢false (sym h))
    go false true f g h = absurd (true≢false (sym h))
    go false false f g h = (ltb-false d 48 f, ltb-false 57 d g, h)

-- k digits behind v make less than (v + 1) * 10 ^ k
value-below : (v : ℕ) (ds : List ℕ) → digits ds ≡ true → value v ds < (v + 1) * 10 ^ length ds
unfolding value
value-below v [] e = omega (arith, pow-zero 10)
value-below v (d ∷ ds) e =
    let f = digit-first d ds e in
    let ih = value-below (v * 10 + (d - 48)) ds f.2 in
    let le : v * 10 + (d - 48) + 1 ≤ (v + 1) * 10 = omega (arith, f.1) in
    let p : (v + 1) * 10 ^ suc (length ds) ≡ (v + 1) * 10 * 10 ^ length ds = ap (λ n. (v + 1) * n) (pow-succ' 10 (length ds)) ∙ sym (mul_assoc (v + 1) 10 (10 ^ length ds)) in
    omega (arith, mul-le-mul_right (10 ^ length ds) le)

-- such a line is a number, and no other
number_read : (text : List ℕ) → ShortDigits text → short_number text ≡ Some (value 0 text)
unfolding short_number parsed wrong
number_read text h =
    let nine : 10 ^ length text ≤ 10 ^ 9 = pow-le-pow_right (omega arith) h.few in
    let small : value 0 text ≤ 4294967295 = omega (arith, value-below 0 text h.all, one-mul (10 ^ length text)) in
    rw (le-ltb 9 (length text) h.few, ne_eqb (length text) 0 (λ z. omega (arith, h.some)), h.all, le-ltb 4294967295 (value 0 text) small)

number-only : (text : List ℕ) (n : ℕ) → short_number text ≡ Some n → ShortDigits text
unfolding short_number parsed wrong
number-only text n e = go (ltb 9 (length text)) (eqb (length text) 0) (digits text) (ltb 4294967295 (value 0 text)) refl refl refl e
  where
    never : (m : ℕ) → ◌≡◌ {A = Option ℕ} None (Some m) → ⊥
    never m f = let z : ◌≡◌ {A = ℕ} 0 1 = cc in omega arith

    go : (a b c d : Bool) → ltb 9 (length text) ≡ a → eqb (length text) 0 ≡ b → digits text ≡ c
        → cond a None (cond (b || (not c || d)) None (Some (value 0 text))) ≡ Some n → ShortDigits text
    go true b c d f g h k = absurd (never n k)
    go false true c d f g h k = absurd (never n k)
    go false false false d f g h k = absurd (never n k)
    go false false true d f g h k =
        let some : length text ≡ 0 → ⊥ = eqb-false (length text) 0 g in
        record { all = h; some = omega arith; few = ltb-false 9 (length text) f }

-- digits hold no LF, so a line of digits ends where they do
line-digits : (a r : List ℕ) → digits a ≡ true → (before_lf (a ++ 10 ∷ r) ≡ a) × (drop (suc (length a)) (a ++ 10 ∷ r) ≡ r)
unfolding before_lf
line-digits [] r e = (refl, refl)
line-digits (d ∷ ds) r e =
    let f = digit-first d ds e in
    let ih = line-digits ds r f.2 in
    (rw (ne_eqb d 10 (λ z. omega (arith, f.0))) (ap (λ l. d ∷ l) ih.0), ih.1)

-- both lines of such an input
module _ (input a b : List ℕ) (t : TwoLines input a b) where
  regrouped : input ≡ a ++ 10 ∷ (b ++ 10 ∷ [])
  regrouped = t.is ∙ simp append_assoc

  first-is : before_lf input ≡ a
  first-is = ap before_lf regrouped ∙ (line-digits a (b ++ 10 ∷ []) t.one.all).0

  second_is : second_line input ≡ b
  unfolding second_line
  second_is =
      ap₂ (λ n l. before_lf (drop (suc n) l)) (ap length first-is) regrouped
      ∙ ap before_lf (line-digits a (b ++ 10 ∷ []) t.one.all).1 ∙ (line-digits b [] t.two.all).0

  whole : input ≡ before_lf input ++ LF ++ second_line input ++ LF
  whole = t.is ∙ ap₂ {C = List ℕ} (λ x y. x ++ LF ++ y ++ LF) (sym first-is) (sym second_is)

  read : answer input ≡ most_blocks (value 0 a) (value 0 b)
  read =
      sym (both input whole (sym (number_read a t.one) ∙ ap short_number (sym first-is)) (sym (number_read b t.two) ∙ ap short_number (sym second_is)))

pub lines-read : LinesRead
lines-read = read

pub else-zero : ElseZero
else-zero input other = go (equal input (first ++ LF ++ second ++ LF)) (short_number first) (short_number second) refl refl refl
  where
    first : List ℕ
    first = before_lf input

    second : List ℕ
    second = second_line input

    go : (e : Bool) (p q : Option ℕ) → equal input (first ++ LF ++ second ++ LF) ≡ e → short_number first ≡ p → short_number second ≡ q → answer input ≡ 0
    go false p q f g h = sym (different input f)
    go true None q f g h = sym (first-wrong input (equal-true _ _ f) (sym g))
    go true (Some L) None f g h = sym (second-wrong input (equal-true _ _ f) (sym g) (sym h))
    go true (Some L) (Some B) f g h =
        absurd (other first second (record { is = equal-true _ _ f; one = number-only first L g; two = number-only second B h }))

-- Two lines have at most 20 bytes, so a longer input is answered 0, and so is what was read of it.
long-zero : (input : List ℕ) → 20 < length input → answer input ≡ 0
long-zero input h = else-zero input (λ a b t. omega (arith, ap length t.is ∙ length_two a b, t.one.few, t.two.few))

pub cut-same : CutSame
cut-same input = go (dec_lt 20 (length input))
  where
    go : Dec (20 < length input) → answer (take input_length input) ≡ answer input
    go (yes h) = long-zero (take input_length input) (rw (length-take-le input_length input (omega arith)) (omega arith)) ∙ sym (long-zero input h)
    go (no h) = ap answer (take_all input_length input (omega arith))
