-- Numbers in base ten, digit by digit, and how long a line is.
use mathlib.Core.Path.{◌≡◌, refl, sym, ap, ◌∙◌}
use mathlib.Core.List.{List, [], ◌∷◌, ◌++◌}
use Prim.Native.Nat.{ℕ, zero, suc, ◌+◌, ◌/◌, ◌%◌, ◌^◌, ◌≤◌, ◌<◌}
use native.Mathlib.Nat.{div-lt_iff_lt-mul, pow-suc}
use native.Mathlib.Decide.{dec_lt}
use native.Mathlib.Omega.{arith}
use lib.ListN.{length, length-append}
use borrow.Author.Tests.{lt-ltb, le-ltb}
use Rattle.decimal.specs.Decimal.{decimal_within, decimal, line}

within-small : (k n : ℕ) → n < 10 → decimal_within (suc k) n ≡ (48 + n) ∷ []
unfolding decimal_within
within-small k n h = rw (lt-ltb n 10 h, decimal_within)

within-large : (k n : ℕ) → 10 ≤ n → decimal_within (suc k) n ≡ decimal_within k (n / 10) ++ ((48 + n % 10) ∷ [])
unfolding decimal_within
within-large k n h = rw (le-ltb n 10 h, decimal_within)

-- the bound of the recursion does not matter
within_same : (j k n : ℕ) → n < j → n < k → decimal_within j n ≡ decimal_within k n
within_same zero k n a b = absurd (omega arith)
within_same (suc j) zero n a b = absurd (omega arith)
within_same (suc j) (suc k) n a b = go (dec_lt n 10) (λ h. within_same j k (n / 10) (omega arith) (omega arith))
  where
    go : Dec (n < 10) → (10 ≤ n → decimal_within j (n / 10) ≡ decimal_within k (n / 10)) → decimal_within (suc j) n ≡ decimal_within (suc k) n
    go (yes h) ih = within-small j n h ∙ sym (within-small k n h)
    go (no h) ih = within-large j n (omega arith) ∙ ap (λ (l : List ℕ). l ++ ((48 + n % 10) ∷ [])) (ih (omega arith)) ∙ sym (within-large k n (omega arith))

pub decimal-small : (n : ℕ) → n < 10 → decimal n ≡ (48 + n % 10) ∷ []
unfolding decimal
decimal-small n h = let e : n ≡ n % 10 = omega arith in within-small n n h ∙ ap (λ (x : ℕ). (48 + x) ∷ []) e

pub decimal-large : (n : ℕ) → 10 ≤ n → decimal n ≡ decimal (n / 10) ++ ((48 + n % 10) ∷ [])
unfolding decimal
decimal-large n h =
    within-large n n h ∙ ap (λ (l : List ℕ). l ++ ((48 + n % 10) ∷ [])) (within_same n (suc (n / 10)) (n / 10) (omega arith) (omega arith))

within-short : (j k n : ℕ) → n < 10 ^ suc k → length (decimal_within j n) ≤ suc k
unfolding decimal_within
within-short zero k n h = omega arith
within-short (suc j) k n h = go k h (dec_lt n 10) (λ i g. within-short j i (n / 10) g)
  where
    go : (k : ℕ) → n < 10 ^ suc k → Dec (n < 10) → ((i : ℕ) → n / 10 < 10 ^ suc i → length (decimal_within j (n / 10)) ≤ suc i)
        → length (decimal_within (suc j) n) ≤ suc k
    go k h (yes g) ih = rw (within-small j n g) (omega arith)
    go zero h (no g) ih = absurd (omega arith)
    go (suc i) h (no g) ih =
        let e = ih i ((div-lt_iff_lt-mul {k = 10} {x = n} {y = 10 ^ suc i} (omega arith)).1 (rw (pow-suc 10 (suc i)) at h)) in
        rw (within-large j n (omega arith)) (simp length-append (omega arith))

-- a number below 10 ^ (k + 1) has at most k + 1 digits
pub decimal-short : (k n : ℕ) → n < 10 ^ suc k → length (decimal n) ≤ suc k
unfolding decimal
decimal-short k n h = within-short (suc n) k n h

pub length-line : (words : List ℕ) (n : ℕ) → length (line words n) ≡ length words + length (decimal n) + 1
unfolding line
length-line words n = simp length-append refl

-- a line whose number is a word of 64 bits
pub line-short : (words : List ℕ) (n : ℕ) → n < 18446744073709551616 → length (line words n) ≤ length words + 21
line-short words n h = omega (arith, length-line words n, decimal-short 19 n (omega arith))
