-- Digits of w bits: where they lie, how large they and their sums are.
use mathlib.Core.Path.{◌≡◌, ◌∙◌}
use mathlib.Core.List.{List}
use Prim.Native.Nat.{ℕ, zero, suc, ◌+◌, ◌-◌, ◌*◌, ◌/◌, ◌%◌, ◌^◌, ◌≤◌, ◌<◌}
use native.Mathlib.Nat.{le_trans, mul-le-mul_left, mul-le-mul_right, mul-suc, suc-mul, mul-div-le, le-div_iff_mul-le, mod-lt, mod-eq_of_lt, one-mul, lt_of_lt_of_le, lt_of_le_of_lt}
use native.Mathlib.Numerals.{add-one}
use native.Mathlib.Omega.{arith}
use lib.Bits.{and_le_l}
use lib.Dec.{lit<, lit≤}
use lib.Pow.{pow_mono, shl_exact}
use Rattle.lms.specs.Notation.{coef}
use Rattle.lms.specs.Ots.{Row, steps, Cksm}
use Rattle.lms.specs.Sound.{Sound}

-- at most 255 is the largest digit of a byte or less
pub largest-digit : (w : ℕ) → w ≤ 8 → 2 ^ w - 1 ≤ 255
largest-digit w h = let l : 2 ^ w ≤ 2 ^ 8 = pow_mono h in omega arith

module _ {w : ℕ} (some_bits : 1 ≤ w) where
  -- k digits are no more than their bits
  pub digits_few : (k n : ℕ) → k * w ≤ n → k ≤ n
  digits_few k n e = let l : k * 1 ≤ k * w = mul-le-mul_left k some_bits in omega arith

  module _ (a_byte : w ≤ 8) where
    pub per-byte : 0 < 8 / w
    per-byte = (le-div_iff_mul-le some_bits).1 (omega arith)

    -- a digit ends within its byte
    pub digit_ends : (i : ℕ) → w * (i % (8 / w)) + w ≤ 8
    digit_ends i =
        let l : w * suc (i % (8 / w)) ≤ w * (8 / w) = mul-le-mul_left w (mod-lt i per-byte) in
        omega (arith, mul-suc w (i % (8 / w)), mul-div-le 8 w)

pub coef-le : (S : List ℕ) (i w : ℕ) → coef S i w ≤ 2 ^ w - 1
unfolding coef
coef-le S i w = and_le_l (2 ^ w - 1) _

pub steps-le : (w : ℕ) (S : List ℕ) (k : ℕ) → steps w S k ≤ k * (2 ^ w - 1)
unfolding steps
steps-le w S zero = omega arith
steps-le w S (suc k) = omega (arith, steps-le w S k, suc-mul k (2 ^ w - 1))

pub steps-small : (w : ℕ) (S : List ℕ) (k : ℕ) → w ≤ 8 → steps w S k ≤ k * 255
steps-small w S k h = le_trans (steps-le w S k) (mul-le-mul_left k (largest-digit w h))

-- one digit more
pub steps-suc : (w : ℕ) (S : List ℕ) (k : ℕ) {sum top a : ℕ} → sum ≡ steps w S k → top ≡ 2 ^ w - 1 → a ≡ coef S k w → sum + (top - a) ≡ steps w S (k + 1)
unfolding steps
steps-suc w S k e f g = rw (add-one k) (cc)

-- the checksum has two bytes, and the code's shift loses none of its bits
pub checksum-small : (t : Row) (S : List ℕ) → Sound t → Cksm t S < 2 ^ 16
unfolding Cksm
checksum-small t S s = lt_of_le_of_lt (mul-le-mul_right (2 ^ t.ls) (steps-le t.w S (256 / t.w))) s.two_bytes

pub checksum-shift : (t : Row) (S : List ℕ) {sum : ℕ} → Sound t → sum ≡ steps t.w S (256 / t.w) → (sum * 2 ^ t.ls) % 2 ^ 64 ≡ Cksm t S
unfolding Cksm
checksum-shift t S s e = rw e (mod-eq_of_lt (lt_of_lt_of_le (checksum-small t S s) (lit≤ tt)))

-- how large a digit and a sum of digits are, for the search
pub ruleset digits = (coef-le, largest-digit)

pub ruleset sums = (coef-le, largest-digit, steps-small, digits_few)
