-- How many hashes are held and carried, by the lowest set bit of the number of blocks before: the largest subtree that starts there has so many blocks,
-- or all that are left where those are fewer.
use Rattle.std.proofs.Common.{◌≡◌, ℕ, zero, suc, pred, ◌+◌, ◌-◌, ◌*◌, ◌/◌, ◌%◌, ◌^◌, ◌<◌, ◌≤◌, min, sym, refl, ap, ◌∙◌, ⊎_elim, mul_assoc, mul-le-mul_left, one-mul, pow-suc, mul-zero, mul-suc, arith, pow_pos, pow_mono, pow-add}
use native.Mathlib.Nat.{mul-sub, pow-zero, pow-succ'}
use lib.Count.{count_trailing_zeros, under, count_leading_zeros, leading_length}
use Rattle.merkle.specs.Limits.{max_held}
use Rattle.merkle.specs.Shape.{depth, split}
use Rattle.merkle.specs.Frontier.{held_count, carried_count}
use Rattle.merkle.specs.Claims.{HeldReached}
use Rattle.merkle.proofs.ShapeLaws.{lt-or-le, depth_is, depth-one, depth-halves, Split, split-known, by-halves}
use Rattle.merkle.proofs.CountLaws.{held-zero, carried-leaf, carried_first, held-left, carried-left, held-right, carried-right, held_next, limit}

-- l is the lowest set bit of x: a power of two of which x is an odd multiple.
pub record Low (x l : ℕ) : Type 0 where
  pub exponent : ℕ
  pub times : ℕ
  pub power : l ≡ 2 ^ exponent
  pub odd : x ≡ 2 * (l * times) + l

low-pos : (x l : ℕ) → Low x l → 0 < l
low-pos x l b = rw b.power (pow_pos b.exponent)

low-known : (k x : ℕ) → 0 < x → x < 2 ^ k → Low x (2 ^ count_trailing_zeros k x)
unfolding count_trailing_zeros
low-known zero x pos h = absurd (omega (arith, pow-zero 2))
low-known (suc k) x pos h = go (x % 2) refl (low-known k (x / 2))
  where
    go : (r : ℕ) → x % 2 ≡ r → (0 < x / 2 → x / 2 < 2 ^ k → Low (x / 2) (2 ^ count_trailing_zeros k (x / 2))) → Low x (2 ^ under r (count_trailing_zeros k (x / 2)))
    go zero e ih =
        let t = count_trailing_zeros k (x / 2) in
        let s = ih (omega arith) (omega (arith, pow-suc 2 k)) in
        let twice : 2 ^ suc t ≡ 2 * 2 ^ t = pow-succ' 2 t in
        let more : 2 ^ suc t * s.times ≡ 2 * (2 ^ t * s.times) = ap (λ y. y * s.times) twice ∙ mul_assoc 2 (2 ^ t) s.times in
        record { exponent = suc t; times = s.times; power = refl; odd = omega arith }
    go (suc r) e ih = record { exponent = 0; times = x / 2; power = refl; odd = omega (arith, pow-zero 2, one-mul (x / 2)) }

-- The lowest set bit as the code finds it, in a number of 64 bits.
module _ (x l : ℕ) (pos : 0 < x) (fits : x < 2 ^ 64) (is : l ≡ 2 ^ count_trailing_zeros 64 x) where
  pub low-is : Low x l
  low-is = rw is (low-known 64 x pos fits)

  pub low-between : (0 < l) × (l ≤ x)
  low-between = let b = low-is in (low-pos x l b, omega arith)

-- x is an odd multiple of l and k an even one: x is at least l below k, or above it by an odd multiple
module _ (l q t x k : ℕ) (pos : 0 < l) (odd : x ≡ 2 * (l * q) + l) (even : k ≡ 2 * (l * t)) where
  odd-below : x < k → x + l ≤ k
  odd-below h =
      ⊎_elim (λ (w : q < t). omega (arith, mul-le-mul_left l w, mul-suc l q)) (λ (w : t ≤ q). absurd (omega (arith, mul-le-mul_left l w))) (lt-or-le q t)

  odd-above : k ≤ x → x - k ≡ 2 * (l * (q - t)) + l
  odd-above h =
      ⊎_elim (λ (w : q < t). absurd (omega (arith, mul-le-mul_left l w, mul-suc l q)))
      (λ (w : t ≤ q). omega (arith, mul-le-mul_left l w, mul-sub l q t)) (lt-or-le q t)

-- a power of two is an even multiple of each smaller one
even : (e d l k : ℕ) → l ≡ 2 ^ e → k ≡ 2 ^ d → l < k → (t : ℕ) × (k ≡ 2 * (l * t))
even e d l k p r h =
    let t = d - suc e in
    let less : e < d = ⊎_elim (λ (w : e < d). w) (λ (w : d ≤ e). absurd (omega (arith, pow_mono w))) (lt-or-le e d) in
    let is : d ≡ suc e + t = omega arith in
    (2 ^ t, r ∙ ap (λ y. 2 ^ y) is ∙ pow-add 2 (suc e) t ∙ ap (λ y. y * 2 ^ t) (pow-succ' 2 e ∙ ap (λ y. 2 * y) (sym p)) ∙ mul_assoc 2 l (2 ^ t))

-- so x and its lowest set bit stay within a larger power of two that x is below, and one that x is not below is taken off without changing that bit
module _ (x l d k : ℕ) (b : Low x l) (is : k ≡ 2 ^ d) where
  low_below : l < k → x < k → x + l ≤ k
  low_below h = let t = even b.exponent d l k b.power is h in odd-below l b.times t.0 x k (low-pos x l b) b.odd t.1

  low-above : l < k → k ≤ x → Low (x - k) l
  low-above h le =
      let t = even b.exponent d l k b.power is h in
      record {
        exponent = b.exponent;
        times = b.times - t.0;
        power = b.power;
        odd = odd-above l b.times t.0 x k (low-pos x l b) b.odd t.1 le;
      }

-- One subtree further: the largest one that starts after i blocks has l blocks, or all that are left where those are fewer.
pub record ByLowBit (n i l : ℕ) : Type 0 where
  pub more : i + l < n → held_count n i ≡ suc (held_count n (i + l))
  pub last : n ≤ i + l → held_count n i ≡ 1
  pub first : carried_count n (suc i) ≡ carried_count (min l (n - i)) 1

abbrev pub ByLowBits : ℕ → Type 0
ByLowBits n = (i l : ℕ) → 0 < i → i < n → Low i l → ByLowBit n i l

-- From the halves, k the split: i is in the left one, at the split, or in the right one.
module _ (n k i l : ℕ) (big : 1 < n) (is : k ≡ split n) (pos : 0 < i) (lt : i < n) (b : Low i l) where
  at : Split n k
  at = rw is (split-known n big)

  by-low-left : ByLowBits k → i < k → ByLowBit n i l
  by-low-left ih h =
      let s = at in
      let within : i + l ≤ k = low_below i l s.exponent k b s.power (omega arith) h in
      let here = ih i l pos h b in
      let one = held-left n k big is i pos h in
      let z : min l (k - i) ≡ min l (n - i) = omega arith in
      record {
        more = λ g.
            ⊎_elim (λ (w : i + l < k). omega (arith, here.more w, held-left n k big is (i + l) (omega arith) w))
            (λ (w : k ≤ i + l).
            let z : i + l ≡ k = omega arith in
            let y : k - k ≡ 0 = omega arith in
            let e : held_count n k ≡ 1 = held-right n k big is k (omega arith) s.below ∙ rw y (held-zero (n - k)) in
            rw z (omega (arith, here.last w)))
            (lt-or-le (i + l) k);
        last = λ g. absurd (omega arith);
        first = carried-left n k big is i pos h ∙ here.first ∙ ap (λ m. carried_count m 1) z;
      }

  by-low-here : i ≡ k → ByLowBit n i l
  by-low-here e =
      let s = at in
      let y : i - k ≡ 0 = omega arith in
      let long : n ≤ i + l =
      ⊎_elim (λ (w : l < k). absurd (omega (arith, low-pos i l b, (low-above i l s.exponent k b s.power w (omega arith)).odd)))
      (λ (w : k ≤ l). omega arith)
      (lt-or-le l k) in
      let z : min l (n - i) ≡ n - k = omega arith in
      record {
        more = λ g. absurd (omega arith);
        last = λ g. held-right n k big is i (omega arith) lt ∙ rw y (held-zero (n - k));
        first = carried-right n k big is i (omega arith) lt ∙ rw (y, z);
      }

  -- three times the split is past the end
  not-thrice : (q : ℕ) → l ≡ k → k < i → i ≡ 2 * (l * q) + l → ⊥
  not-thrice zero e h o = omega (arith, mul-zero l)
  not-thrice (suc q) e h o = let s = at in omega (arith, mul-suc l q)

  by-low-right : ByLowBits (n - k) → k < i → ByLowBit n i l
  by-low-right ih h =
      let s = at in
      let small : l < n = omega arith in
      let most : l ≤ k = rw b.power (s.largest b.exponent (rw b.power at small)) in
      let less : l < k = ⊎_elim (λ (w : l < k). w) (λ (w : k ≤ l). absurd (not-thrice b.times (omega arith) h b.odd)) (lt-or-le l k) in
      let here = ih (i - k) l (omega arith) (omega arith) (low-above i l s.exponent k b s.power less (omega arith)) in
      let one = held-right n k big is i (omega arith) lt in
      let z : i + l - k ≡ i - k + l = omega arith in
      let y : n - k - (i - k) ≡ n - i = omega arith in
      record {
        more = λ g. one ∙ here.more (omega arith) ∙ ap suc (ap (held_count (n - k)) (sym z) ∙ sym (held-right n k big is (i + l) (omega arith) g));
        last = λ g. one ∙ here.last (omega arith);
        first = carried-right n k big is i (omega arith) lt ∙ here.first ∙ ap (λ m. carried_count (min l m) 1) y;
      }

pub by-low-bit : (n : ℕ) → 0 < n → ByLowBits n
by-low-bit =
    by-halves (λ n s. ByLowBits n) (λ i l pos lt b. absurd (omega arith))
    (λ n k big is below left right i l pos lt b.
    ⊎_elim (by-low-left n k i l big is pos lt b left)
    (λ (w : k ≤ i). ⊎_elim (by-low-right n k i l big is pos lt b right) (λ (v : i ≤ k). by-low-here n k i l big is pos lt b (omega arith)) (lt-or-le k i))
    (lt-or-le i k))

-- The first message carries as many hashes as the tree is deep.
pub carried-depth : (n : ℕ) → 0 < n → carried_count n 1 ≡ depth n
carried-depth =
    by-halves (λ n s. carried_count n 1 ≡ depth n) (carried-leaf 1 (omega arith) ∙ sym depth-one)
    (λ n k big is below left right. omega (arith, carried_first n k big is, depth-halves n k big is))

-- So many are then held: the most that the tree and the limit allow.
pub held-reached : HeldReached
held-reached =
    (first, λ n big few. first n (omega (arith, pow_pos (pred max_held))) ∙ depth_is n max_held (omega (arith, limit.1)) (omega (arith, pow-succ' 2 (pred max_held))), limit.0)
  where
    first : (n : ℕ) → 1 < n → held_count n 1 ≡ depth n
    first n big = omega (arith, held_next n 0 (omega arith), held-zero n, carried-depth n (omega arith))

-- A later one carries as many as the largest subtree that starts with its block is deep.
pub carried_later : (n i l m : ℕ) → 0 < i → i < n → Low i l → m ≡ min l (n - i) → carried_count n (i + 1) ≡ depth m
carried_later n i l m pos lt b is =
    let z : i + 1 ≡ suc i = omega arith in
    rw (z, is) ((by-low-bit n (omega arith) i l pos lt b).first ∙ carried-depth (min l (n - i)) (omega (arith, low-pos i l b)))

-- The depth is the length in bits of the number before n.
pub depth-length : (n : ℕ) → 0 < n → n - 1 < 2 ^ 64 → 64 - count_leading_zeros 64 (n - 1) ≡ depth n
depth-length n pos h =
    let s = leading_length 64 (n - 1) h in
    omega (arith, depth_is n s.0 (omega arith) (omega arith))
