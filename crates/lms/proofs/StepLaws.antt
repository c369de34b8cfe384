-- How many steps the chains of a signature take: whatever the digit width, a hash value of zero bytes takes the most.
use mathlib.Core.Path.{◌≡◌, refl, sym, ap, ap₂, ◌∙◌}
use mathlib.Core.List.{List, ◌++◌}
use Prim.Native.Nat.{ℕ, zero, suc, ◌+◌, ◌-◌, ◌*◌, ◌/◌, ◌%◌, ◌^◌, ◌≤◌, ◌<◌}
use native.Mathlib.Nat.{add-zero, add_assoc, add-mul, mul_assoc, mul_comm, mul-suc, suc-mul, mul-sub, zero-mul, mul-zero, pow-zero, mul-le-mul_right, mul-add-mod_self_right, mod-eq_of_lt, mod-eq-sub-mod, div-eq_of_eq-mul_left, div-add-mod', mod-lt, div-one, zero-div, le-div_iff_mul-le, div-mul-le_self}
use native.Mathlib.Decide.{dec_lt}
use native.Mathlib.Omega.{arith}
use lib.Bits.{bit_and, and_comm, and_mask, and_zero_r}
use lib.ListN.{length, length-append, get_or, replicate, get_or-append}
use lib.Pow.{pow_pos, shl-shr, shr-shr, field, mod-mod-pow}
use lib.Seq.{get_or-append-add}
use Rattle.octets.specs.Octets.{bytes}
use Rattle.std.proofs.lemmas.Option.{same_Some}
use Rattle.lms.specs.Notation.{coef}
use Rattle.lms.specs.Ots.{Row, steps, Cksm, checked, table1}
use Rattle.lms.specs.Cost.{chain_steps, chain_inputs, z_inputs, zs_inputs}
use Rattle.lms.specs.Claims.{StepsTaken, WholeDigits, ZerosMost, MostSteps, ChainSteps}
use Rattle.lms.proofs.DigitLaws.{steps-le, steps-suc}

-- The chains hash once a step.
length-chain : (I : List ℕ) (q i a : ℕ) (y : List ℕ) (k : ℕ) → length (chain_inputs I q i a y k) ≡ k
unfolding chain_inputs
length-chain I q i a y zero = refl
length-chain I q i a y (suc k) = length-append (chain_inputs I q i a y k) _ ∙ omega (arith, length-chain I q i a y k)

length-chains : (I : List ℕ) (q w : ℕ) (S y : List ℕ) (k : ℕ) → length (zs_inputs I q w S y k) ≡ steps w S k
unfolding zs_inputs z_inputs steps
length-chains I q w S y zero = refl
length-chains I q w S y (suc k) =
    length-append (zs_inputs I q w S y k) _ ∙ ap₂ (λ a b. a + b) (length-chains I q w S y k) (length-chain I q k (coef S k w) _ (2 ^ w - 1 - coef S k w))

pub steps-taken : StepsTaken
unfolding chain_steps
steps-taken t I q Q y = length-chains I q t.w (checked t Q) y t.p

-- What is appended to a string changes none of its digits.
coef-first : (S R : List ℕ) (i w : ℕ) → i * w / 8 < length S → coef (S ++ R) i w ≡ coef S i w
unfolding coef
coef-first S R i w h = ap (λ x. bit_and (2 ^ w - 1) (x / 2 ^ (8 - (w * (i % (8 / w)) + w)))) (get_or-append S R 0 (i * w / 8) h)

steps_first : (S R : List ℕ) (w k : ℕ) → k * w ≤ 8 * length S → 0 < w → steps w (S ++ R) k ≡ steps w S k
unfolding steps
steps_first S R w zero h pos = refl
steps_first S R w (suc k) h pos =
    let m : k * w < 8 * length S = omega (arith, suc-mul k w) in
    ap₂ (λ x y. x + (2 ^ w - 1 - y)) (steps_first S R w k (omega arith) pos) (coef-first S R k w (omega arith))

-- A digit of w bits as a remainder.
digit : (S : List ℕ) (i w : ℕ) → coef S i w ≡ get_or S (i * w / 8) 0 / 2 ^ (8 - (w * (i % (8 / w)) + w)) % 2 ^ w
unfolding coef
digit S i w = and_comm (2 ^ w - 1) _ ∙ and_mask _ w

-- w bits of a byte, from bit e on, are those of the number that it is the lowest byte of.
low_byte : (n e w : ℕ) → e + w ≤ 8 → n % 256 / 2 ^ e % 2 ^ w ≡ n / 2 ^ e % 2 ^ w
low_byte n e w h =
    let a : (8 - e) + e ≡ 8 = omega arith in
    let b : ((8 - e) - w) + w ≡ 8 - e = omega arith in
    ap (λ k. n % 2 ^ k / 2 ^ e % 2 ^ w) (sym a) ∙ ap (λ x. x % 2 ^ w) (field n (8 - e) e) ∙ ap (λ k. n / 2 ^ e % 2 ^ k % 2 ^ w) (sym b) ∙ mod-mod-pow (n / 2 ^ e) ((8 - e) - w) w

-- The two bytes behind a hash value.
behind : (Q : List ℕ) (x : ℕ) → length Q ≡ 32 → (get_or (Q ++ bytes 2 x) 32 0 ≡ x / 256 % 256) × (get_or (Q ++ bytes 2 x) 33 0 ≡ x % 256)
behind Q x l = (at 32 0 (omega arith) ∙ unfold bytes in refl, at 33 1 (omega arith) ∙ unfold bytes in refl)
  where
    at : (i j : ℕ) → i ≡ 32 + j → get_or (Q ++ bytes 2 x) i 0 ≡ get_or (bytes 2 x) j 0
    at i j e = let f : i ≡ length Q + j = omega arith in rw f (get_or-append-add Q (bytes 2 x) j 0)

-- What c digits of s lack to the largest, the lowest digit last.
lacking : (b c s : ℕ) → ℕ
lacking b zero s = 0
lacking b (suc c) s = lacking b c (s / b) + (b - 1 - s % b)

-- Together with s itself it does not fall as s grows: of s and its lowest digit's lack the higher digits are left, and b - 1.
grows : (b c s t : ℕ) → 0 < b → s ≤ t → s + lacking b c s ≤ t + lacking b c t
unfolding lacking
grows b zero s t pos h = omega arith
grows b (suc c) s t pos h =
    let less : s / b ≤ t / b = (le-div_iff_mul-le pos).1 (omega (arith, div-mul-le_self s b)) in
    let higher = grows b c (s / b) (t / b) pos less in
    let z : b ≡ suc (b - 1) = omega arith in
    let all : (n : ℕ) → n / b * b ≡ n / b * (b - 1) + n / b = λ n. ap (λ k. n / b * k) z ∙ mul-suc (n / b) (b - 1) in
    omega (arith, div-add-mod' s b, div-add-mod' t b, mod-lt s pos, mod-lt t pos, all s, all t, mul-le-mul_right (b - 1) less)

module _ (w m : ℕ) (byte : m * w ≡ 8) where
  some-digits : 0 < m
  some-digits = go m byte
    where
      go : (m : ℕ) → m * w ≡ 8 → 0 < m
      go zero e = absurd (omega (arith, zero-mul w))
      go (suc m) e = omega arith

  some_bits : 0 < w
  some_bits = go w byte
    where
      go : (w : ℕ) → m * w ≡ 8 → 0 < w
      go zero e = absurd (omega (arith, mul-zero m))
      go (suc w) e = omega arith

  per-byte : 8 / w ≡ m
  per-byte = div-eq_of_eq-mul_left some_bits (sym byte)

  -- a hash value's digits
  bits : 32 * m * w ≡ 256
  bits = mul_assoc 32 m w ∙ ap (λ k. 32 * k) byte

  module _ (Q : List ℕ) (x : ℕ) (l : length Q ≡ 32) where
    abbrev S : List ℕ
    S = Q ++ bytes 2 x

    -- digit k of the two bytes behind a hash value
    later : (k : ℕ) → k * w + w ≤ 16 → coef S (32 * m + k) w ≡ x / 2 ^ (16 - (k * w + w)) % 2 ^ w
    later k h =
        let at : (32 * m + k) * w ≡ 256 + k * w = add-mul (32 * m) k w ∙ ap (λ n. n + k * w) bits in
        let place : (32 * m + k) % (8 / w) ≡ k % m = rw per-byte (mul-add-mod_self_right 32 m k) in
        let swap = mul_comm k w in
        digit S (32 * m + k) w ∙ rw (place, at) (go (dec_lt k m))
      where
        go : Dec (k < m) → get_or S ((256 + k * w) / 8) 0 / 2 ^ (8 - (w * (k % m) + w)) % 2 ^ w ≡ x / 2 ^ (16 - (k * w + w)) % 2 ^ w
        go (yes g) =
            let few : k * w + w ≤ 8 = omega (arith, suc-mul k w, mul-le-mul_right w g) in
            let first : (256 + k * w) / 8 ≡ 32 = omega (arith, some_bits) in
            let e : ℕ = 8 - (w * k + w) in
            let f : 8 + e ≡ 16 - (k * w + w) = omega (arith, mul_comm k w) in
            rw (first, mod-eq_of_lt g)
            (ap (λ n. n / 2 ^ e % 2 ^ w) (behind Q x l).0 ∙ low_byte (x / 256) e w (omega (arith, mul_comm k w)) ∙ ap (λ n. n % 2 ^ w) (shr-shr x 8 e ∙ ap (λ n. x / 2 ^ n) f))
        go (no g) =
            let le : m ≤ k = omega arith in
            let eight : 8 ≤ k * w = omega (arith, byte, mul-le-mul_right w le) in
            let second : (256 + k * w) / 8 ≡ 33 = omega (arith, some_bits) in
            let rest : k % m ≡ k - m = mod-eq-sub-mod le ∙ mod-eq_of_lt (below (dec_lt (k - m) m)) in
            let part : w * (k - m) ≡ k * w - 8 = mul-sub w k m ∙ omega (arith, mul_comm w k, mul_comm w m, byte) in
            let e : ℕ = 8 - (w * (k - m) + w) in
            let f : e ≡ 16 - (k * w + w) = omega arith in
            rw (second, rest) (ap (λ n. n / 2 ^ e % 2 ^ w) (behind Q x l).1 ∙ low_byte x e w (omega arith) ∙ ap (λ n. x / 2 ^ n % 2 ^ w) f)
          where
            below : Dec (k - m < m) → k - m < m
            below (yes b) = b
            below (no b) = let twice : 2 * m ≤ k = omega arith in absurd (omega (arith, mul_assoc 2 m w, byte, some_bits, mul-le-mul_right w twice))

    -- j of the checksum's digits, r more to come: they are those of the sum that it shifts
    added : (s ls j r : ℕ) → x ≡ s * 2 ^ ls → (j + r) * w + ls ≡ 16 → steps w S (32 * m + j) ≡ steps w S (32 * m) + lacking (2 ^ w) j (s / 2 ^ (r * w))
    unfolding lacking
    added s ls zero r ex e = ap (steps w S) (add-zero (32 * m)) ∙ sym (add-zero (steps w S (32 * m)))
    added s ls (suc j) r ex e =
        let z : (j + suc r) * w + ls ≡ 16 = ap (λ n. n * w + ls) (omega arith) ∙ e in
        let before = added s ls j (suc r) ex z in
        let higher : s / 2 ^ (suc r * w) ≡ s / 2 ^ (r * w) / 2 ^ w = ap (λ n. s / 2 ^ n) (suc-mul r w) ∙ sym (shr-shr s (r * w) w) in
        let k : 16 - (j * w + w) ≡ ls + r * w = omega (arith, add-mul j (suc r) w, suc-mul r w) in
        let d : coef S (32 * m + j) w ≡ s / 2 ^ (r * w) % 2 ^ w =
        later j (omega (arith, add-mul j (suc r) w, suc-mul r w))
        ∙ ap (λ n. n % 2 ^ w) (ap (λ n. x / 2 ^ n) k ∙ sym (shr-shr x ls (r * w)) ∙ ap (λ n. n / 2 ^ (r * w)) (ap (λ n. n / 2 ^ ls) ex ∙ shl-shr s ls)) in
        let next : 32 * m + suc j ≡ 32 * m + j + 1 = omega arith in
        let base : ℕ = steps w S (32 * m) in
        ap (steps w S) next
        ∙ sym (steps-suc w S (32 * m + j) refl refl refl)
        ∙ ap₂ (λ a b. a + (2 ^ w - 1 - b)) (before ∙ ap (λ n. base + lacking (2 ^ w) j n) higher) d
        ∙ add_assoc base (lacking (2 ^ w) j (s / 2 ^ (r * w) / 2 ^ w)) (2 ^ w - 1 - s / 2 ^ (r * w) % 2 ^ w)

-- The digits of zero bytes are zero, and lack the most.
zeros : (k i : ℕ) → ◌≡◌ {A = ℕ} (get_or (replicate k 0) i 0) 0
zeros zero i = refl
zeros (suc k) zero = refl
zeros (suc k) (suc i) = zeros k i

coef-zeros : (i w : ℕ) → coef (replicate 32 0) i w ≡ 0
unfolding coef
coef-zeros i w =
    ap (λ n. bit_and (2 ^ w - 1) (n / 2 ^ (8 - (w * (i % (8 / w)) + w)))) (zeros 32 (i * w / 8))
    ∙ ap (bit_and (2 ^ w - 1)) (zero-div (2 ^ (8 - (w * (i % (8 / w)) + w)))) ∙ and_zero_r (2 ^ w - 1)

steps-zeros : (w k : ℕ) → steps w (replicate 32 0) k ≡ k * (2 ^ w - 1)
unfolding steps
steps-zeros w zero = sym (zero-mul (2 ^ w - 1))
steps-zeros w (suc k) = omega (arith, steps-zeros w k, coef-zeros k w, suc-mul k (2 ^ w - 1))

-- By the sum over the hash value's digits: with the checksum's it is that sum and what its own digits lack.
module _ (t : Row) (d : WholeDigits t) where
  abbrev w : ℕ
  w = t.w

  abbrev u : ℕ
  u = 32 * d.m

  by-sum : (Q : List ℕ) → length Q ≡ 32 → chain_steps t Q ≡ steps w Q u + lacking (2 ^ w) d.v (steps w Q u)
  unfolding chain_steps checked Cksm
  by-sum Q l =
      let s : ℕ = steps w Q u in
      let x : ℕ = s * 2 ^ t.ls in
      let all : 8 * 32 / w ≡ u = div-eq_of_eq-mul_left (some_bits w d.m d.byte) (sym (bits w d.m d.byte)) in
      let left : s / 2 ^ (0 * w) ≡ s = ap (λ n. s / 2 ^ n) (zero-mul w) ∙ ap (λ n. s / n) (pow-zero 2) ∙ div-one s in
      let sum : (d.v + 0) * w + t.ls ≡ 16 = ap (λ n. n * w + t.ls) (add-zero d.v) ∙ d.checksum in
      let first : steps w (Q ++ bytes 2 x) u ≡ s =
      steps_first Q (bytes 2 x) w u (omega (arith, bits w d.m d.byte)) (some_bits w d.m d.byte) in
      rw (all, d.chains)
      (added w d.m d.byte Q x l s t.ls d.v 0 refl sum ∙ ap₂ (λ a b. a + lacking (2 ^ w) d.v b) first left)

pub zeros-most : ZerosMost
zeros-most t d Q l =
    let u : ℕ = 32 * d.m in
    let most : steps t.w Q u ≤ steps t.w (replicate 32 0) u = rw (steps-zeros t.w u) (steps-le t.w Q u) in
    rw (by-sum t d Q l, by-sum t d (replicate 32 0) refl) (grows (2 ^ t.w) d.v (steps t.w Q u) (steps t.w (replicate 32 0) u) (pow_pos t.w) most)

-- The two types, computed.
abbrev w8 : Row
w8 = record { w = 8; p = 34; ls = 0 }

abbrev w4 : Row
w4 = record { w = 4; p = 67; ls = 4 }

whole8 : WholeDigits w8
whole8 = record { m = 1; v = 2; byte = refl; chains = refl; checksum = refl }

whole4 : WholeDigits w4
whole4 = record { m = 2; v = 3; byte = refl; chains = refl; checksum = refl }

pub chain_steps_lem : ChainSteps
unfolding table1 chain_steps checked Cksm steps coef bytes
chain_steps_lem = (
  record { row = w8; known = refl; never_more = λ Q l. zeros-most w8 whole8 Q l; zeros = refl },
  record { row = w4; known = refl; never_more = λ Q l. zeros-most w4 whole4 Q l; zeros = refl },
)

-- A count that leaves the checksum out does not meet the claim: of zero bytes it has 8,160 and 960.
pub unchecked : Row → List ℕ → ℕ
unchecked t Q = steps t.w Q (8 * 32 / t.w)

pub unchecked-fails : (MostSteps unchecked 4 8415 → ⊥) × (MostSteps unchecked 3 990 → ⊥)
unfolding table1 unchecked steps coef
unchecked-fails = (
  λ claim. let e : ◌≡◌ {A = ℕ} 8160 8415 = ap (λ t. unchecked t (replicate 32 0)) (same_Some w8 claim.row claim.known) ∙ claim.zeros in omega arith,
  λ claim. let e : ◌≡◌ {A = ℕ} 960 990 = ap (λ t. unchecked t (replicate 32 0)) (same_Some w4 claim.row claim.known) ∙ claim.zeros in omega arith,
)
