-- The padding: its zero bits are the least that do, its length, and the last block or two.
use Rattle.std.proofs.lemmas.List.{take-replicate, drop-replicate}
use Rattle.std.proofs.Common.{◌≡◌, ℕ, suc, ◌+◌, ◌-◌, ◌*◌, ◌/◌, ◌%◌, ◌^◌, ◌<◌, ◌≤◌, List, ◌∷◌, ◌++◌, length, take, drop, set, replicate, sym, refl, ap, ◌∙◌, ap₂, append_assoc, arith, length-append, take_all, take_at, drop_at}
use lib.ListN.{length-replicate, replicate-append-replicate}
use lib.Seq.{paste, take-length, take-paste, set_at}
use Rattle.octets.specs.Octets.{bytes}
use Rattle.octets.proofs.CopyLaws.{paste-end}
use Rattle.octets.proofs.NumberLaws.{length-bytes, bytes-mod}
use Rattle.sha256.specs.Sha256.{zero_bits, padding, pad, hash_value, block, compress, digest, concatenated}
use Rattle.sha256.specs.Claims.{ZeroBits, PadLength, Compressions}
use Rattle.sha256.specs.Context.{Pending}
use Rattle.sha256.proofs.HashLaws.{hash-one, digest-pending, length_rest}

pub zero_bits_lem : ZeroBits
unfolding zero_bits
zero_bits_lem l = (omega arith, λ k e. omega arith)

zero-bytes : (n : ℕ) → zero_bits (8 * n) / 8 ≡ (119 - n % 64) % 64
unfolding zero_bits
zero-bytes n = omega arith

pub length-padding : (n : ℕ) → length (padding (8 * n)) ≡ 9 + (119 - n % 64) % 64
unfolding padding
length-padding n =
    let z = zero_bits (8 * n) / 8 in
    length-append (0x80 ∷ replicate z 0) (bytes 8 (8 * n)) ∙ omega (arith, length-replicate {A = ℕ} z 0, length-bytes 8 (8 * n), zero-bytes n)

pub length-pad : PadLength
unfolding pad
length-pad m = length-append m (padding (8 * length m)) ∙ omega (arith, length-padding (length m))

pub compressions-is : Compressions
compressions-is m = let e = length-pad m in omega arith

split : (k n : ℕ) → k ≤ n → ◌≡◌ {A = List ℕ} (replicate n 0) (replicate k 0 ++ replicate (n - k) 0)
split k n h =
    let e : k + (n - k) ≡ n = omega arith in
    ap (λ (x : ℕ). replicate {A = ℕ} x 0) (sym e) ∙ sym (replicate-append-replicate k (n - k) 0)

-- the bytes left over in a block of zeros, then 0x80
pub marked : (r : List ℕ) (used : ℕ) → used ≡ length r → used < 64
    → set (paste (replicate 64 0) 0 r (length r)) used 0x80 ≡ r ++ (0x80 ∷ replicate (63 - length r) 0)
marked r used u h =
    let e : 64 - (0 + length r) ≡ suc (63 - length r) = omega arith in
    ap (λ (x : List ℕ). set x used 0x80)
    (ap₂ {C = List ℕ} (λ (x y : List ℕ). x ++ y) (take-length r) (drop-replicate (0 + length r) 64 0 ∙ ap (λ (k : ℕ). replicate k 0) e))
    ∙ set_at r 0 (replicate (63 - length r) 0) 0x80 used (sym u)

-- eight bytes hold the length in bits modulo 2 ^ 64, and the code's shift loses none of these
bits : (t n : ℕ) → t ≡ n % 2 ^ 64 → bytes 8 (8 * t) ≡ bytes 8 (8 * n)
bits t n e =
    let w : (8 * t) % 256 ^ 8 ≡ (8 * n) % 256 ^ 8 = omega arith in
    sym (bytes-mod 8 (8 * t)) ∙ ap (bytes 8) w ∙ bytes-mod 8 (8 * n)

shifted : (t : ℕ) {l : List ℕ} → l ≡ bytes 8 ((t * 2 ^ 3) % 2 ^ 64) → l ≡ bytes 8 (8 * t)
shifted t e = e ∙ ap (λ (x : ℕ). bytes 8 (x % 2 ^ 64)) (omega arith) ∙ bytes-mod 8 (8 * t)

-- the padding has k zero bytes
zeros : (n k : ℕ) → k ≡ (119 - n % 64) % 64 → padding (8 * n) ≡ (0x80 ∷ replicate k 0) ++ bytes 8 (8 * n)
unfolding padding
zeros n k e = ap (λ (x : ℕ). (0x80 ∷ replicate x 0) ++ bytes 8 (8 * n)) (zero-bytes n ∙ sym e)

-- it is that of the length modulo 2 ^ 64
pub padding-mod : (t n : ℕ) → t ≡ n % 2 ^ 64 → padding (8 * t) ≡ padding (8 * n)
unfolding padding
padding-mod t n e =
    let z : zero_bits (8 * t) / 8 ≡ zero_bits (8 * n) / 8 = omega (arith, zero-bytes t, zero-bytes n) in
    ap₂ (λ (x : ℕ) (y : List ℕ). (0x80 ∷ replicate x 0) ++ y) z (bits t n e)

-- 0x80 and zeros, and the length copied to where the padding ends
pub written : (t n : ℕ) {l : List ℕ} → n ≡ length (padding (8 * t)) → l ≡ bytes 8 ((t * 2 ^ 3) % 2 ^ 64)
    → take (length (padding (8 * t))) (paste (0x80 ∷ replicate 71 0) (n - 8) l (length l)) ≡ padding (8 * t)
written t n {l} e f =
    let k = (119 - t % 64) % 64 in
    let g : l ≡ bytes 8 (8 * t) = shifted t f in
    let h : n - 8 ≡ suc k = omega (arith, length-padding t) in
    let i : length (padding (8 * t)) ≡ suc k + length l = omega (arith, length-padding t, ap length g, length-bytes 8 (8 * t)) in
    rw (h, i)
    (take-paste (0x80 ∷ replicate 71 0) (suc k) l (length l) (omega (arith, length-replicate {A = ℕ} 71 0)) (omega arith)
    ∙ ap₂ {C = List ℕ} (λ (x y : List ℕ). (0x80 ∷ x) ++ y) (take-replicate k 71 0 (omega arith)) (take-length l ∙ g)
    ∙ sym (zeros t k refl))

hash-two : (h x y : List ℕ) → length x ≡ 64 → length y ≡ 64 → hash_value h (length (x ++ y) / 64) (x ++ y) ≡ compress (compress h x) y
unfolding hash_value block
hash-two h x y e f =
    let l : length (x ++ y) ≡ 128 = length-append x y ∙ omega arith in
    rw (l, take_at x y 64 e, drop_at x y 64 e, take_all 64 y (omega arith))

module _ {h r : List ℕ} {t : ℕ} {m : List ℕ} (p : Pending h r t m) where
  padded : (k : ℕ) → k ≡ (119 - length r) % 64 → padding (8 * length m) ≡ (0x80 ∷ replicate k 0) ++ bytes 8 (8 * t)
  padded k e = sym (padding-mod t (length m) p.counted) ∙ zeros t k (omega (arith, length_rest p, p.counted))

  -- it fits into the block, or takes one more
  pub digest-one : length r < 56 → (b : List ℕ) → b ≡ r ++ (0x80 ∷ replicate (63 - length r) 0)
      → concatenated (compress h (take 56 b ++ bytes 8 (8 * t))) ≡ digest m
  digest-one l b e =
      let x = take 56 b ++ bytes 8 (8 * t) in
      let k : 63 - length r ≡ (55 - length r) + 8 = omega arith in
      let g : take 56 b ≡ r ++ (0x80 ∷ replicate (55 - length r) 0) =
      ap (take 56) (e ∙ ap (λ (n : ℕ). r ++ (0x80 ∷ replicate n 0)) k
      ∙ ap (λ (y : List ℕ). r ++ (0x80 ∷ y)) (sym (replicate-append-replicate (55 - length r) 8 0)) ∙ sym (append_assoc r (0x80 ∷ replicate (55 - length r) 0) (replicate 8 0)))
      ∙ take_at (r ++ (0x80 ∷ replicate (55 - length r) 0)) (replicate 8 0) 56
      (length-append r (0x80 ∷ replicate (55 - length r) 0) ∙ omega (arith, length-replicate {A = ℕ} (55 - length r) 0)) in
      let w : x ≡ r ++ padding (8 * length m) =
      ap (λ (y : List ℕ). y ++ bytes 8 (8 * t)) g ∙ append_assoc r (0x80 ∷ replicate (55 - length r) 0) (bytes 8 (8 * t))
      ∙ ap (λ (y : List ℕ). r ++ y) (sym (padded (55 - length r) (omega arith))) in
      let n : length x ≡ 64 =
      length-append (take 56 b) (bytes 8 (8 * t))
      ∙ omega (arith, length-bytes 8 (8 * t), ap length g, length-append r (0x80 ∷ replicate (55 - length r) 0), length-replicate {A = ℕ} (55 - length r) 0) in
      sym (digest-pending p x w ∙ ap concatenated (hash-one h x n))

  pub digest-two : 56 ≤ length r → length r < 64 → (b : List ℕ) → b ≡ r ++ (0x80 ∷ replicate (63 - length r) 0)
      → concatenated (compress (compress h b) (replicate 56 0 ++ bytes 8 (8 * t))) ≡ digest m
  digest-two l g b e =
      let y = replicate 56 0 ++ bytes 8 (8 * t) in
      let k : 119 - length r ≡ (63 - length r) + 56 = omega arith in
      let w : b ++ y ≡ r ++ padding (8 * length m) =
      ap (λ (u : List ℕ). u ++ y) e ∙ append_assoc r (0x80 ∷ replicate (63 - length r) 0) (replicate 56 0 ++ bytes 8 (8 * t))
      ∙ ap (λ (u : List ℕ). r ++ (0x80 ∷ u)) (sym (append_assoc (replicate (63 - length r) 0) (replicate 56 0) (bytes 8 (8 * t)))
      ∙ ap (λ (u : List ℕ). u ++ bytes 8 (8 * t)) (replicate-append-replicate (63 - length r) 56 0 ∙ ap (λ (n : ℕ). replicate n 0) (sym k)))
      ∙ ap (λ (u : List ℕ). r ++ u) (sym (padded (119 - length r) (omega arith))) in
      let n : length b ≡ 64 = ap length e ∙ length-append r (0x80 ∷ replicate (63 - length r) 0) ∙ omega (arith, length-replicate {A = ℕ} (63 - length r) 0) in
      let o : length y ≡ 64 = length-append (replicate 56 0) (bytes 8 (8 * t)) ∙ omega (arith, length-replicate {A = ℕ} 56 0, length-bytes 8 (8 * t)) in
      sym (digest-pending p (b ++ y) w ∙ ap concatenated (hash-two h b y n o))

-- the length written into the last block
pub closed : (b l : List ℕ) (t : ℕ) → length b ≡ 64 → l ≡ bytes 8 ((t * 2 ^ 3) % 2 ^ 64) → paste b 56 l (length l) ≡ take 56 b ++ bytes 8 (8 * t)
closed b l t e f =
    let g : l ≡ bytes 8 (8 * t) = shifted t f in
    paste-end b l 56 (omega (arith, ap length g, length-bytes 8 (8 * t))) ∙ ap (λ (x : List ℕ). take 56 b ++ x) g

-- how long a padding is, for the goals of the code that makes one
pub ruleset padding_lengths = (length-padding)
