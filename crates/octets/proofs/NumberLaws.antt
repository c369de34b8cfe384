-- Numbers as bytes, and bytes as numbers.
use mathlib.Core.Path.{◌≡◌, refl, sym, ap, ap₂, ◌∙◌, subst}
use mathlib.Core.List.{List, [], ◌∷◌, ◌++◌}
use Prim.Native.Nat.{ℕ, zero, suc, ◌+◌, ◌*◌, ◌/◌, ◌%◌, ◌^◌, ◌≤◌, ◌<◌}
use native.Mathlib.Nat.{pow-suc, one-le-pow, mul_assoc, mod-lt, mod-eq_of_lt}
use native.Mathlib.Omega.{arith}
use lib.Arith.{mod-mul, digits_div, digits_mod}
use lib.Dec.{lit<}
use lib.ListN.{length, length-append, drop, get_or, take}
use lib.Seq.{drop-cons, take-suc, take-length, get_or-take, get_or-drop}
use Rattle.octets.specs.Octets.{Bytes, bytes, number, part}
use Rattle.octets.specs.Claims.{NumberOfBytes, BytesOfNumber}
use Rattle.octets.proofs.CopyLaws.{length_part}

pub length-bytes : (k x : ℕ) → length (bytes k x) ≡ k
unfolding bytes
length-bytes zero x = refl
length-bytes (suc k) x = length-append (bytes k (x / 256)) (x % 256 ∷ []) ∙ ap (λ (n : ℕ). n + 1) (length-bytes k (x / 256)) ∙ omega arith

-- one digit to the base 256 more
digit : (k x : ℕ) → x % 256 ^ suc k ≡ (x / 256 % 256 ^ k) * 256 + x % 256
digit k x = ap (λ (y : ℕ). x % y) (pow-suc 256 k) ∙ mod-mul x (one-le-pow k 256 (lit< tt)) (lit< tt)

-- k bytes of a number are those of its remainder
pub bytes-mod : (k x : ℕ) → bytes k (x % 256 ^ k) ≡ bytes k x
unfolding bytes
bytes-mod zero x = refl
bytes-mod (suc k) x =
    let l : x % 256 < 256 = omega arith in
    ap₂ (λ (a b : ℕ). bytes k a ++ (b ∷ []))
    (ap (λ (y : ℕ). y / 256) (digit k x) ∙ digits_div (x / 256 % 256 ^ k) l)
    (ap (λ (y : ℕ). y % 256) (digit k x) ∙ digits_mod (x / 256 % 256 ^ k) l)
    ∙ ap (λ (r : List ℕ). r ++ (x % 256 ∷ [])) (bytes-mod k (x / 256))

number-snoc : (s : List ℕ) (b : ℕ) → number (s ++ (b ∷ [])) ≡ number s * 256 + b
unfolding number
number-snoc [] b = omega arith
number-snoc (a ∷ s) b =
    let l : length (s ++ (b ∷ [])) ≡ suc (length s) = length-append s (b ∷ []) ∙ omega arith in
    ap₂ (λ (n m : ℕ). a * 256 ^ n + m) l (number-snoc s b)
    ∙ ap (λ (p : ℕ). a * p + (number s * 256 + b)) (pow-suc 256 (length s))
    ∙ ap (λ (p : ℕ). p + (number s * 256 + b)) (sym (mul_assoc a (256 ^ length s) 256))
    ∙ omega arith

-- what k bytes of a number stand for
pub number-bytes : NumberOfBytes
unfolding bytes number
number-bytes zero x = omega arith
number-bytes (suc k) x =
    number-snoc (bytes k (x / 256)) (x % 256) ∙ ap (λ (y : ℕ). y * 256 + x % 256) (number-bytes k (x / 256)) ∙ sym (digit k x)

-- a number of k bytes, read back
pub number-back : (k x : ℕ) {b : List ℕ} → b ≡ bytes k x → x < 256 ^ k → number b ≡ x
number-back k x e l = ap number e ∙ number-bytes k x ∙ mod-eq_of_lt l

-- one byte more of a string
part-suc : (s : List ℕ) (i k : ℕ) → i < length s → part i (suc k) s ≡ get_or s i 0 ∷ part (suc i) k s
part-suc s i k h = ap (take (suc k)) (drop-cons s i 0 h)

pub number-two : (s : List ℕ) (i : ℕ) → i + 2 ≤ length s → number (part i 2 s) ≡ get_or s i 0 * 256 + get_or s (i + 1) 0
unfolding number
number-two s i h = let a : suc i ≡ i + 1 = omega arith in rw (part-suc s i 1 (omega arith), part-suc s (suc i) 0 (omega arith), a) (omega arith)

pub number-four : (s : List ℕ) (i : ℕ) → i + 4 ≤ length s
    → number (part i 4 s) ≡ get_or s i 0 * 0x1000000 + get_or s (i + 1) 0 * 0x10000 + get_or s (i + 2) 0 * 0x100 + get_or s (i + 3) 0
unfolding number
number-four s i h =
    let a : suc i ≡ i + 1 = omega arith in
    let b : suc (suc i) ≡ i + 2 = omega arith in
    let d : suc (suc (suc i)) ≡ i + 3 = omega arith in
    rw (part-suc s i 3 (omega arith), part-suc s (suc i) 2 (omega arith), part-suc s (suc (suc i)) 1 (omega arith), part-suc s (suc (suc (suc i))) 0 (omega arith), d, b, a) (omega arith)

bytes-front : (s : List ℕ) → Bytes s → (n : ℕ) → n ≤ length s → bytes n (number (take n s)) ≡ take n s
unfolding bytes
bytes-front s h zero l = refl
bytes-front s h (suc n) l =
    let x = get_or s n 0 in
    let e = take-suc s n 0 (omega arith) in
    let f = ap number e ∙ number-snoc (take n s) x in
    let b = h n (omega arith) in
    ap₂ (λ (y z : ℕ). bytes n y ++ (z ∷ []))
    (ap (λ (y : ℕ). y / 256) f ∙ digits_div (number (take n s)) b)
    (ap (λ (y : ℕ). y % 256) f ∙ digits_mod (number (take n s)) b)
    ∙ ap (λ (r : List ℕ). r ++ (x ∷ [])) (bytes-front s h n (omega arith)) ∙ sym e

-- a string of bytes is that of its number
pub bytes-number : BytesOfNumber
bytes-number s h =
    ap (λ (t : List ℕ). bytes (length s) (number t)) (sym (take-length s)) ∙ bytes-front s h (length s) (omega arith) ∙ take-length s

-- so is each part of it
pub part_bytes : (s : List ℕ) → Bytes s → (i k : ℕ) → i + k ≤ length s → Bytes (part i k s)
part_bytes s h i k l j g =
    let n = length_part s i k l in
    let j' : j < k = omega arith in
    rw (get_or-take k (drop i s) j 0 j', get_or-drop i s j 0) (h (i + j) (omega arith))

pub bytes-part : (s : List ℕ) → Bytes s → (i k : ℕ) → i + k ≤ length s → bytes k (number (part i k s)) ≡ part i k s
bytes-part s h i k l = ap (λ (j : ℕ). bytes j (number (part i k s))) (sym (length_part s i k l)) ∙ bytes-number (part i k s) (part_bytes s h i k l)

-- the number of a string of bytes is below 256 to the power of its length
number-below : (s : List ℕ) → Bytes s → number s < 256 ^ length s
number-below s h =
    let e : number s ≡ number s % 256 ^ length s = ap number (sym (bytes-number s h)) ∙ number-bytes (length s) (number s) in
    rw e (mod-lt (number s) (one-le-pow (length s) 256 (lit< tt)))

pub part-below : (s : List ℕ) → Bytes s → (i k : ℕ) → i + k ≤ length s → number (part i k s) < 256 ^ k
part-below s h i k l = subst (λ (j : ℕ). number (part i k s) < 256 ^ j) (length_part s i k l) (number-below (part i k s) (part_bytes s h i k l))
