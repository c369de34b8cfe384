-- What is shown of the definitions (in proofs/): the standard's own words about its constants and its padding, and how long padded messages and digests are.
use Rattle.std.specs.Prelude.{◌≡◌, ℕ, zero, suc, ◌+◌, ◌-◌, ◌*◌, ◌%◌, ◌^◌, ◌≤◌, Bool, true, false, cond, ◌&&◌, ◌||◌, List, [], ◌∷◌, length, take, ◌==◌, nat_le, nat_lt}
use Rattle.sha256.specs.Sha256.{K, H0, zero_bits, pad, compressions, compressions_for, digest}

-- whether n has a divisor from 2 to k + 1
unfoldable pub divides : ℕ → ℕ → Bool
divides zero n = false
divides (suc k) n = n % (k + 2) == 0 || divides k n

-- the primes among the k numbers from n on
unfoldable pub primes : ℕ → ℕ → List ℕ
primes zero n = []
primes (suc k) n = let more = primes k (suc n) in cond (divides (n - 2) n) more (n ∷ more)

-- whether x, below 2 ^ 32, is the first 32 bits of the fractional part of the root of p to the power e, whose whole part is at most k
unfoldable pub fraction : ℕ → ℕ → ℕ → ℕ → Bool
fraction zero e p x = nat_le (x ^ e) (p * 2 ^ (32 * e)) && nat_lt (p * 2 ^ (32 * e)) ((x + 1) ^ e)
fraction (suc k) e p x =
    (nat_le ((suc k * 2 ^ 32 + x) ^ e) (p * 2 ^ (32 * e)) && nat_lt (p * 2 ^ (32 * e)) ((suc k * 2 ^ 32 + x + 1) ^ e)) || fraction k e p x

unfoldable pub fractions : ℕ → List ℕ → List ℕ → Bool
fractions e [] [] = true
fractions e [] (x ∷ xs) = false
fractions e (p ∷ ps) [] = false
fractions e (p ∷ ps) (x ∷ xs) = (nat_lt x (2 ^ 32) && fraction 6 e p x) && fractions e ps xs

-- 4.2.2, 5.3.3: the constants are the first 32 bits of the fractional parts of the cube roots of the first 64 primes, and the initial hash value those of the
-- square roots of the first eight. 311 is the 64th prime.
abbrev pub Constants : Type 0
Constants = (fractions 3 (primes 310 2) K ≡ true) × (fractions 2 (take 8 (primes 310 2)) H0 ≡ true)

-- 5.1.1: the smallest, non-negative solution k of l + 1 + k ≡ 448 modulo 512
abbrev pub ZeroBits : Type 0
ZeroBits = (l : ℕ) → ((l + 1 + zero_bits l) % 512 ≡ 448) × ((k : ℕ) → (l + 1 + k) % 512 ≡ 448 → zero_bits l ≤ k)

-- a padded message has (length + 9) / 64 blocks, rounded up
abbrev pub PadLength : Type 0
PadLength = (m : List ℕ) → length (pad m) ≡ 64 * compressions_for (length m)

-- The compressions of a digest are "its length plus 9, over 64, rounded up" (02, change 7).
abbrev pub Compressions : Type 0
Compressions = (m : List ℕ) → compressions m ≡ compressions_for (length m)

-- 01: "A label is 32 bytes."
abbrev pub DigestLength : Type 0
DigestLength = (m : List ℕ) → length (digest m) ≡ 32
