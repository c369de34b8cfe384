-- The library's big-endian bytes are ours, at each width.
use mathlib.Core.Path.{◌≡◌, refl, sym, ap, ap₂, ◌∙◌}
use mathlib.Core.List.{List, [], ◌∷◌, ◌++◌}
use Prim.Native.Nat.{ℕ, zero, suc, ◌/◌, ◌%◌, ◌^◌}
use native.Mathlib.Nat.{pow-succ', div-div-eq-div-mul}
use Rattle.std.specs.Int.{Width, w16, w32, w64, byte_at, byte_len, bytes_high_first, to_be_bytes}
use Rattle.octets.specs.Octets.{bytes}

-- a byte further down, of a number a byte longer
byte-down : (i x : ℕ) → byte_at (suc i) x ≡ byte_at i (x / 256)
byte-down zero x = refl
byte-down (suc i) x = ap (λ (d : ℕ). x / d % 256) (pow-succ' 256 (suc i)) ∙ ap (λ (q : ℕ). q % 256) (sym (div-div-eq-div-mul x 256 (256 ^ suc i)))

high-first-suc : (k x : ℕ) → bytes_high_first (suc k) x ≡ bytes_high_first k (x / 256) ++ (x % 256 ∷ [])
high-first-suc zero x = refl
high-first-suc (suc k) x = ap₂ {C = List ℕ} (λ (b : ℕ) (s : List ℕ). b ∷ s) (byte-down k x) (high-first-suc k x)

high-first : (k x : ℕ) → bytes_high_first k x ≡ bytes k x
unfolding bytes
high-first zero x = refl
high-first (suc k) x = high-first-suc k x ∙ ap (λ (s : List ℕ). s ++ (x % 256 ∷ [])) (high-first k (x / 256))

-- the one law over the width
pub be_bytes : (w : Width) (x : ℕ) → to_be_bytes w x ≡ bytes (byte_len w) x
be_bytes w x = high-first (byte_len w) x

pub be_bytes_16 : (x : ℕ) → to_be_bytes w16 x ≡ bytes 2 x
be_bytes_16 x = be_bytes w16 x

pub be_bytes_32 : (x : ℕ) → to_be_bytes w32 x ≡ bytes 4 x
be_bytes_32 x = be_bytes w32 x

pub be_bytes_64 : (x : ℕ) → to_be_bytes w64 x ≡ bytes 8 x
be_bytes_64 x = be_bytes w64 x

-- For a function whose clause says `bytes 4 x` and whose body calls `x.to_be_bytes()`.
-- In this crate: `#[tactic(auto, using(crate::proofs::BigEndianLaws::big_endian))]`.
-- In another: `#[tactic(auto, using(octets::proofs::BigEndianLaws::big_endian))]`.
-- In an answer: `rw be_bytes_32`, or `c.to_be_bytes.ensures ∙ be_bytes_32 x`.
pub ruleset big_endian = (be_bytes_16, be_bytes_32, be_bytes_64)
