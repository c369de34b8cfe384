-- Strings of bytes and the numbers that they stand for. A byte is a number below 256, a string a list of them; numbers are big-endian.
use Rattle.std.specs.Prelude.{Bool, true, false, ◌&&◌, List, [], ◌∷◌, ◌++◌, ℕ, zero, suc, ◌+◌, ◌*◌, ◌/◌, ◌%◌, ◌^◌, ◌<◌, eqb, length, take, drop, get_or}

-- a string of bytes, and not of other numbers
abbrev pub Bytes : List ℕ → Type 0
Bytes s = (i : ℕ) → i < length s → get_or s i 0 < 256

-- x as k bytes, modulo 256 ^ k
unfoldable pub bytes : ℕ → ℕ → List ℕ
bytes zero x = []
bytes (suc k) x = bytes k (x / 256) ++ (x % 256 ∷ [])

-- the number that a string of bytes stands for
unfoldable pub number : List ℕ → ℕ
number [] = 0
number (b ∷ bs) = b * 256 ^ length bs + number bs

-- the k bytes of s from index i on
abbrev pub part : ℕ → ℕ → List ℕ → List ℕ
part i k s = take k (drop i s)

-- strings one behind the other
unfoldable pub joined : List (List ℕ) → List ℕ
joined [] = []
joined (s ∷ ss) = s ++ joined ss

-- f 0, .., f (k - 1)
unfoldable pub up_to : ℕ → (ℕ → List ℕ) → List (List ℕ)
up_to zero f = []
up_to (suc k) f = up_to k f ++ (f k ∷ [])

-- whether two strings are the same
unfoldable pub equal : List ℕ → List ℕ → Bool
equal [] [] = true
equal [] (y ∷ ys) = false
equal (x ∷ xs) [] = false
equal (x ∷ xs) (y ∷ ys) = eqb x y && equal xs ys
