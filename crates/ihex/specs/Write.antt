-- A text for an image: what a supplier's own test may start from. The end record, and before it records of 16 bytes, in order of address; the first ends where an
-- address is a multiple of 16, so that none runs over a multiple of 65,536, where readers differ. A record 04 stands where the upper half changes.
use Rattle.std.specs.Prelude.{cond, List, [], ◌∷◌, ◌++◌, ℕ, zero, suc, ◌+◌, ◌-◌, ◌/◌, ◌%◌, ltb, eqb, length, take, drop}
use Rattle.octets.specs.Octets.{bytes}
use Rattle.ihex.specs.Line.{colon, LF, sum}

-- the digit of a number below 16: 0 to 9, A to F
unfoldable pub hex_digit : ℕ → ℕ
hex_digit d = cond (ltb d 10) (48 + d) (55 + d)

-- each byte as two digits
unfoldable pub hex_digits : List ℕ → List ℕ
hex_digits [] = []
hex_digits (b ∷ bs) = hex_digit (b / 16) ∷ hex_digit (b % 16) ∷ hex_digits bs

-- the byte that makes the sum 0 modulo 256
unfoldable pub checksum : List ℕ → ℕ
checksum bs = (256 - sum bs % 256) % 256

unfoldable pub record_line : (address type : ℕ) → List ℕ → List ℕ
record_line address type s =
    let bs = length s ∷ bytes 2 address ++ (type ∷ s) in
    colon ∷ hex_digits (bs ++ (checksum bs ∷ [])) ++ (LF ∷ [])

-- the text for bytes from address a on, with u the last 04 value; k, no less than their number, only bounds the recursion
unfoldable pub text_from : (k u a : ℕ) → List ℕ → List ℕ
text_from zero u a s = record_line 0 1 []
text_from (suc k) u a [] = record_line 0 1 []
text_from (suc k) u a (b ∷ s) =
    let h = a / 65536 in
    let n = 16 - a % 16 in
    cond (eqb h u) [] (record_line 0 4 (bytes 2 h)) ++ (record_line (a % 65536) 0 (take n (b ∷ s)) ++ text_from k h (a + n) (drop n (b ∷ s)))

unfoldable pub text_of : (base : ℕ) → List ℕ → List ℕ
text_of base image = text_from (length image) 0 base image
