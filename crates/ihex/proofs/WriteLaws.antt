-- A line that is written is read back, and ends where it should.
use mathlib.Core.Path.{◌≡◌, refl, ap}
use mathlib.Core.List.{List, [], ◌∷◌, ◌++◌, append_assoc}
use Rattle.std.specs.Prelude.{Some}
use Prim.Native.Nat.{ℕ, suc, ◌+◌, ◌-◌, ◌/◌, ◌%◌, ◌≤◌, ◌<◌}
use native.Mathlib.Decide.{dec_lt}
use native.Mathlib.Omega.{arith}
use lib.ListN.{length, drop, length-append}
use lib.Seq.{take_at, take-append_seam, drop_at}
use borrow.Author.Tests.{lt-ltb, le-ltb, eq-eqb, ne_eqb}
use Rattle.octets.specs.Octets.{Bytes, bytes, equal}
use Rattle.octets.proofs.NumberLaws.{number-back}
use Rattle.ihex.specs.Line.{colon, LF, CR, line_end, content, digit, octets, sum, record_of, record_in}
use Rattle.ihex.specs.Text.{lines}
use Rattle.ihex.specs.Write.{hex_digit, hex_digits, checksum, record_line}
use Rattle.ihex.proofs.DigitLaws.{is-between, not-between}

-- a written digit is read as its number, and is neither LF nor CR
digit-back : (d : ℕ) → d < 16 → digit (hex_digit d) ≡ Some d
unfolding digit hex_digit
digit-back d h = go (dec_lt d 10)
  where
    go : Dec (d < 10) → digit (hex_digit d) ≡ Some d
    go (yes l) = rw (lt-ltb d 10 l, is-between 48 57 (48 + d) (omega arith) (omega arith)) (ap Some (omega arith))
    go (no l) = rw (le-ltb d 10 (omega arith), not-between 48 57 (55 + d) (λ x y. omega arith), is-between 65 70 (55 + d) (omega arith) (omega arith)) (ap Some (omega arith))

hex-digit-large : (d : ℕ) → 48 ≤ hex_digit d
unfolding hex_digit
hex-digit-large d = go (dec_lt d 10)
  where
    go : Dec (d < 10) → 48 ≤ hex_digit d
    go (yes l) = rw (lt-ltb d 10 l) (omega arith)
    go (no l) = rw (le-ltb d 10 (omega arith)) (omega arith)

-- bytes that are written are read back
back_more : (b : ℕ) {s : List ℕ} → b < 256 → octets (hex_digits s) ≡ Some s → octets (hex_digits (b ∷ s)) ≡ Some (b ∷ s)
unfolding octets hex_digits
back_more b {s} h e = rw (digit-back (b / 16) (omega arith), digit-back (b % 16) (omega arith), e) (ap (λ (x : ℕ). Some (x ∷ s)) (omega arith))

back_last : (s : List ℕ) (x : ℕ) → Bytes s → x < 256 → octets (hex_digits (s ++ (x ∷ []))) ≡ Some (s ++ (x ∷ []))
back_last [] x h l = back_more x l (unfold octets hex_digits in refl)
back_last (b ∷ s) x h l = back_more b (h 0 (omega arith)) (back_last s x (λ i g. h (suc i) (omega arith)) l)

-- what stands between ':' and LF, where the byte before LF is no CR
module _ (p : List ℕ) (c : ℕ) (n : c ≡ CR → ⊥) where
  abbrev text : List ℕ
  text = p ++ (c ∷ [])

  abbrev line : List ℕ
  line = colon ∷ text ++ (LF ∷ [])

  text-length : length text ≡ length p + 1
  text-length = simp length-append

  line-length : length line ≡ length p + 3
  line-length = simp length-append (omega arith)

  line-end : line_end line ≡ 1
  unfolding line_end equal
  line-end =
      let two : drop (length line - 2) line ≡ c ∷ LF ∷ [] = rw (line-length, append_assoc) (drop_at (colon ∷ p) (c ∷ LF ∷ []) (length p + 3 - 2) (omega arith)) in
      let one = drop_at (colon ∷ text) (LF ∷ []) (length line - 1) (omega (arith, text-length, line-length)) in
      rw (two, one, ne_eqb c CR n)

  content-of : content line ≡ Some text
  unfolding content
  content-of = rw line-end (ap Some (take_at text (LF ∷ []) (length line - 1 - 1) (omega (arith, text-length, line-length))))

sum-last : (s : List ℕ) (x : ℕ) → sum (s ++ (x ∷ [])) ≡ sum s + x
unfolding sum
sum-last [] x = omega arith
sum-last (b ∷ s) x = rw (sum-last s x) (omega arith)

digits_last : (s : List ℕ) (x : ℕ) → hex_digits (s ++ (x ∷ [])) ≡ hex_digits s ++ (hex_digit (x / 16) ∷ []) ++ (hex_digit (x % 16) ∷ [])
unfolding hex_digits
digits_last [] x = refl
digits_last (b ∷ s) x = rw (digits_last s x)

lines-digits : (s rest : List ℕ) → lines (hex_digits s ++ (LF ∷ []) ++ rest) ≡ (hex_digits s ++ (LF ∷ [])) ∷ lines rest
unfolding hex_digits lines
lines-digits [] rest = refl
lines-digits (b ∷ s) rest =
    let n : (d : ℕ) → hex_digit d ≡ LF → ⊥ = λ d e. omega (arith, hex-digit-large d) in
    rw (ne_eqb (hex_digit (b / 16)) LF (n (b / 16)), ne_eqb (hex_digit (b % 16)) LF (n (b % 16)), lines-digits s rest)

module _ (address type : ℕ) (s : List ℕ) where
  -- the record without its checksum, and with it
  abbrev head : List ℕ
  head = length s ∷ bytes 2 address ++ (type ∷ s)

  abbrev whole : List ℕ
  whole = head ++ (checksum head ∷ [])

  -- it is a line of a text
  pub lines-line : (rest : List ℕ) → lines (record_line address type s ++ rest) ≡ record_line address type s ∷ lines rest
  unfolding record_line lines
  lines-line rest = rw (lines-digits whole rest)

  line-content : content (record_line address type s) ≡ Some (hex_digits whole)
  unfolding record_line
  line-content =
      let c = checksum head in
      rw (digits_last head c) (content-of (hex_digits head ++ (hex_digit (c / 16) ∷ [])) (hex_digit (c % 16)) (λ e. omega (arith, hex-digit-large (c % 16))))

  module _ (a : address < 65536) (t : type < 256) (l : length s < 256) (h : Bytes s) where
    line-octets : octets (hex_digits whole) ≡ Some whole
    unfolding bytes checksum
    line-octets =
        back_more (length s) l
        (back_more (address / 256 % 256) (omega arith) (back_more (address % 256) (omega arith) (back_more type t (back_last s (checksum head) h (omega arith)))))

    line-record : record_of whole ≡ Some (record { address = address; type = type; bytes = s })
    unfolding record_of bytes
    line-record =
        let size : length whole ≡ length s + 5 = simp length-append (omega arith) in
        let zero : sum whole % 256 ≡ 0 = rw (sum-last head (checksum head)) (unfold checksum in omega arith) in
        rw (eq-eqb (length whole) (length s + 5) size, eq-eqb (sum whole % 256) 0 zero, number-back 2 address refl a, take-append_seam s (checksum head ∷ []))

    pub line-back : record_in (record_line address type s) ≡ Some (record { address = address; type = type; bytes = s })
    unfolding record_in
    line-back = rw (line-content, line-octets, line-record)
