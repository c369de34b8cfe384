-- A line of Intel HEX text (02, change 3): ':', then count, address, type, data and checksum, each byte as two digits, then the line's end.
use Rattle.std.specs.Prelude.{Bool, cond, ◌&&◌, List, [], ◌∷◌, ℕ, ◌+◌, ◌-◌, ◌*◌, ◌%◌, leb, ltb, eqb, length, drop, get_or}
use Rattle.std.specs.Prelude.{Option, None, Some, option_and_then}
use Rattle.octets.specs.Octets.{number, part, equal}

-- the bytes ':', LF and CR
abbrev pub colon : ℕ
colon = 58

abbrev pub LF : ℕ
LF = 10

abbrev pub CR : ℕ
CR = 13

-- how many bytes end a line: "every line ends in LF or CR LF"; 0 where it does not
unfoldable pub line_end : List ℕ → ℕ
line_end l = cond (equal (drop (length l - 2) l) (CR ∷ LF ∷ [])) 2 (cond (equal (drop (length l - 1) l) (LF ∷ [])) 1 0)

-- what stands between ':' and the line's end, if the line has both
unfoldable pub content : List ℕ → Option (List ℕ)
content l = cond (eqb (get_or l 0 0) colon && ltb 0 (line_end l)) (Some (part 1 (length l - 1 - line_end l) l)) None

unfoldable pub between : (low high c : ℕ) → Bool
between low high c = leb low c && leb c high

-- "Upper and lower case digits count": 0 to 9 are 48 to 57, A to F 65 to 70, a to f 97 to 102
unfoldable pub digit : ℕ → Option ℕ
digit c = cond (between 48 57 c) (Some (c - 48)) (cond (between 65 70 c) (Some (c - 55)) (cond (between 97 102 c) (Some (c - 87)) None))

-- the byte of two digits, before the bytes behind it
abbrev pub byte_and : Option ℕ → Option ℕ → Option (List ℕ) → Option (List ℕ)
byte_and None low rest = None
byte_and (Some h) None rest = None
byte_and (Some h) (Some l) None = None
byte_and (Some h) (Some l) (Some bs) = Some ((16 * h + l) ∷ bs)

-- the bytes that pairs of digits stand for, if all characters are such pairs
unfoldable pub octets : List ℕ → Option (List ℕ)
octets [] = Some []
octets (h ∷ []) = None
octets (h ∷ l ∷ s) = byte_and (digit h) (digit l) (octets s)

-- A record: address, type and data. Count and checksum are right, and say no more.
pub record Record : Type 0 where
  pub address : ℕ
  pub type : ℕ
  pub bytes : List ℕ

unfoldable pub sum : List ℕ → ℕ
sum [] = 0
sum (b ∷ bs) = b + sum bs

-- the record of these bytes: count (1 byte), address (2), type (1), data (count), checksum (1), all of which sum to 0 modulo 256
unfoldable pub record_of : List ℕ → Option Record
record_of bs =
    let count = get_or bs 0 0 in
    cond (eqb (length bs) (count + 5) && eqb (sum bs % 256) 0) (Some (record { address = number (part 1 2 bs); type = get_or bs 3 0; bytes = part 4 count bs })) None

unfoldable pub record_in : List ℕ → Option Record
record_in l = option_and_then record_of (option_and_then octets (content l))

-- What a line says, by its record's type: data at an address (00), end of file (01), extended linear address (04), which is the upper half of those to come.
pub data Line : Type 0 where
  data00 : (address : ℕ) (bytes : List ℕ) → Line
  end01 : Line
  upper04 : (value : ℕ) → Line

-- "Read records 00, 01 and 04 only"; "Record 01 has no data bytes and 04 two; the address field of both is not looked at"
unfoldable pub meaning : Record → Option Line
meaning r =
    cond (eqb r.type 0) (Some (data00 r.address r.bytes))
    (cond (eqb r.type 1 && eqb (length r.bytes) 0) (Some end01)
    (cond (eqb r.type 4 && eqb (length r.bytes) 2) (Some (upper04 (number r.bytes))) None))

-- what a line says, if it is not broken
unfoldable pub line_of : List ℕ → Option Line
line_of l = option_and_then meaning (record_in l)
