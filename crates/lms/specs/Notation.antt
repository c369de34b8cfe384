-- RFC 8554, section 3.1: numbers and strings of bytes. Section 7.1: the marks that keep its hash inputs apart.
use Rattle.std.specs.Prelude.{List, ℕ, ◌+◌, ◌-◌, ◌*◌, ◌/◌, ◌%◌, ◌^◌, get_or}
use Rattle.std.specs.Int.Bits.{bit_and}
use Rattle.octets.specs.Octets.{bytes, number}
use Rattle.sha256.specs.Sha256.{digest}

-- a number as one, two or four bytes, and the number that four bytes stand for, all big-endian
abbrev pub u8str : ℕ → List ℕ
u8str x = bytes 1 x

abbrev pub u16str : ℕ → List ℕ
u16str x = bytes 2 x

abbrev pub u32str : ℕ → List ℕ
u32str x = bytes 4 x

abbrev pub strTou32 : List ℕ → ℕ
strTou32 s = number s

-- 3.1.3: digit i of S in digits of w bits, the most significant digit of a byte first:
-- (2^w - 1) AND (byte(S, floor(i * w / 8)) >> (8 - (w * (i % (8 / w)) + w)))
unfoldable pub coef : List ℕ → ℕ → ℕ → ℕ
coef S i w = bit_and (2 ^ w - 1) (get_or S (i * w / 8) 0 / 2 ^ (8 - (w * (i % (8 / w)) + w)))

-- 4.1, 5.1: the hash function of every type below is SHA-256, so that n and m are 32
abbrev pub H : List ℕ → List ℕ
H s = digest s

-- 7.1
abbrev pub D_PBLC : ℕ
D_PBLC = 0x8080

abbrev pub D_MESG : ℕ
D_MESG = 0x8181

abbrev pub D_LEAF : ℕ
D_LEAF = 0x8282

abbrev pub D_INTR : ℕ
D_INTR = 0x8383
