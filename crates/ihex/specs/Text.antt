-- A text's lines, and the bytes that they name (02, change 3).
use Rattle.std.specs.Prelude.{◌≡◌, Bool, false, cond, ◌||◌, List, [], ◌∷◌, ◌++◌, ℕ, zero, suc, ◌+◌, ◌*◌, ◌%◌, ◌^◌, leb, ltb, eqb}
use Rattle.std.specs.Prelude.{Some}
use Rattle.ihex.specs.Line.{LF, data00, end01, upper04, line_of}

-- a byte before the first of these lines
abbrev pub longer : ℕ → List (List ℕ) → List (List ℕ)
longer c [] = (c ∷ []) ∷ []
longer c (l ∷ ls) = (c ∷ l) ∷ ls

-- each line goes up to its LF; the last one to the end of the text, where that is no LF
unfoldable pub lines : List ℕ → List (List ℕ)
lines [] = []
lines (c ∷ s) = cond (eqb c LF) ((c ∷ []) ∷ lines s) (longer c (lines s))

-- A byte that a text names.
pub record Byte : Type 0 where
  pub address : ℕ
  pub value : ℕ

-- data whose first byte is at a: each byte at "the last 04 value .. times 65,536, plus the record's address, plus the byte's position, modulo 2 to the power 32"
unfoldable pub placed : ℕ → List ℕ → List Byte
placed a [] = []
placed a (v ∷ vs) = record { address = a % 2 ^ 32; value = v } ∷ placed (suc a) vs

-- Lines that keep the rules, and the bytes that they name, in their order: data and upper halves, and last the end record. u is the last 04 value.
pub data Names : ℕ → List (List ℕ) → List Byte → Type 0 where
  ended : {u : ℕ} {l : List ℕ} → line_of l ≡ Some end01 → Names u (l ∷ []) []
  named : {u a : ℕ} {l vs : List ℕ} {ls : List (List ℕ)} {bs : List Byte} → line_of l ≡ Some (data00 a vs) → Names u ls bs → Names u (l ∷ ls) (placed (u * 65536 + a) vs ++ bs)
  under : {u v : ℕ} {l : List ℕ} {ls : List (List ℕ)} {bs : List Byte} → line_of l ≡ Some (upper04 v) → Names v ls bs → Names u (l ∷ ls) bs

-- whether a byte is outside the k bytes from address base on
unfoldable pub outside : (base k a : ℕ) → Bool
outside base k a = ltb a base || leb (base + k) a

unfoldable pub any_outside : (base k : ℕ) → List Byte → Bool
any_outside base k [] = false
any_outside base k (b ∷ bs) = outside base k b.address || any_outside base k bs

-- whether a byte at address a is among these
unfoldable pub is_named : ℕ → List Byte → Bool
is_named a [] = false
is_named a (b ∷ bs) = eqb b.address a || is_named a bs

-- whether a byte of the second list is at the address of one of the first list, or of an earlier one of its own
unfoldable pub any_repeated : List Byte → List Byte → Bool
any_repeated before [] = false
any_repeated before (b ∷ bs) = is_named b.address before || any_repeated (before ++ (b ∷ [])) bs

-- the value at address a: "unnamed bytes are 0xFF"
unfoldable pub value_at : ℕ → List Byte → ℕ
value_at a [] = 0xFF
value_at a (b ∷ bs) = cond (eqb b.address a) b.value (value_at a bs)

-- the image of k bytes from address base on
unfoldable pub image_of : (base k : ℕ) → List Byte → List ℕ
image_of base zero bs = []
image_of base (suc k) bs = value_at base bs ∷ image_of (suc base) k bs
