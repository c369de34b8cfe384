-- Numbers in base ten, as bytes: read from a text, and written in a line.
use Rattle.std.specs.Prelude.{Bool, true, false, cond, not, ◌&&◌, ◌||◌, List, [], ◌∷◌, ◌++◌, ℕ, zero, suc, ◌+◌, ◌-◌, ◌*◌, ◌/◌, ◌%◌, eqb, ltb, length, Option, None, Some}
use Prim.Native.Char.{code}
use Prim.Native.String.{String}

-- a text's bytes
abbrev pub ascii : String → List ℕ
ascii String.[] = []
ascii (String.◌∷◌ c s) = code c ∷ ascii s

-- whether each byte is one of the digits '0' to '9', which are 48 to 57
unfoldable pub digits : List ℕ → Bool
digits [] = true
digits (d ∷ ds) = not (ltb d 48 || ltb 57 d) && digits ds

-- the number that v and these digits behind it stand for
unfoldable pub value : ℕ → List ℕ → ℕ
value v [] = v
value v (d ∷ ds) = value (v * 10 + (d - 48)) ds

-- no digit, anything but digits, or more than 2 ^ 32 - 1
unfoldable pub wrong : List ℕ → Bool
wrong text = eqb (length text) 0 || (not (digits text) || ltb 4294967295 (value 0 text))

unfoldable pub parsed : List ℕ → Option ℕ
parsed text = cond (wrong text) None (Some (value 0 text))

-- n in base ten, without leading zeros; k, above n, only bounds the recursion. (The choice is an `elim`, which works out the taken branch alone; a `cond` would go
-- on to the bound.)
unfoldable pub decimal_within : ℕ → ℕ → List ℕ
decimal_within zero n = []
decimal_within (suc k) n = elim (ltb n 10) [ true ↦ (48 + n) ∷ [] | false ↦ decimal_within k (n / 10) ++ ((48 + n % 10) ∷ []) ]

unfoldable pub decimal : ℕ → List ℕ
decimal n = decimal_within (suc n) n

-- words and a number; every line ends in one line feed
unfoldable pub line : List ℕ → ℕ → List ℕ
line words n = words ++ decimal n ++ ascii "\n"
