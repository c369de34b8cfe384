-- The program of 02, change 8: "A program reads two lines from standard input, each one to nine base-ten digits and LF, L and a number of compressions, and prints as
-- one line the largest n up to 1,536 whose block messages before the last all fit, or 0 where the input is anything else, L isn't allowed or n = 2 already doesn't."
use Rattle.std.specs.Prelude.{Bool, true, cond, ◌&&◌, List, [], ◌∷◌, ◌++◌, ℕ, zero, suc, pred, ◌+◌, ◌*◌, eqb, ltb, leb, length, drop, Option, None, Some}
use Rattle.octets.specs.Octets.{equal}
use Rattle.decimal.specs.Decimal.{ascii, parsed, line}
use Rattle.sha256.specs.Sha256.{digest}
use Rattle.merkle.specs.Limits.{max_blocks}
use Rattle.merkle.specs.Hash.{plain}
use Rattle.merkle.specs.Cost.{known_cost}
use Rattle.wire.specs.Size.{allowed_length}

-- what block message i, from 1, of n blocks costs, i before the last, so that its block has L bytes
abbrev pub message_cost : (L n i : ℕ) → ℕ
message_cost L n i = known_cost (plain digest) L n (pred i) L

-- whether every number from 1 to k passes the test
unfoldable pub all_to : (test : ℕ → Bool) (k : ℕ) → Bool
all_to test zero = true
all_to test (suc k) = all_to test k && test (suc k)

-- n's "block messages before the last all fit": messages 1 to n - 1 into B compressions
unfoldable pub all_fit : (L B n : ℕ) → Bool
all_fit L B n = all_to (λ i. leb (message_cost L n i) B) (pred n)

-- the largest number up to k that passes the test, 0 where none does
unfoldable pub largest_to : (test : ℕ → Bool) (k : ℕ) → ℕ
largest_to test zero = 0
largest_to test (suc k) = cond (test (suc k)) (suc k) (largest_to test k)

-- "the largest n up to 1,536 .., or 0 where .. L isn't allowed or n = 2 already doesn't"
unfoldable pub most_blocks : (L B : ℕ) → ℕ
most_blocks L B = cond (allowed_length L && all_fit L B 2) (largest_to (all_fit L B) max_blocks) 0

abbrev pub LF : List ℕ
LF = ascii "\n"

-- what stands before the first LF, all of it where there is none
unfoldable pub before_lf : List ℕ → List ℕ
before_lf [] = []
before_lf (b ∷ bs) = cond (eqb b 10) [] (b ∷ before_lf bs)

-- the second line: before the next LF
unfoldable pub second_line : List ℕ → List ℕ
second_line input = before_lf (drop (suc (length (before_lf input))) input)

-- "one to nine base-ten digits"
unfoldable pub short_number : List ℕ → Option ℕ
short_number text = cond (ltb 9 (length text)) None (parsed text)

-- "or 0 where the input is anything else" (in 02's words: Claims, `LinesRead` and `ElseZero`)
unfoldable pub answer : (input : List ℕ) → ℕ
answer input =
    let first = before_lf input in
    let second = second_line input in
    cond (equal input (first ++ LF ++ second ++ LF))
    (elim (short_number first) [ None ↦ 0 | Some L ↦ elim (short_number second) [ None ↦ 0 | Some B ↦ most_blocks L B ] ]) 0

-- "prints as one line"
abbrev pub printed : (input : List ℕ) → List ℕ
printed input = line [] (answer input)

-- the longest right input, and a byte more: so much the program reads (Claims, `CutSame`)
abbrev pub input_length : ℕ
input_length = 2 * (9 + 1) + 1
