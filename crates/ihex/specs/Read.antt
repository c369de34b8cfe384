-- What reading a text answers, and what it leaves in the caller's buffer (02, change 3).
use Rattle.std.specs.Prelude.{Bool, true, false, cond, ◌||◌, List, [], ◌∷◌, ◌++◌, ℕ, suc, ◌+◌, ◌*◌, ◌^◌, ltb, length}
use Rattle.std.specs.Prelude.{Option, None, Some, Result, Ok, Err}
use Rattle.wire.specs.declared.refusal.Refusal.{Refusal}
use Rattle.wire.specs.declared.refusal.Refusal.TheVariants as refusal
use Rattle.wire.specs.Refusal.{first_that_applies}
use Rattle.wire.specs.Message.{at_start}
use Rattle.ihex.specs.declared.reading.Fault.{Fault}
use Rattle.ihex.specs.Line.{Line, data00, end01, upper04, line_of}
use Rattle.ihex.specs.Text.{lines, Byte, placed, any_outside, any_repeated, image_of}

-- "a given length, 1 to 32,768 bytes"
abbrev pub max_length : ℕ
max_length = 32768

-- "Another length, or a last byte above address 4,294,967,295"
unfoldable pub wrong_length : (base k : ℕ) → Bool
wrong_length base k = ltb k 1 || (ltb max_length k || ltb (2 ^ 32) (base + k))

-- What the lines before one leave: the last 04 value, 0 before any; the bytes named; whether the end record has come.
pub record Before : Type 0 where
  pub upper : ℕ
  pub named : List Byte
  pub ended : Bool

unfoldable pub start : Before
start = record { upper = 0; named = []; ended = false }

-- the bytes that a line names; the last 04 value after it; whether it is the end record
abbrev pub named_by : ℕ → Option Line → List Byte
named_by u None = []
named_by u (Some (data00 a vs)) = placed (u * 65536 + a) vs
named_by u (Some end01) = []
named_by u (Some (upper04 v)) = []

abbrev pub upper_after : ℕ → Option Line → ℕ
upper_after u None = u
upper_after u (Some (data00 a vs)) = u
upper_after u (Some end01) = u
upper_after u (Some (upper04 v)) = v

abbrev pub is_end : Option Line → Bool
is_end None = false
is_end (Some (data00 a vs)) = false
is_end (Some end01) = true
is_end (Some (upper04 v)) = false

abbrev pub is_broken : Option Line → Bool
is_broken None = true
is_broken (Some x) = false

-- what is left after one line more, which is not refused, and so does not stand behind the end record
unfoldable pub after : Before → Option Line → Before
after b x = record { upper = upper_after b.upper x; named = b.named ++ named_by b.upper x; ended = is_end x }

-- a line's refusals, "within a line in this order"; "any byte after the end record is a broken line"
unfoldable pub refusals : (base k : ℕ) → Before → Option Line → List (Refusal × Bool)
refusals base k b x =
    let new = named_by b.upper x in
    (refusal.Text, b.ended || is_broken x) ∷ (refusal.Place, any_outside base k new) ∷ (refusal.Twice, any_repeated b.named new) ∷ []

-- What a text comes to: the bytes that it names, or a refusal at a line.
pub data Judged : Type 0 where
  names : List Byte → Judged
  fault : Refusal → ℕ → Judged

-- "the earliest line first"; these lines are numbered from n on, and a missing end is at the line after the last
unfoldable pub judge : (base k : ℕ) → Before → ℕ → List (List ℕ) → Judged
judge base k b n [] = cond b.ended (names b.named) (fault refusal.Text n)
judge base k b n (l ∷ ls) = elim (first_that_applies (refusals base k b (line_of l))) [ None ↦ judge base k (after b (line_of l)) (suc n) ls | Some r ↦ fault r n ]

unfoldable pub judged : (base k : ℕ) → List ℕ → Judged
judged base k text = judge base k start 1 (lines text)

-- an answer: the image is in the buffer, or a refusal, with the number of the line at fault
abbrev pub TextAnswer : Type 0
TextAnswer = Result (Unit {0}) Fault

abbrev pub Read : TextAnswer
Read = Ok tt

abbrev pub Refused : Refusal → ℕ → TextAnswer
Refused r n = Err (record { refusal = r; line = n })

pub record TextOutcome : Type 0 where
  pub answer : TextAnswer
  pub buffer : List ℕ

-- the image at the start of the buffer, "bytes beyond it stay"; after a refusal all bytes stay
unfoldable pub text_outcome : (base k : ℕ) → List ℕ → Judged → TextOutcome
text_outcome base k buffer j =
    elim j [
      | names bs ↦ record { answer = Read; buffer = at_start (image_of base k bs) buffer }
      | fault r n ↦ record { answer = Refused r n; buffer = buffer }
    ]

-- 5 and 8 come before any line: their line is 0
unfoldable pub read : (text : List ℕ) (base k : ℕ) (buffer : List ℕ) → TextOutcome
read text base k buffer =
    elim (first_that_applies ((refusal.Size, wrong_length base k) ∷ (refusal.Area, ltb (length buffer) k) ∷ [])) [
      | None ↦ text_outcome base k buffer (judged base k text)
      | Some r ↦ record { answer = Refused r 0; buffer = buffer }
    ]
