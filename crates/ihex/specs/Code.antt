-- For the code alone: what it reads, as its own types say it.
use Rattle.std.specs.Prelude.{◌≡◌, Bool, true, false, cond, ◌&&◌, ◌||◌, List, [], ◌++◌, ℕ, ◌+◌, ◌*◌, ◌/◌, ◌%◌, ◌^◌, ◌<◌, leb, ltb, eqb, length, get_or}
use Rattle.std.specs.Prelude.{Option, None, Some, option_map, Result, Ok, Err}
use Rattle.wire.specs.declared.refusal.Refusal.{Refusal}
use Rattle.wire.specs.Refusal.{first_that_applies}
use Rattle.ihex.specs.declared.record.Record as code
use Rattle.ihex.specs.declared.line.Line as code_line
use Rattle.ihex.specs.declared.line.Line.TheVariants as line
use Rattle.ihex.specs.Line.{digit, Record, sum, Line, data00, end01, upper04}
use Rattle.ihex.specs.Text.{Byte, any_outside, is_named, any_repeated, image_of}
use Rattle.ihex.specs.Read.{TextAnswer, Read, Refused, Before, wrong_length, named_by, upper_after, is_end, Judged, names, fault, refusals}

-- the byte of two digits
abbrev pub byte_of : Option ℕ → Option ℕ → Option ℕ
byte_of None low = None
byte_of (Some h) None = None
byte_of (Some h) (Some l) = Some (16 * h + l)

-- byte i of a line's record
unfoldable pub octet_at : List ℕ → ℕ → Option ℕ
octet_at l i = byte_of (digit (get_or l (1 + 2 * i) 0)) (digit (get_or l (2 + 2 * i) 0))

-- the number in two bytes
abbrev pub pair_of : Option ℕ → Option ℕ → Option ℕ
pair_of None low = None
pair_of (Some h) None = None
pair_of (Some h) (Some l) = Some (h * 256 + l)

-- the number in bytes i and i + 1 of a line's record
abbrev pub pair_at : List ℕ → ℕ → Option ℕ
pair_at l i = pair_of (octet_at l i) (octet_at l (i + 1))

-- the sum of a and these bytes modulo 256, if they are all written in digits
abbrev pub sum_of : ℕ → Option (List ℕ) → Option ℕ
sum_of a = option_map (λ bs. (a + sum bs) % 256)

abbrev pub record_read : Option Record → Option code.Record
record_read = option_map (λ r. record { address = r.address; kind = r.type; count = length r.bytes })

abbrev pub line_read : Option Line → Option code_line.Line
line_read None = None
line_read (Some (data00 a vs)) = Some (line.Data a (length vs))
line_read (Some end01) = Some line.End
line_read (Some (upper04 v)) = Some (line.Upper v)

-- the bytes of a line's data
abbrev pub data_in : Option Line → List ℕ
data_in None = []
data_in (Some (data00 a vs)) = vs
data_in (Some end01) = []
data_in (Some (upper04 v)) = []

-- bit i of the bytes
unfoldable pub bit : List ℕ → ℕ → Bool
bit s i = eqb (get_or s (i / 8) 0 / 2 ^ (i % 8) % 2) 1

unfoldable pub among : (from count i : ℕ) → Bool
among from count i = leb from i && ltb i (from + count)

-- Bits from `from` on were looked at: one was set, or they are set now, and no other was touched.
pub record Marked (before : List ℕ) (from count : ℕ) (found : Bool) (after : List ℕ) : Type 0 where
  pub one : found ≡ true → (i : ℕ) × ((among from count i ≡ true) × (bit before i ≡ true))
  pub none : found ≡ false → (i : ℕ) → among from count i ≡ true → bit before i ≡ false
  pub set : found ≡ false → (i : ℕ) → bit after i ≡ bit before i || among from count i

-- The bits say which bytes of the image are named.
abbrev pub Seen : (base k : ℕ) → List Byte → List ℕ → Type 0
Seen base k bs seen = (i : ℕ) → i < k → bit seen i ≡ is_named (base + i) bs

-- the last 04 value, or none after the end record
abbrev pub state_of : Before → Option ℕ
state_of b = cond b.ended None (Some b.upper)

abbrev pub Step : Type 0
Step = Result (Option ℕ) Refusal

-- what a line leads to, after lines that left b: what they leave with it
abbrev pub step_of : Option Refusal → Before → Option Line → Step
step_of (Some r) b x = Err r
step_of None b x = Ok (cond (is_end x) None (Some (upper_after b.upper x)))

-- A line x was judged after lines that left u.
pub record Steps (base k : ℕ) (u : Option ℕ) (x : Option Line) (before : List ℕ) (r : Step) (after : List ℕ) : Type 0 where
  pub answered : (b : Before) → u ≡ state_of b → Seen base k b.named before → r ≡ step_of (first_that_applies (refusals base k b x)) b x
  pub seen : (b : Before) → u ≡ state_of b → Seen base k b.named before → first_that_applies (refusals base k b x) ≡ None → Seen base k (b.named ++ named_by b.upper x) after

-- A line x whose bytes are in an image of an allowed length and place.
abbrev pub Placeable : (base k u : ℕ) → Option Line → Type 0
Placeable base k u x = (wrong_length base k ≡ false) × (any_outside base k (named_by u x) ≡ false)

-- The bytes of a line x were added to the image of those named before.
pub record Places (base k u : ℕ) (x : Option Line) (before : List ℕ) (r : ℕ) (after : List ℕ) : Type 0 where
  pub upper : r ≡ upper_after u x
  pub image : (bs : List Byte) → any_repeated bs (named_by u x) ≡ false → before ≡ image_of base k bs → after ≡ image_of base k (bs ++ named_by u x)

abbrev pub text_answer : Judged → TextAnswer
text_answer (names bs) = Read
text_answer (fault r n) = Refused r n
