-- What is shown of the definitions (in proofs/).
use Rattle.std.specs.Prelude.{◌≡◌, ◌≢◌, true, false, List, ◌++◌, ℕ, ◌≤◌, ◌<◌, length, take}
use Rattle.decimal.specs.Decimal.{digits, value}
use Rattle.sha256.specs.Sha256.{digest}
use Rattle.merkle.specs.Limits.{max_blocks}
use Rattle.wire.specs.declared.manifest.Manifest.{Manifest}
use Rattle.wire.specs.Size.{allowed_length, wrong_size}
use Rattle.wire.specs.Geometry.{count_of}
use Rattle.wire.specs.Message.{due_length}
use Rattle.wire.specs.Cost.{block_cost}
use Rattle.wake.specs.Wake.{most_blocks, LF, answer, input_length}

-- A program of blocks of L bytes, as a manifest has it.
pub record ProgramOf (L : ℕ) (s : Manifest) : Type 0 where
  pub blocks : s.block_len ≡ L
  pub size : wrong_size s.block_len s.image_len ≡ false

-- Bytes of block message i's length, and a flash with room for the image.
pub record MessageOf (s : Manifest) (i : ℕ) (flash m : List ℕ) : Type 0 where
  pub area : s.image_len ≤ length flash
  pub long : length m ≡ due_length s.block_len s.image_len i

-- r is the largest: the messages before the last of every program of at most r blocks fit, by the tree's definition and whatever messages and flash hold, and of every
-- larger program already the first one does not. Where two blocks do not fit, 0 and 1 would both be so; it is "0 where .. n = 2 already doesn't", and where "L isn't
-- allowed".
pub record Largest (L B r : ℕ) : Type 0 where
  pub limit : r ≤ max_blocks
  pub several : r ≢ 1
  pub allowed : allowed_length L ≡ false → r ≡ 0
  pub fits : (s : Manifest) → ProgramOf L s → count_of s ≤ r → (i : ℕ) → 0 < i → i < count_of s → (flash m : List ℕ) → MessageOf s i flash m
      → block_cost digest s i flash m ≤ B
  pub larger : (s : Manifest) → ProgramOf L s → 1 < count_of s → r < count_of s → (flash m : List ℕ) → MessageOf s 1 flash m → B < block_cost digest s 1 flash m

abbrev pub MostFit : (most : ℕ → ℕ → ℕ) → Type 0
MostFit most = (L B : ℕ) → Largest L B (most L B)

-- "two lines .., each one to nine base-ten digits and LF", and nothing else
pub record ShortDigits (text : List ℕ) : Type 0 where
  pub all : digits text ≡ true
  pub some : 1 ≤ length text
  pub few : length text ≤ 9

pub record TwoLines (input first second : List ℕ) : Type 0 where
  pub is : input ≡ first ++ LF ++ second ++ LF
  pub one : ShortDigits first
  pub two : ShortDigits second

abbrev pub LinesRead : Type 0
LinesRead = (input first second : List ℕ) → TwoLines input first second → answer input ≡ most_blocks (value 0 first) (value 0 second)

abbrev pub ElseZero : Type 0
ElseZero = (input : List ℕ) → ((first second : List ℕ) → TwoLines input first second → ⊥) → answer input ≡ 0

-- The program reads no more than `input_length` bytes: the answer to these is the answer to all.
abbrev pub CutSame : Type 0
CutSame = (input : List ℕ) → answer (take input_length input) ≡ answer input
